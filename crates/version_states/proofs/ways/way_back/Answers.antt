-- The packages after the last version that both have are taken back, and the rest of the other path is answered.
use Rattle.std.proofs.Common.{◌≡◌, ◌<◌, ◌++◌, ◌∷◌, [], length, List, ℕ, refl, sym, ◌∙◌, ap, subst, arith, reverse, append-nil}
use Rattle.std.specs.Prelude.{All, Some}
use Rattle.model_state.specs.Packages.{fold_package}
use Rattle.history_tree.specs.History.{path}
use Rattle.history_tree.specs.States.{operations_of, state_folded}
use Rattle.version_states.proofs.Caching.{leads_on, rest_there}
use Rattle.version_states.proofs.Between.{parent_leads, path_ahead, version_back, version_led}
use Rattle.version_states.proofs.ways.way_back.Goals as goal

pub loop-back-init : goal.loop-back-init
loop-back-init c =
    let h = c.args.history.now.history in
    record {
      back_there = c.requires.from;
      ahead_there = c.requires.to;
      leads = c.requires.leads_from;
      state = c.requires.state;
      good = c.requires.good;
      split = sym (ap (λ (l : List ℕ). path h c.args.to ++ reverse l) c.new-rest.ensures.items ∙ append-nil (path h c.args.to));
    }

pub loop-back-preserved-then-back-ahead : goal.loop-back-preserved-then-back-ahead
loop-back-preserved-then-back-ahead c =
    let h = c.args.history.now.history in
    record {
      back_there = c.loop-back.invariant.back_there;
      ahead_there = omega (arith, c.loop-back.invariant.ahead_there, c.parent_of-ahead.ensures.before);
      leads = c.loop-back.invariant.leads;
      state = c.loop-back.invariant.state;
      good = c.loop-back.invariant.good;
      split = path_ahead h c.args.to c.loop-back.ahead c.parent_of-ahead.result c.loop-back.rest.items c.push.new.self.items c.parent_of-ahead.ensures.path
          (grind (arith, c.in_ok-push.ensures.items)) c.loop-back.invariant.split;
    }

pub take_back_version-requires-clause-led : goal.take_back_version-requires-clause-led
take_back_version-requires-clause-led c =
    version_led c.args.meta.now c.requires.sound c.args.history.now.history c.loop-back.back c.parent_of-parent.result c.parent_of-parent.ensures.path
    c.loop-back.invariant.leads c.loop-back.model c.loop-back.invariant.state

pub loop-back-preserved : goal.loop-back-preserved
loop-back-preserved c =
    let meta = c.args.meta.now in
    let h = c.args.history.now.history in
    let back = c.loop-back.back in
    let parent = c.parent_of-parent.result in
    record {
      back_there = omega (arith, c.loop-back.invariant.back_there, c.parent_of-parent.ensures.before);
      ahead_there = c.loop-back.invariant.ahead_there;
      leads = parent_leads meta c.requires.sound h back parent c.parent_of-parent.ensures.path c.loop-back.invariant.leads;
      state = version_back meta c.requires.sound h back parent c.parent_of-parent.ensures.path c.loop-back.invariant.leads c.loop-back.model
          c.take_back_version.new.model c.loop-back.invariant.state c.in_ok-take_back_version.ensures.good c.in_ok-take_back_version.ensures.back;
      good = c.in_ok-take_back_version.ensures.good;
      split = c.loop-back.invariant.split;
    }

pub returns-clause-leads : goal.returns-clause-leads
returns-clause-leads c =
    let meta = c.args.meta.now in
    let h = c.args.history.now.history in
    let rest = c.loop-back.rest.items in
    let split : path h c.args.to ≡ path h c.loop-back.back ++ reverse rest =
    c.loop-back.invariant.split ∙ ap (λ (v : ℕ). path h v ++ reverse rest) (sym c.loop-back-test.false) in
    subst (λ (l : List ℕ). state_folded meta h c.args.to ≡ fold_package meta c.loop-back.model (operations_of h.versions l)) (sym c.reverse.ensures.items)
    (leads_on meta h c.loop-back.back c.args.to (reverse rest) c.loop-back.model split c.requires.leads_to c.loop-back.invariant.state)

pub returns-clause-there : goal.returns-clause-there
returns-clause-there c =
    let h = c.args.history.now.history in
    subst (All (λ u. u < length h.versions)) (sym c.reverse.ensures.items)
    (rest_there h c.args.to (path h c.loop-back.ahead) (reverse c.loop-back.rest.items) c.loop-back.invariant.split)
