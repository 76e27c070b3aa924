-- The versions at the end of a path that have no entry, and the state before them: what the loop keeps as it goes back.
use Rattle.std.proofs.Common.{◌≡◌, ◌≢◌, ◌<◌, ◌++◌, ◌∷◌, [], length, List, ℕ, None, arith, refl, sym, ◌∙◌, ap, subst, reverse, append-nil}
use Rattle.std.specs.Prelude.{All, nat_eq}
use Rattle.std.specs.Map.{lookup}
use Rattle.std.proofs.lemmas.List.Elements.{All-append, All-cons, All-nil}
use Rattle.state_cache.specs.Entries.{Entries, stands}
use Rattle.model_state.specs.State.{State, nothing}
use Rattle.model_state.specs.Packages.{fold_package}
use Rattle.history_tree.specs.History.{path}
use Rattle.history_tree.specs.Laws.{path_of_parent}
use Rattle.history_tree.specs.States.{operations_of, state_folded}
use Rattle.history_tree.specs.Whole.{ComesBefore}
use Rattle.history_tree.proofs.Paths.{path_step}
use Rattle.version_states.proofs.Caching.{all_reversed, leads_on, rest_there, uses_none, uses_on}
use Rattle.version_states.proofs.cached.nearest.Goals as goal

pub loop-parent-init : goal.loop-parent-init
loop-parent-init c =
    let h = c.args.history.now.history in
    let pushed : c.push.new.self.items ≡ c.args.v ∷ [] = grind (arith, c.in_ok-push.ensures.items, c.new-back.ensures.items) in
    let P = λ (u : ℕ). u ≢ c.args.v → lookup (nat_eq u) (stands c.args.pool.now c.args.cache.now) ≡ None in
    record {
      there = c.requires.there;
      same = refl;
      missing = subst (All P) (sym pushed) (All-cons P c.args.v [] (λ other. absurd (other refl)) (All-nil P));
      found = λ v there. sym (append-nil (path h c.args.v)) ∙ path_step h c.recall_wholeness.ensures [] c.args.v v there
          ∙ ap (λ l. path_of_parent h v.parent ++ reverse l) (sym pushed);
      uses = uses_none c.args.pool.now c.args.cache.now c.requires.usable;
      forms = c.requires.forms;
    }

pub returns-in-Some-2-clause-leads : goal.returns-in-Some-2-clause-leads
returns-in-Some-2-clause-leads c =
    let meta = c.args.meta.now in
    let h = c.args.history.now.history in
    let back = c.loop-parent.back.items in
    let split : path h c.args.v ≡ path h c.in-Some.parent ++ reverse back =
    c.loop-parent.invariant.found c.version.result.now c.version.ensures.version ∙ ap (λ o. path_of_parent h o ++ reverse back) c.in-Some.is in
    subst (λ (l : List ℕ). state_folded meta h c.args.v ≡ fold_package meta c.in-Some-2.model (operations_of h.versions l)) (sym c.reverse.ensures.items)
    (leads_on meta h c.in-Some.parent c.args.v (reverse back) c.in-Some-2.model split c.requires.leads (rw c.in-Some-2.is at c.in_ok-model.ensures.state))

pub returns-in-Some-2-clause-there : goal.returns-in-Some-2-clause-there
returns-in-Some-2-clause-there c =
    let h = c.args.history.now.history in
    let back = c.loop-parent.back.items in
    let split : path h c.args.v ≡ path h c.in-Some.parent ++ reverse back =
    c.loop-parent.invariant.found c.version.result.now c.version.ensures.version ∙ ap (λ o. path_of_parent h o ++ reverse back) c.in-Some.is in
    subst (All (λ u. u < length h.versions)) (sym c.reverse.ensures.items) (rest_there h c.args.v (path h c.in-Some.parent) (reverse back) split)

pub loop-parent-preserved : goal.loop-parent-preserved
loop-parent-preserved c =
    let h = c.args.history.now.history in
    let back = c.loop-parent.back.items in
    let parent = c.in-Some.parent in
    let pushed : c.push-in-Some.new.self.items ≡ back ++ parent ∷ [] = grind (arith, c.in_ok-push-2.ensures.items) in
    let before : parent < c.loop-parent.at = subst (λ o. ComesBefore o c.loop-parent.at) c.in-Some.is c.version.ensures.parent in
    let P = λ (u : ℕ). u ≢ c.args.v → lookup (nat_eq u) (stands c.args.pool.now c.args.cache.now) ≡ None in
    let none : lookup (nat_eq parent) (stands c.args.pool.now c.loop-parent.cache) ≡ None = rw c.in_default-2.is at c.in_ok-model.ensures.none in
    let same : c.cached_state.new.cache ≡ c.loop-parent.cache = rw c.in_default-2.is at c.in_ok-model.ensures.same in
    record {
      same = same ∙ c.loop-parent.invariant.same;
      missing = subst (All P) (sym pushed)
          (All-append P back (parent ∷ []) c.loop-parent.invariant.missing
          (All-cons P parent []
          (λ other. subst (λ (es : Entries). lookup (nat_eq parent) (stands c.args.pool.now es) ≡ None) c.loop-parent.invariant.same none)
          (All-nil P)));
      there = omega (arith, before, c.loop-parent.invariant.there);
      found = λ v there. c.loop-parent.invariant.found c.version.result.now c.version.ensures.version
          ∙ ap (λ o. path_of_parent h o ++ reverse back) c.in-Some.is
          ∙ path_step h c.recall_wholeness.ensures back parent v there ∙ ap (λ l. path_of_parent h v.parent ++ reverse l) (sym pushed);
      uses = uses_on c.args.pool.now c.args.pool.now c.args.pool.now c.args.cache.now c.loop-parent.cache c.cached_state.new.cache
          c.loop-parent.invariant.uses c.cached_state.ensures.uses;
      forms = c.cached_state.ensures.forms;
    }

pub returns-clause-leads : goal.returns-clause-leads
returns-clause-leads c =
    let meta = c.args.meta.now in
    let h = c.args.history.now.history in
    let back = c.loop-parent.back.items in
    let split : path h c.args.v ≡ reverse back =
    c.loop-parent.invariant.found c.version.result.now c.version.ensures.version ∙ ap (λ o. path_of_parent h o ++ reverse back) c.in_default.is in
    ap (λ (l : List ℕ). fold_package meta nothing (operations_of h.versions l)) (split ∙ sym c.reverse-2.ensures.items)
    ∙ ap (λ (m : State). fold_package meta m (operations_of h.versions c.reverse-2.new.self.items)) (sym c.new.ensures.empty)

pub returns-clause-there : goal.returns-clause-there
returns-clause-there c =
    let h = c.args.history.now.history in
    let back = c.loop-parent.back.items in
    let split : path h c.args.v ≡ reverse back =
    c.loop-parent.invariant.found c.version.result.now c.version.ensures.version ∙ ap (λ o. path_of_parent h o ++ reverse back) c.in_default.is in
    subst (All (λ u. u < length h.versions)) (sym c.reverse-2.ensures.items) (rest_there h c.args.v [] (reverse back) split)

pub returns-in-Some-2-clause-missing : goal.returns-in-Some-2-clause-missing
returns-in-Some-2-clause-missing c =
    let P = λ (u : ℕ). u ≢ c.args.v → lookup (nat_eq u) (stands c.args.pool.now c.args.cache.now) ≡ None in
    subst (All P) (sym c.reverse.ensures.items) (all_reversed P c.loop-parent.back.items c.loop-parent.invariant.missing)

pub returns-clause-missing : goal.returns-clause-missing
returns-clause-missing c =
    let P = λ (u : ℕ). u ≢ c.args.v → lookup (nat_eq u) (stands c.args.pool.now c.args.cache.now) ≡ None in
    subst (All P) (sym c.reverse-2.ensures.items) (all_reversed P c.loop-parent.back.items c.loop-parent.invariant.missing)
