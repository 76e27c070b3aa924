use Rattle.std.proofs.Common.{ℕ, List, ◌≡◌, ◌<◌, ◌++◌, All, length, nat_lt, reverse, arith, sym, ◌∙◌, ap, subst, append-nil}
use Rattle.std.proofs.lemmas.List.Elements.{All-filter}
use Rattle.history_tree.specs.History.{path}
use Rattle.history_tree.specs.Since.{path_after}
use Rattle.history_tree.proofs.Since.{nothing_past, after_further}
use Rattle.history_tree.proofs.Steady.{path_there}
use Rattle.merge_plans.proofs.gathering.path_after.Goals as goal

pub loop-at-init : goal.loop-at-init
loop-at-init c =
    let h = c.args.history.now.history in
    record {
      there = c.requires.there;
      found = sym (append-nil (path_after h c.args.v c.args.last))
          ∙ ap (λ (l : List ℕ). path_after h c.args.v c.args.last ++ reverse l) (sym c.new-back.ensures.items);
    }

pub loop-at-preserved : goal.loop-at-preserved
loop-at-preserved c =
    let h = c.args.history.now.history in
    let at = c.loop-at.at in
    record {
      there = omega (arith, c.loop-at.invariant.there, c.parent_of-at.ensures.before);
      found = after_further h c.args.v c.args.last at c.parent_of-at.result c.loop-at.back.items c.parent_of-at.ensures.path c.loop-at-test.true
          c.loop-at.invariant.found
          ∙ ap (λ (l : List ℕ). path_after h c.args.v c.parent_of-at.result ++ reverse l) (sym c.in_ok-push.ensures.items);
    }

pub returns : goal.returns
returns c =
    let h = c.args.history.now.history in
    let below : ℕ → Type 0 = λ u. u < length h.versions in
    let found : c.from_vec.result ≡ path_after h c.args.v c.args.last =
    c.from_vec.ensures ∙ c.reverse.ensures.items
    ∙ sym (c.loop-at.invariant.found
    ∙ ap (λ (l : List ℕ). l ++ reverse c.loop-at.back.items)
    (nothing_past h c.recall_wholeness.ensures c.args.v c.loop-at.at c.loop-at.invariant.there c.loop-at-test.false)) in
    record {
      path = found;
      there = subst (All below) (sym found) (All-filter (λ u. nat_lt c.args.v u) below (path h c.args.last) (path_there h c.args.last));
    }
