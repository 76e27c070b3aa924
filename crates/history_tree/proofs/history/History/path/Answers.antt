use Rattle.std.proofs.Common.{length, ◌≡◌, ◌<◌, ◌++◌, ◌∷◌, [], arith, sym, ap, subst, ◌∙◌, reverse, append-nil}
use Rattle.history_tree.specs.History.{path}
use Rattle.history_tree.specs.Laws.{path_of_parent}
use Rattle.history_tree.specs.Whole.{ComesBefore}
use Rattle.history_tree.proofs.Paths.{path_step}
use Rattle.std.specs.Prelude.{All}
use Rattle.history_tree.proofs.Steady.{path_there}
use Rattle.history_tree.proofs.history.History.path.Goals as goal

pub loop-parent-init : goal.loop-parent-init
loop-parent-init c =
    let h = c.args.self.now.history in
    let pushed : c.push.new.self.items ≡ c.args.v ∷ [] = grind (arith, c.in_ok-push.ensures.items, c.new-back.ensures.items) in
    record {
      there = c.requires.there;
      found = λ v there. sym (append-nil (path h c.args.v)) ∙ path_step h c.recall_wholeness.ensures [] c.args.v v there
          ∙ ap (λ l. path_of_parent h v.parent ++ reverse l) (sym pushed);
    }

pub loop-parent-preserved : goal.loop-parent-preserved
loop-parent-preserved c =
    let h = c.args.self.now.history in
    let back = c.loop-parent.back.items in
    let parent = c.in-Some.parent in
    let pushed : c.push-in-Some.new.self.items ≡ back ++ parent ∷ [] = grind (arith, c.in_ok-push-2.ensures.items) in
    let before : parent < c.loop-parent.at = subst (λ o. ComesBefore o c.loop-parent.at) c.in-Some.is c.version.ensures.parent in
    record {
      there = omega (arith, before, c.loop-parent.invariant.there);
      found = λ v there. c.loop-parent.invariant.found c.version.result.now c.version.ensures.version
          ∙ ap (λ o. path_of_parent h o ++ reverse back) c.in-Some.is
          ∙ path_step h c.recall_wholeness.ensures back parent v there ∙ ap (λ l. path_of_parent h v.parent ++ reverse l) (sym pushed);
    }

pub returns : goal.returns
returns c =
    let h = c.args.self.now.history in
    let back = c.loop-parent.back.items in
    let found : c.from_vec.result ≡ path h c.args.v =
    c.from_vec.ensures ∙ c.reverse.ensures.items
    ∙ sym (c.loop-parent.invariant.found c.version.result.now c.version.ensures.version ∙ ap (λ o. path_of_parent h o ++ reverse back) c.in_default.is) in
    record {
      path = found;
      there = subst (λ p. All (λ u. u < length h.versions) p) (sym found) (path_there h c.args.v);
    }
