use Rattle.std.proofs.Common.{◌≡◌, [], ◌∷◌, ◌++◌, sym, ap, subst, ◌∙◌, reverse}
use Rattle.edit_steps.specs.Subtree.{children_of, subtree_of}
use Rattle.edit_steps.proofs.Children.{has_children}
use Rattle.edit_steps.proofs.Forests.{IsForest}
use Rattle.edit_steps.proofs.Levels.{subtree_is}
use Rattle.edit_steps.proofs.Walks.{goes_on}
use Rattle.edit_steps.proofs.walk.subtree.Goals as goal

pub loop-init : goal.loop-init
loop-init g c =
    let m = g.L.Look.state c.args.look.now in
    let meta = c.args.meta.now in
    let e = c.args.e.now in
    let whole = subtree_of meta m e in
    let stacked : c.push.new.self.items ≡ e ∷ [] = c.in_ok-push.ensures.items ∙ (λ i. c.new-stack.ensures.items i ++ c.in_ok-copy.ensures i ∷ []) in (
      whole,
      subst (λ l. IsForest meta m (reverse l) whole) (sym stacked) (subtree_is meta m c.requires.good (has_children meta m c.requires.good) e),
      ap (λ l. l ++ whole) c.new-found.ensures,
    )

pub loop-preserved : goal.loop-preserved
loop-preserved g c =
    let m = g.L.Look.state c.args.look.now in
    let meta = c.args.meta.now in
    let rest = c.loop.invariant in
    let x = c.in-Some.x in
    let stack = c.pop.new.self.items in
    let next = goes_on meta m (subtree_of meta m c.args.e.now) c.loop.found stack rest.0 x
    (subst (λ l. IsForest meta m (reverse l) rest.0) c.in-Some.ensures.items rest.1) rest.2 in
    let stacked : c.stack_up.new.stack.items ≡ stack ++ reverse (children_of meta m x) =
    c.in_ok-stack_up.ensures ∙ ap (λ l. stack ++ reverse l) c.in_ok-children_of.ensures in (
      next.0,
      subst (λ l. IsForest meta m (reverse l) next.0) (sym stacked) next.1,
      ap (λ l. l ++ next.0) c.in_ok-push-2.ensures.ok ∙ next.2,
    )
