use Rattle.std.proofs.Common.{◌∙◌, ap, refl}
use Rattle.repo_state.specs.Sizes.{sized}
use Rattle.repo_state.proofs.Sized.{set_sized}
use Rattle.repo_state.proofs.sizes.Sizes.grow.Goals.{then-size-at, else-size-at}
use Rattle.repo_state.proofs.sizes.Sizes.grow.Goals as goal

pub loop-size-preserved : goal.loop-size-preserved
loop-size-preserved c = elim c.if-size-at.branch [
  | then-size-at w ↦ ap sized w.size-items-is ∙ set_sized c.loop-size.size-items c.loop-size.size-index _ _ refl ∙ c.loop-size.invariant
  | else-size-at w ↦ ap sized w.size-items-is ∙ set_sized c.loop-size.size-items c.loop-size.size-index _ _ refl ∙ c.loop-size.invariant
]
