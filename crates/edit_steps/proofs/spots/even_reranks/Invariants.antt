use Rattle.std.proofs.Common.{◌≡◌, take}
use Rattle.edit_steps.specs.Places.{rerank_places}
use Rattle.edit_steps.specs.Spot.{evened}
use Rattle.edit_steps.proofs.spots.even_reranks.Given as goal

abbrev pub invariant-loop-i : goal.invariant-loop-i
invariant-loop-i l = l.steps ≡ rerank_places (take l.i l.list) (evened 1 (take l.i l.list))
