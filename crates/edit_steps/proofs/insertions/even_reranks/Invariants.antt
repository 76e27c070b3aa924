use Rattle.std.proofs.Common.{◌≡◌, ◌++◌, take}
use Rattle.edit_steps.specs.Rows.{reranks}
use Rattle.edit_steps.specs.Spot.{evened}
use Rattle.edit_steps.proofs.insertions.even_reranks.Given as goal

abbrev pub invariant-loop-i : goal.invariant-loop-i
invariant-loop-i l = l.steps ≡ l.initial.steps ++ reranks l.a l.f (take l.i l.list) (evened 1 (take l.i l.list))
