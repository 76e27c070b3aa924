use Rattle.std.proofs.Common.{◌≡◌, ◌++◌, take}
use Rattle.emfjson_model.proofs.completed.joined.Given as goal

abbrev pub invariant-loop-x : goal.invariant-loop-x
invariant-loop-x l = l.all ≡ take l.x-index l.xs

abbrev pub invariant-loop-y : goal.invariant-loop-y
invariant-loop-y l = l.all ≡ l.xs ++ take l.y-index l.ys
