-- what was there, and copies of those gone over
use Rattle.std.proofs.Common.{◌≡◌, ◌++◌, take}
use Rattle.merge_plans.proofs.gathering.push_copies.Given as goal

abbrev pub invariant-loop-operation : goal.invariant-loop-operation
invariant-loop-operation l = l.out ≡ l.initial.out ++ take l.operation-index l.operations
