-- the operations of the versions gone over
use Rattle.std.proofs.Common.{◌≡◌, take}
use Rattle.history_tree.specs.States.{operations_of}
use Rattle.merge_plans.proofs.gathering.operations_after.Given as goal

abbrev pub invariant-loop-u : goal.invariant-loop-u
invariant-loop-u l = l.out ≡ operations_of l.history.history.versions (take l.u-index l.u-items)
