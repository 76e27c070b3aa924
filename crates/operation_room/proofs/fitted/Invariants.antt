use Rattle.std.proofs.Common.{◌≡◌}
use Rattle.operation_room.proofs.fitted.Given as goal

abbrev pub invariant-loop-operation : goal.invariant-loop-operation
invariant-loop-operation l = l.operation-items ≡ l.fn.operations
