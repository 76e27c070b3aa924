use Rattle.std.proofs.Common.{◌≡◌, ◌++◌, drop}
use Rattle.op_form.specs.Lists.{items_encoding}
use Rattle.op_form.specs.Packages.{operation_encoding}
use Rattle.op_form.proofs.write_event.put_operation_items.Given as goal

abbrev pub invariant-loop-operation : goal.invariant-loop-operation
invariant-loop-operation l =
    l.form ++ items_encoding operation_encoding (drop l.operation-index l.operations) ≡ l.initial.form ++ items_encoding operation_encoding l.operations
