use Rattle.std.proofs.Common.{◌≡◌, ◌-◌}
use Rattle.op_reading.specs.Reading.{items_at}
use Rattle.op_reading.specs.Packages.{operation_at}
use Rattle.op_reading.proofs.Items.{behind}
use Rattle.op_reading.proofs.read_event.operation_items.Given as goal

abbrev pub invariant-loop-index : goal.invariant-loop-index
invariant-loop-index l = behind l.operations (items_at operation_at (l.count - l.index) l.reader) ≡ items_at operation_at l.count l.initial.reader
