use Rattle.std.proofs.Common.{◌≡◌, ◌-◌}
use Rattle.op_reading.specs.Reading.{items_at}
use Rattle.op_reading.specs.Steps.{step_at}
use Rattle.op_reading.proofs.Items.{behind}
use Rattle.op_reading.proofs.read_event.step_items.Given as goal

abbrev pub invariant-loop-index : goal.invariant-loop-index
invariant-loop-index l = behind l.steps (items_at step_at (l.count - l.index) l.reader) ≡ items_at step_at l.count l.initial.reader
