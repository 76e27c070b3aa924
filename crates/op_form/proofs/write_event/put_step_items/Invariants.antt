use Rattle.std.proofs.Common.{◌≡◌, ◌++◌, drop}
use Rattle.op_form.specs.Lists.{items_encoding}
use Rattle.op_form.specs.Steps.{step_encoding}
use Rattle.op_form.proofs.write_event.put_step_items.Given as goal

abbrev pub invariant-loop-step : goal.invariant-loop-step
invariant-loop-step l = l.form ++ items_encoding step_encoding (drop l.step-index l.steps) ≡ l.initial.form ++ items_encoding step_encoding l.steps
