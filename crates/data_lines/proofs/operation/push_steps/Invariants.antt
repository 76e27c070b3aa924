use Rattle.std.proofs.Common.{◌≡◌, ◌++◌, drop, map}
use Rattle.shown_lines.specs.Lines.{step_line}
use Rattle.data_lines.proofs.operation.push_steps.Given as goal

abbrev pub invariant-loop-step : goal.invariant-loop-step
invariant-loop-step l = l.lines ++ map (step_line l.meta) (drop l.step-index l.steps) ≡ l.initial.lines ++ map (step_line l.meta) l.steps
