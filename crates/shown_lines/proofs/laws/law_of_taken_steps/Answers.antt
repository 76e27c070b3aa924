use Rattle.shown_lines.proofs.Taken.{packages_typed, steps_typed}
use Rattle.shown_lines.proofs.laws.law_of_taken_steps.Goals as goal

pub returns : goal.returns
returns c = record { steps = steps_typed; packages = packages_typed }
