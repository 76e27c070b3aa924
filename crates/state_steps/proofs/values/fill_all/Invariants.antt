use Rattle.std.proofs.Common.{◌≡◌, ◌++◌, drop}
use Rattle.state_steps.specs.Whole.{all_filled}
use Rattle.state_steps.proofs.values.fill_all.Given as goal

abbrev pub invariant-loop-at : goal.invariant-loop-at
invariant-loop-at g l = l.steps ≡ l.initial.steps ++ all_filled l.meta (g.L.Look.state l.look) (drop l.at l.slots)
