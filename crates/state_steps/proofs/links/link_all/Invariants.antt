use Rattle.std.proofs.Common.{◌≡◌, ◌++◌, drop}
use Rattle.state_steps.specs.Whole.{all_linked}
use Rattle.state_steps.proofs.links.link_all.Given as goal

abbrev pub invariant-loop-at : goal.invariant-loop-at
invariant-loop-at g l = l.steps ≡ l.initial.steps ++ all_linked l.meta (g.L.Look.state l.look).row (drop l.at l.slots)
