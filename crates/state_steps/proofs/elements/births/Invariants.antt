use Rattle.std.proofs.Common.{◌≡◌, ◌++◌, take}
use Rattle.state_steps.specs.Whole.{births}
use Rattle.state_steps.proofs.elements.births.Given as goal

abbrev pub invariant-loop-at : goal.invariant-loop-at
invariant-loop-at g l = l.steps ≡ l.initial.steps ++ births (g.L.Look.state l.look) (take l.at l.elements)
