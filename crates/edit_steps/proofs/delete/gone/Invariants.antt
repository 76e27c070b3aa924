use Rattle.std.proofs.Common.{◌≡◌, ◌++◌, drop}
use Rattle.edit_steps.specs.Deletes.{gone_made}
use Rattle.edit_steps.proofs.delete.gone.Given as goal

abbrev pub invariant-loop-at : goal.invariant-loop-at
invariant-loop-at g l = l.steps ≡ l.initial.steps ++ gone_made (g.L.Look.state l.look) (drop l.at l.elements)
