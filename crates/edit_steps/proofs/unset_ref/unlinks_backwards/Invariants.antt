use Rattle.std.proofs.Common.{◌≡◌, drop}
use Rattle.edit_steps.specs.Rows.{unlinks}
use Rattle.edit_steps.specs.References.{backwards}
use Rattle.edit_steps.proofs.unset_ref.unlinks_backwards.Given as goal

abbrev pub invariant-loop-at : goal.invariant-loop-at
invariant-loop-at g l = l.steps ≡ unlinks (g.L.Look.state l.look).row l.opposite l.a l.f (backwards (drop l.at l.list))
