use Rattle.std.proofs.Common.{◌≡◌, ◌++◌, take}
use Rattle.edit_steps.specs.Rows.{unlinks}
use Rattle.edit_steps.proofs.unlink.unlinks.Given as goal

abbrev pub invariant-loop-x : goal.invariant-loop-x
invariant-loop-x g l = l.steps ≡ l.initial.steps ++ unlinks (g.L.Look.state l.look).row l.opposite l.a l.f (take l.x-index l.list)
