use Rattle.std.proofs.Common.{◌≡◌, ◌++◌, drop}
use Rattle.state_steps.specs.Whole.{linked}
use Rattle.state_steps.proofs.links.link_entries.Given as goal

abbrev pub invariant-loop-at : goal.invariant-loop-at
invariant-loop-at g l = l.steps ≡ l.initial.steps ++ linked (g.L.Look.state l.look).row l.opposite l.a l.f (drop l.at l.entries)
