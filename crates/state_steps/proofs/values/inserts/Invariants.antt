use Rattle.std.proofs.Common.{◌≡◌, ◌++◌, drop}
use Rattle.state_steps.specs.Whole.{inserts}
use Rattle.state_steps.proofs.values.inserts.Given as goal

abbrev pub invariant-loop-at : goal.invariant-loop-at
invariant-loop-at l = l.steps ++ inserts l.e l.f l.at (drop l.at l.values) ≡ l.initial.steps ++ inserts l.e l.f 0 l.values
