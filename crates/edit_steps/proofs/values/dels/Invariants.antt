use Rattle.std.proofs.Common.{◌≡◌, ◌++◌, drop}
use Rattle.edit_steps.specs.ManyValues.{dels}
use Rattle.edit_steps.proofs.values.dels.Given as goal

abbrev pub invariant-loop-at : goal.invariant-loop-at
invariant-loop-at l = l.steps ≡ l.initial.steps ++ dels l.e l.f l.at (drop l.at l.values)
