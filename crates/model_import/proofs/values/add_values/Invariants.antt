use Rattle.std.proofs.Common.{◌≡◌, ◌++◌, drop}
use Rattle.import_laws.specs.Values.{values_from}
use Rattle.model_import.proofs.values.add_values.Given as goal

abbrev pub invariant-loop-n : goal.invariant-loop-n
invariant-loop-n l = l.steps ++ values_from l.meta l.names l.n (drop l.n l.rows) ≡ l.initial.steps ++ values_from l.meta l.names 0 l.rows
