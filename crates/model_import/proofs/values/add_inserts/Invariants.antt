use Rattle.std.proofs.Common.{◌≡◌, ◌++◌, drop}
use Rattle.import_laws.specs.Values.{inserts_made}
use Rattle.model_import.proofs.values.add_inserts.Given as goal

abbrev pub invariant-loop-value : goal.invariant-loop-value
invariant-loop-value l = l.steps ++ inserts_made l.e l.f l.at (drop l.value-index l.values) ≡ l.initial.steps ++ inserts_made l.e l.f 0 l.values
