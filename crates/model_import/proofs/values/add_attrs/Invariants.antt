use Rattle.std.proofs.Common.{◌≡◌, ◌++◌, drop}
use Rattle.import_laws.specs.Values.{attrs_made}
use Rattle.model_import.proofs.values.add_attrs.Given as goal

abbrev pub invariant-loop-attr : goal.invariant-loop-attr
invariant-loop-attr l = l.steps ++ attrs_made l.meta l.e (drop l.attr-index l.attrs) ≡ l.initial.steps ++ attrs_made l.meta l.e l.attrs
