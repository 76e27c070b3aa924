-- The sorts of features that are looked for: references or values.
use Rattle.std.specs.Prelude.{Bool}
use Rattle.ecore_meta.specs.declared.meta.Kind.{Kind}
use Rattle.model_state.specs.Typing.{is_plain}
use Rattle.edit_steps.specs.declared.features.Sort.{Sort}
use Rattle.edit_steps.specs.declared.features.Sort.TheVariants.{Reference, Attribute}
use Rattle.edit_steps.specs.Deletes.{holds_values}

-- the kind is of the sort
abbrev pub passes : Sort → Kind → Bool
passes Reference k = is_plain k
passes Attribute k = holds_values k
