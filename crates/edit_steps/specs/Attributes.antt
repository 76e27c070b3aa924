-- Edits of single attributes: the model after each, defined without steps, and the step.
use Rattle.std.specs.Prelude.{◌≡◌, ℕ, true, cond, List, [], ◌∷◌, Option, None, Some}
use Rattle.std.specs.FinMap.{get}
use Rattle.finite_maps.specs.Equal.{option_eq}
use Rattle.finite_maps.specs.Maps.{set}
use Rattle.ecore_meta.specs.Meta.{Meta}
use Rattle.ecore_meta.specs.declared.meta.Value.{Value}
use Rattle.model_state.specs.declared.step.Step.{Step}
use Rattle.model_state.specs.declared.step.Step.TheVariants.{Put}
use Rattle.model_state.specs.Keys.{IdBytes}
use Rattle.model_state.specs.Typing.{value_eq, kind_of, is_attr, is_default}
use Rattle.model_state.specs.State.{State}
use Rattle.model_state.specs.Steps.{class_has, single}

-- the single value of an entry
abbrev pub single_value : Option (List Value) → Option Value
single_value None = None
single_value (Some []) = None
single_value (Some (v ∷ vs)) = Some v

-- a value, or nothing where it is the default
abbrev pub taken : Meta → ℕ → Value → Option Value
taken meta f v = cond (is_default (kind_of meta f) v) None (Some v)

-- the attribute has the value, or is not set
abbrev pub put_after : State → IdBytes → ℕ → Option Value → State
put_after m e f new = record m { attr = set m.attr (e, f) (single new) }

-- one step, and none where nothing changes
abbrev pub put_made : State → IdBytes → ℕ → Option Value → List Step
put_made m e f new = cond (option_eq value_eq (single_value (get m.attr (e, f))) new) [] (Put e f (single_value (get m.attr (e, f))) new ∷ [])

-- the attribute has the value; a default is held as not set
abbrev pub set_attr_after : Meta → State → IdBytes → ℕ → Value → State
set_attr_after meta m e f v = put_after m e f (taken meta f v)

-- the step for it
abbrev pub set_attr_made : Meta → State → IdBytes → ℕ → Value → List Step
set_attr_made meta m e f v = put_made m e f (taken meta f v)

-- a single attribute of a live element
abbrev pub IsAttribute : Meta → State → IdBytes → ℕ → Type 0
IsAttribute meta m e f = (class_has meta (get m.kind e) f ≡ true) × (is_attr (kind_of meta f) ≡ true)
