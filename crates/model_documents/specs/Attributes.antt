-- The values that an attribute's key gives.
use Rattle.std.specs.Prelude.{ℕ, Bool, true, false, ◌&&◌, not, cond, List, [], ◌∷◌, Option, None, Some, is_some, Ok, Err, length, nat_le}
use Rattle.std.specs.List.{list_any}
use Rattle.serde_json.specs.Data.{Data}
use Rattle.serde_json.specs.Find.{as_array, as_null}
use Rattle.finite_maps.specs.Maps.{is_within}
use Rattle.ecore_json.specs.Rows.{alone_or}
use Rattle.ecore_meta.specs.Meta.{Meta}
use Rattle.ecore_meta.specs.declared.meta.Scalar.{Scalar}
use Rattle.ecore_meta.specs.declared.meta.Value.{Value}
use Rattle.model_state.specs.Typing.{is_default, kind_of, upper_of, value_eq}
use Rattle.emfjson_values.specs.Values.{value_in}
use Rattle.model_documents.specs.declared.fault.ModelFault.TheVariants.{BadValue, Bound}
use Rattle.model_documents.specs.Parts.{Part, no_part}
use Rattle.model_documents.specs.Reads.{Read, «then», unless, found, collected}
use Rattle.model_state.specs.Ranks.{most_entries}

-- null stands for a feature that is absent
abbrev pub is_null : Data → Bool
is_null d = is_some (as_null d)

-- the values of a list; a single value stands for the list of it alone
abbrev pub elements : Data → List Data
elements d = alone_or d (as_array d)

-- one attribute with its values
abbrev pub attr_part : ℕ → List Value → Part
attr_part f vs = record no_part { attrs = record { feature = f; values = vs } ∷ [] }

-- a list without values is not set
abbrev pub values_part : ℕ → List Value → Part
values_part f [] = no_part
values_part f (v ∷ vs) = attr_part f (v ∷ vs)

-- a default counts as not set
abbrev pub set_part : ℕ → Bool → Value → Part
set_part f true v = no_part
set_part f false v = attr_part f (v ∷ [])

-- a single attribute
abbrev pub single_part : Meta → ℕ → Scalar → Data → Read Part
single_part meta f s d = cond (is_null d) (Ok no_part) («then» (found BadValue (value_in meta s d)) (λ v. Ok (set_part f (is_default (kind_of meta f) v) v)))

-- the next value of a list after those before it, among which it is not where each is held once
abbrev pub new_value : Bool → List Value → Option Value → Read Value
new_value unique vs None = Err BadValue
new_value unique vs (Some v) = unless (not (unique && list_any (value_eq v) vs)) BadValue (Ok v)

-- the same, by the JSON of the value
abbrev pub next_value : Meta → Scalar → Bool → List Value → Data → Read Value
next_value meta s unique vs d = new_value unique vs (value_in meta s d)

-- the values of a list
abbrev pub values_in : Meta → Scalar → Bool → List Data → Read (List Value)
values_in meta s unique ds = collected (next_value meta s unique) [] ds

-- so many values are within the bound of the attribute, and no more than any holds
abbrev pub may_hold : Meta → ℕ → ℕ → Bool
may_hold meta f n = is_within n (upper_of meta f) && nat_le n most_entries

-- a many-valued attribute
abbrev pub many_part : Meta → ℕ → Scalar → Bool → Data → Read Part
many_part meta f s unique d =
    cond (is_null d) (Ok no_part)
    («then» (values_in meta s unique (elements d)) (λ vs. unless (may_hold meta f (length vs)) Bound (Ok (values_part f vs))))
