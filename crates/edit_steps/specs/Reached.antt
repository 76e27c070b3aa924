-- Which rows begin or end at one of a set of features of elements.
use Rattle.std.specs.Prelude.{◌≡◌, ℕ, Bool, false, List, Option, None, Some, nat_eq, ◌&&◌, ◌||◌}
use Rattle.std.specs.List.{list_any}
use Rattle.std.specs.BTreeSet.{BTreeSet, contains}
use Rattle.finite_maps.specs.Equal.{text_eq}
use Rattle.ecore_meta.specs.Meta.{Meta}
use Rattle.model_state.specs.Keys.{IdBytes, AttrKey, RowKey, attr_cmp}
use Rattle.model_state.specs.Typing.{opposite_of}

-- the same feature of the same element
abbrev pub is_slot : AttrKey → AttrKey → Bool
is_slot k s = text_eq k.0 s.0 && nat_eq k.1 s.1

-- the set has the features of these elements, and no others
abbrev pub HasSlots : BTreeSet AttrKey → List AttrKey → Type 0
HasSlots set slots = (k : AttrKey) → contains attr_cmp set k ≡ list_any (is_slot k) slots

-- the set has a feature of an element, if it is one
abbrev pub has_other : BTreeSet AttrKey → IdBytes → Option ℕ → Bool
has_other set b None = false
has_other set b (Some g) = contains attr_cmp set (b, g)

-- the set has the feature at one of the row's ends
abbrev pub is_reached : Meta → BTreeSet AttrKey → RowKey → Bool
is_reached meta set k = contains attr_cmp set (k.0, k.1) || has_other set k.2 (opposite_of meta k.1)
