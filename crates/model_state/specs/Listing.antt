-- The lists of a state: the targets of a feature, the elements of a place, the rows to an element, the ids.
use Rattle.std.specs.Prelude.{ℕ, Bool, List, [], ◌∷◌, Option, None, Some, map, nat_eq, ◌&&◌, unwrap_or}
use Rattle.std.specs.declared.cmp.Ordering.{Ordering}
use Rattle.std.specs.Ordering.{nat_cmp, ordering_then}
use Rattle.std.specs.FinMap.{FinMap, get, keys}
use Rattle.finite_maps.specs.Equal.{text_eq}
use Rattle.finite_maps.specs.Sorts.{in_order, picked}
use Rattle.ecore_meta.specs.declared.meta.Value.{Value}
use Rattle.model_state.specs.declared.entry.Entry.{Entry}
use Rattle.model_state.specs.declared.entry.Incoming.{Incoming}
use Rattle.model_state.specs.declared.step.Place.{Place}
use Rattle.model_state.specs.Keys.{IdBytes, RowKey, id_cmp, row_cmp}
use Rattle.model_state.specs.State.{State, place_eq}

-- by rank, and then by id
abbrev pub entry_cmp : Entry → Entry → Ordering
entry_cmp x y = ordering_then (nat_cmp x.rank y.rank) (id_cmp x.id y.id)

-- the values of an attribute, none where it is not set
abbrev pub values_at : State → IdBytes → ℕ → List Value
values_at m e f = unwrap_or (get m.attr (e, f)) []

-- a row of a feature of an element
abbrev pub is_of : IdBytes → ℕ → RowKey → Bool
is_of a f k = text_eq a k.0 && nat_eq f k.1

-- the target of a row, with its rank
abbrev pub row_entry : RowKey × ℕ → Entry
row_entry e = record { rank = e.1; id = e.0.2 }

-- the targets of a feature of an element, by rank and then by id
abbrev pub targets : FinMap row_cmp ℕ → IdBytes → ℕ → List Entry
targets row a f = in_order entry_cmp (map row_entry (picked (λ e. is_of a f e.0) row))

-- the rank of an element where it stands
abbrev pub rank_at : FinMap id_cmp ℕ → IdBytes → ℕ
rank_at prank e = unwrap_or (get prank e) 0

-- the elements of a place, by rank and then by id
abbrev pub children : FinMap id_cmp Place → FinMap id_cmp ℕ → Place → List Entry
children place prank p = in_order entry_cmp (map (λ (e : IdBytes × Place). record { rank = rank_at prank e.0; id = e.0 }) (picked (λ e. place_eq p e.1) place))

-- the rank of the last entry
abbrev pub last_rank : List Entry → Option ℕ
last_rank [] = None
last_rank (x ∷ xs) = Some (unwrap_or (last_rank xs) x.rank)

-- the source and the feature of a row, with its rank
abbrev pub row_incoming : RowKey × ℕ → Incoming
row_incoming e = record { source = e.0.0; feature = e.0.1; rank = e.1 }

-- the rows to an element, by source and then by feature
abbrev pub incoming : FinMap row_cmp ℕ → IdBytes → List Incoming
incoming row b = map row_incoming (picked (λ e. text_eq b e.0.2) row)

-- the ids of the live elements, in the order of their bytes
abbrev pub ids : State → List IdBytes
ids m = keys m.kind
