-- A table from ids to slots, and the slots.
use Rattle.std.specs.Prelude.{String, string_bytes, ◌≡◌, ℕ, List, [], map, Option, None, Some}
use Rattle.std.specs.Option.{option_map, option_map_or}
use Rattle.std.specs.Map.{lookup}
use Rattle.std.specs.FinMap.{FinMap}
use Rattle.slab.specs.Slab.{Slab, get}
use Rattle.finite_maps.specs.Equal.{text_eq}
use Rattle.spread_maps.specs.Spread.{tabulate}
use Rattle.model_state.specs.Keys.{IdBytes, id_cmp}

-- a table from texts to slots, as one from ids
abbrev pub named : {Y : Type 0} → List (String Y × ℕ) → List (IdBytes × ℕ)
named es = map (λ e. (string_bytes e.0, e.1)) es

module _ {T : Type 0} where
  -- the value in the slot that was found
  abbrev pub in_slot : Slab (IdBytes × T) → Option ℕ → Option T
  in_slot s None = None
  in_slot s (Some at) = option_map (λ x. x.1) (get s at)

  -- the id in a slot
  abbrev pub id_in : Slab (IdBytes × T) → ℕ → IdBytes
  id_in s at = option_map_or (λ x. x.0) (get s at) []

  -- the value of an id
  abbrev pub node_at : List (IdBytes × ℕ) → Slab (IdBytes × T) → IdBytes → Option T
  node_at es s e = in_slot s (lookup (text_eq e) es)

  -- each id of the table leads to a slot that has this id
  abbrev pub IsTied : List (IdBytes × ℕ) → Slab (IdBytes × T) → Type 0
  IsTied es s = (e : IdBytes) (at : ℕ) → lookup (text_eq e) es ≡ Some at → (x : T) × (get s at ≡ Some (e, x))

  -- the values by their ids
  abbrev pub table : List (IdBytes × ℕ) → Slab (IdBytes × T) → FinMap id_cmp T
  table es s = tabulate id_cmp (node_at es s) (map {B = IdBytes} (λ e. e.0) es)
