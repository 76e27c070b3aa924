-- Lists of entries as the ranks of their elements, and a table of entries by the texts of their ids.
use Rattle.std.specs.Prelude.{◌≡◌, ℕ, String, string_bytes, List, [], ◌∷◌, map, Option, None, Some, Box, cond}
use Rattle.std.specs.Option.{option_map}
use Rattle.std.specs.Map.{lookup}
use Rattle.std.specs.FinMap.{get}
use Rattle.finite_maps.specs.Equal.{text_eq}
use Rattle.spread_maps.specs.Spread.{tabulate}
use Rattle.model_state.specs.declared.entry.Entry.{Entry}
use Rattle.model_state.specs.Keys.{IdBytes, id_cmp}
use Rattle.ranked_lists.specs.Ranks.{Ranks, entries_by_rank}

-- the rank of an element among entries
abbrev pub rank_of : List Entry → IdBytes → Option ℕ
rank_of [] q = None
rank_of (x ∷ xs) q = cond (text_eq x.id q) (Some x.rank) (rank_of xs q)

-- the elements of the entries with their ranks
abbrev pub rank_map : List Entry → Ranks
rank_map xs = tabulate id_cmp (rank_of xs) (map (λ (x : Entry). x.id) xs)

-- the entries stand in order, each of an element of its own
abbrev pub AreRanked : List Entry → Type 0
AreRanked xs = xs ≡ entries_by_rank (rank_map xs)

-- a table from texts to entries, as one from ids
abbrev pub named : {Y : Type 0} → List (String Y × Entry) → List (IdBytes × Entry)
named es = map (λ e. (string_bytes e.0, e.1)) es

-- the entry of an element with that rank
abbrev pub entry_with : IdBytes → ℕ → Entry
entry_with q r = record { rank = r; id = q }

-- the table has the entry of each element, and no other
abbrev pub IsTableOf : List (IdBytes × Entry) → Ranks → Type 0
IsTableOf es m = (q : IdBytes) → lookup (text_eq q) es ≡ option_map (entry_with q) (get m q)

-- what is held: few entries in one vector, or many
abbrev pub held : {Z : Type 0} → List Entry → Option (Box Ranks Z) → Ranks
held xs None = rank_map xs
held xs (Some many) = many.value

-- few entries are ranked; beside many there are none
abbrev pub IsHeld : {Z : Type 0} → List Entry → Option (Box Ranks Z) → Type 0
IsHeld xs None = AreRanked xs
IsHeld xs (Some many) = xs ≡ []
