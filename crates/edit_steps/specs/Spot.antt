-- The rank of an entry that is inserted into a list, and the ranks of the others, which are renumbered where there is no room.
use Rattle.std.specs.Prelude.{ℕ, ◌+◌, ◌-◌, ◌*◌, cond, List, [], ◌∷◌, map, length, Option, None, Some, unwrap_or, slice_get, nat_eq, nat_lt}
use Rattle.model_state.specs.declared.entry.Entry.{Entry}
use Rattle.model_state.specs.Ranks.{rank_between, most_entries, rank_gap}

-- the ranks of the entries
abbrev pub ranks_of : List Entry → List ℕ
ranks_of xs = map (λ x. x.rank) xs

-- the rank of an entry that is put at an index of the others: between its neighbours, or after the last
abbrev pub rank_for : List ℕ → ℕ → Option ℕ
rank_for rs k = rank_between (cond (nat_eq k 0) 0 (unwrap_or (slice_get rs (k - 1)) 0)) (slice_get rs k)

-- a rank for each entry, evenly spread by rank_gap, the first at n times that
abbrev pub evened : ℕ → List Entry → List ℕ
evened n [] = []
evened n (x ∷ xs) = (n * rank_gap) ∷ evened (n + 1) xs

-- The ranks of the other entries, and that of the new one. None where there is no room and the list is too long to be renumbered.
pub record Spot : Type 0 where
  pub ranks : List ℕ
  pub rank : Option ℕ

-- the others keep their ranks where there is one for the new entry, and are else renumbered
abbrev pub spot_by : Option ℕ → List Entry → ℕ → Spot
spot_by (Some r) xs k = record { ranks = ranks_of xs; rank = Some r }
spot_by None xs k = record { ranks = evened 1 xs; rank = cond (nat_lt (length xs) most_entries) (rank_for (evened 1 xs) k) None }

-- the spot at index k of the other entries
abbrev pub spot : List Entry → ℕ → Spot
spot xs k = spot_by (rank_for (ranks_of xs) k) xs k

-- the spot after the last entry
abbrev pub end_spot : List Entry → Spot
end_spot xs = spot xs (length xs)
