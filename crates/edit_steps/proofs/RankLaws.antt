-- How many entries lists have.
use Rattle.std.proofs.Common.{ℕ, suc, ◌+◌, true, false, cond, List, [], ◌∷◌, length, arith, not, ◌≤◌, ◌<◌}
use Rattle.std.specs.FinMap.{FinMap}
use Rattle.finite_maps.specs.Equal.{text_eq}
use Rattle.model_state.specs.declared.entry.Entry.{Entry}
use Rattle.model_state.specs.Keys.{IdBytes, row_cmp}
use Rattle.model_state.specs.Listing.{targets}
use Rattle.finite_maps.specs.Maps.{tally}
use Rattle.edit_steps.specs.References.{without_entry}
use Rattle.edit_steps.proofs.Lists.{one_passes}

-- as many entries as those that stay and those that are removed
stay_or_go : (b : IdBytes) (xs : List Entry) → length xs ≤ length (without_entry b xs) + tally (λ (x : Entry). text_eq b x.id) xs
stay_or_go b [] = omega arith
stay_or_go b (x ∷ xs) =
    elim (text_eq b x.id) as (λ t.
    length (x ∷ xs) ≤ length
    (cond {A = List Entry} (not t) (x ∷ without_entry b xs) (without_entry b xs)) + (cond t 1 0 + tally (λ (x : Entry). text_eq b x.id) xs)) [
      | true ↦ goes (length xs) _ _ (stay_or_go b xs)
      | false ↦ stays (length xs) _ _ (stay_or_go b xs)
    ]
  where
    goes : (n k t : ℕ) → n ≤ k + t → suc n ≤ k + (1 + t)
    goes n k t h = omega arith

    stays : (n k t : ℕ) → n ≤ k + t → suc n ≤ suc k + (0 + t)
    stays n k t h = omega arith

-- an index of a list is one among the others too
pub stands_among : (row : FinMap row_cmp ℕ) (a : IdBytes) (f : ℕ) (b : IdBytes) (k : ℕ) → k < length (targets row a f)
    → k ≤ length (without_entry b (targets row a f))
stands_among row a f b k less = at_most k _ _ _ less (stay_or_go b (targets row a f)) (one_passes row a f b)
  where
    at_most : (k n o t : ℕ) → k < n → n ≤ o + t → t ≤ 1 → k ≤ o
    at_most k n o t h g l = omega arith
