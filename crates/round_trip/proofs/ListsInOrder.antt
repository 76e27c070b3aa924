-- Lists by rank show the ids in order where the ranks rise along them: the elements of a place, and the targets of a feature.
use Rattle.std.proofs.Common.{◌≡◌, ◌∙◌, ℕ, suc, ◌+◌, ◌<◌, Bool, true, false, ◌&&◌, ◌||◌, cond, List, [], ◌∷◌, map, refl, sym, ap, arith}
use Rattle.std.specs.Prelude.{Some, slice_get, unwrap_or}
use Rattle.std.specs.List.{AllByRecursion, list_any}
use Rattle.std.specs.Cmp.{nat_cmp_is}
use Rattle.std.specs.Ordering.{is_lt, ordering_then}
use Rattle.std.specs.declared.cmp.Ordering.TheVariants.{Greater}
use Rattle.std.specs.FinMap.{entries, get}
use Rattle.finite_maps.specs.Equal.{text_eq}
use Rattle.finite_maps.specs.Maps.{count, tally}
use Rattle.finite_maps.specs.Sorts.{picked}
use Rattle.finite_maps.proofs.EqualLaws.{text_equality}
use Rattle.finite_maps.proofs.SortLaws.{Rises, same_risen, tally-in_order, tally-map}
use Rattle.model_state.specs.declared.entry.Entry.{Entry}
use Rattle.model_state.specs.declared.step.Place.{Place}
use Rattle.model_state.specs.Keys.{IdBytes, RowKey, id_cmp}
use Rattle.model_state.specs.Listing.{children, entry_cmp, is_of, rank_at, row_entry, targets}
use Rattle.model_state.specs.State.{place_eq}
use Rattle.model_state.proofs.Orders.{entry_order}
use Rattle.edit_steps.specs.Places.{Ranks}
use Rattle.edit_steps.specs.Rows.{Rows}
use Rattle.edit_steps.proofs.Lists.{tally-filter}
use Rattle.model_texts.specs.Tree.{entry_ids}
use Rattle.import_laws.specs.After.{Places}
use Rattle.import_laws.specs.News.{rank_of}

-- ---- names by index
-- a name that is in a list stands at an index
pub any_index : (e : IdBytes) (xs : List IdBytes) → list_any (text_eq e) xs ≡ true → (j : ℕ) × (slice_get xs j ≡ Some e)
any_index e [] h = cc
any_index e (x ∷ xs) h =
    elim (text_eq e x) as (λ b. text_eq e x ≡ b → b || list_any (text_eq e) xs ≡ true → (j : ℕ) × (slice_get (x ∷ xs) j ≡ Some e)) [
      | true ↦ λ same _. (0, ap (λ z. Some z) (sym (text_equality.exact e x same)))
      | false ↦ λ _ later. let rest = any_index e xs later in (suc rest.0, rest.1)
    ] refl h

pub any_id : (e : IdBytes) (xs : List Entry) → list_any (λ (x : Entry). text_eq e x.id) xs ≡ list_any (text_eq e) (entry_ids xs)
any_id e [] = refl
any_id e (x ∷ xs) = ap (λ b. text_eq e x.id || b) (any_id e xs)

-- ---- ranks that rise
rank_less : (n k : ℕ) → n < k → rank_of n < rank_of k
rank_less n k less = omega arith

module _ (rank : IdBytes → ℕ) where
  -- an entry by its id
  abbrev pub entry_at : IdBytes → Entry
  entry_at e = record { rank = rank e; id = e }

  -- the ranks of some names are those of a new list from the k-th on
  abbrev pub Ranked : ℕ → List IdBytes → Type 0
  Ranked k [] = Unit {0}
  Ranked k (x ∷ xs) = (rank x ≡ rank_of k) × Ranked (suc k) xs

  pub ranked_from : (xs : List IdBytes) (k : ℕ) → ((j : ℕ) (x : IdBytes) → slice_get xs j ≡ Some x → rank x ≡ rank_of (k + j)) → Ranked k xs
  ranked_from [] k each = tt
  ranked_from (x ∷ xs) k each = (each 0 x refl ∙ ap rank_of (first k), ranked_from xs (suc k) (λ j y is. each (suc j) y is ∙ ap rank_of (further k j)))
    where
      first : (k : ℕ) → k + 0 ≡ k
      first k = omega arith

      further : (k j : ℕ) → k + suc j ≡ suc k + j
      further k j = omega arith

  later : (x y : IdBytes) → rank x < rank y → is_lt (entry_cmp (entry_at y) (entry_at x)) ≡ false
  later x y less = ap (λ o. is_lt (ordering_then o (id_cmp y x))) (sym (nat_cmp_is (rank y) (rank x) Greater less))

  behind : (x : IdBytes) (n k : ℕ) → n < k → (xs : List IdBytes) → rank x ≡ rank_of n → Ranked k xs
      → AllByRecursion (λ (y : Entry). is_lt (entry_cmp y (entry_at x)) ≡ false) (map entry_at xs)
  behind x n k less [] here all = tt
  behind x n k less (y ∷ ys) here all =
      let up = rank_less n k less in
      let there = all.0 in
      (later x y (omega (arith, up, here, there)), behind x n (suc k) (omega (arith, less)) ys here all.1)

  pub rises_ranked : (xs : List IdBytes) (k : ℕ) → Ranked k xs → Rises entry_cmp (map entry_at xs)
  rises_ranked [] k all = tt
  rises_ranked (x ∷ xs) k all = (behind x k (suc k) (omega arith) xs all.0 all.1, rises_ranked xs (suc k) all.1)

  -- ---- a list in order whose ranks are these
  by_id : (p : Entry → Bool) (xs : List Entry) → AllByRecursion (λ (x : Entry). x.rank ≡ rank x.id) xs
      → tally p xs ≡ tally (λ (x : Entry). p (entry_at x.id)) xs
  by_id p [] all = refl
  by_id p (x ∷ xs) all = λ i. cond (p (record { rank = all.0 i; id = x.id })) 1 0 + by_id p xs all.1 i

  ids_at : (xs : List IdBytes) → entry_ids (map entry_at xs) ≡ xs
  ids_at [] = refl
  ids_at (x ∷ xs) = ap (λ ys. x ∷ ys) (ids_at xs)

  pub shown : (xs : List Entry) (ns : List IdBytes) → Rises entry_cmp xs → AllByRecursion (λ (x : Entry). x.rank ≡ rank x.id) xs
      → Rises entry_cmp (map entry_at ns) → ((p : IdBytes → Bool) → tally (λ (x : Entry). p x.id) xs ≡ tally p ns) → entry_ids xs ≡ ns
  shown xs ns up ranks up' same =
      ap entry_ids (same_risen entry_order xs (map entry_at ns) up up' (λ p. by_id p xs ranks ∙ same (λ e. p (entry_at e)) ∙ sym (tally-map p entry_at ns)))
      ∙ ids_at ns

pub tally_ids : (p : IdBytes → Bool) (xs : List Entry) → tally p (entry_ids xs) ≡ tally (λ (x : Entry). p x.id) xs
tally_ids p xs = tally-map p (λ (x : Entry). x.id) xs

-- ---- the elements of a place
abbrev pub spot_of : Ranks → IdBytes × Place → Entry
spot_of prank e = record { rank = rank_at prank e.0; id = e.0 }

pub spots_ranked : (prank : Ranks) (es : List (IdBytes × Place)) → AllByRecursion (λ (x : Entry). x.rank ≡ rank_at prank x.id) (map (spot_of prank) es)
spots_ranked prank [] = tt
spots_ranked prank (e ∷ es) = (refl, spots_ranked prank es)

pub tally_children : (place : Places) (prank : Ranks) (p : Place) (q : IdBytes → Bool)
    → tally (λ (x : Entry). q x.id) (children place prank p) ≡ tally (λ (e : IdBytes × Place). q e.0)
    (picked (λ (e : IdBytes × Place). place_eq p e.1) place)
tally_children place prank p q =
    tally-in_order entry_cmp (λ (x : Entry). q x.id) (map (spot_of prank) (picked (λ (e : IdBytes × Place). place_eq p e.1) place))
    ∙ tally-map (λ (x : Entry). q x.id) (spot_of prank) (picked (λ (e : IdBytes × Place). place_eq p e.1) place)

-- ---- the targets of a feature
pub tally_targets : (row : Rows) (a : IdBytes) (f : ℕ) (q : IdBytes → Bool)
    → tally (λ (x : Entry). q x.id) (targets row a f) ≡ count (λ (e : RowKey × ℕ). is_of a f e.0 && q e.0.2) row
tally_targets row a f q =
    tally-in_order entry_cmp (λ (x : Entry). q x.id) (map row_entry (picked (λ (e : RowKey × ℕ). is_of a f e.0) row))
    ∙ tally-map (λ (x : Entry). q x.id) row_entry (picked (λ (e : RowKey × ℕ). is_of a f e.0) row)
    ∙ tally-filter (λ (e : RowKey × ℕ). is_of a f e.0) (λ (e : RowKey × ℕ). q e.0.2) (entries row)

pub held_ranked : (row : Rows) (a : IdBytes) (f : ℕ) (xs : List Entry) → AllByRecursion (λ (x : Entry). get row (a, f, x.id) ≡ Some x.rank) xs
    → AllByRecursion (λ (x : Entry). x.rank ≡ unwrap_or (get row (a, f, x.id)) 0) xs
held_ranked row a f [] all = tt
held_ranked row a f (x ∷ xs) all = (ap (λ o. unwrap_or o 0) (sym all.0), held_ranked row a f xs all.1)
