-- Places in a list of entries.
use Rattle.std.proofs.lemmas.Bool.Decides.{nat_tests}
use Rattle.std.proofs.Common.{◌≡◌, ℕ, ◌+◌, ◌<◌, ◌≤◌, suc, zero, Bool, true, false, cond, List, [], ◌∷◌, ◌++◌, refl, sym, ap, subst, ◌∙◌, arith, length}
use Rattle.std.specs.Prelude.{None, Some, slice_get, slice_set, slice_index_or, position, nat_lt}
use Rattle.std.proofs.lemmas.List.Folds.{find_at}
use Rattle.std.specs.List.{find, remove, position_or_len, AllByRecursion}
use Rattle.std.specs.Option.{option_map}
use Rattle.std.specs.Ordering.{is_lt}
use Rattle.std.specs.declared.cmp.Ordering.{Ordering}
use Rattle.finite_maps.specs.Equal.{text_eq}
use Rattle.finite_maps.specs.Maps.{tally}
use Rattle.finite_maps.proofs.EqualLaws.{text_equality}
use Rattle.finite_maps.proofs.SortLaws.{Rises}
use Rattle.model_state.specs.declared.entry.Entry.{Entry}
use Rattle.model_state.specs.Keys.{IdBytes}
use Rattle.ranked_lists.specs.Ranked.{rank_of}
use Rattle.ranked_lists.proofs.Ends.{past_end}

below : (n k : ℕ) → nat_lt n k ≡ true → n < k
below n k h = grind (arith, nat_tests)

not_below : (n k : ℕ) → nat_lt n k ≡ false → k ≤ n
not_below n k h = grind (arith, nat_tests)

module _ {X : Type 0} where
  pub tally_more : (p : X → Bool) (xs : List X) (x : X) → tally p (xs ++ x ∷ []) ≡ tally p xs + cond (p x) 1 0
  tally_more p [] x = omega arith
  tally_more p (y ∷ ys) x = let rest = tally_more p ys x in omega (arith, rest)

  -- the item at an index
  pub index_is : (xs : List X) (i : ℕ) (d x : X) → slice_get xs i ≡ Some x → slice_index_or xs i d ≡ x
  index_is [] i d x is = cc
  index_is (y ∷ ys) zero d x is = cc
  index_is (y ∷ ys) (suc i) d x is = index_is ys i d x is

  -- another item in the place of one
  pub tally-slice_set : (p : X → Bool) (xs : List X) (i : ℕ) (x y : X) → slice_get xs i ≡ Some x
      → tally p (slice_set xs i y) + cond (p x) 1 0 ≡ tally p xs + cond (p y) 1 0
  tally-slice_set p [] i x y is = cc
  tally-slice_set p (z ∷ zs) zero x y is = let same : z ≡ x = cc in ap (λ w. (cond (p y) 1 0 + tally p zs) + cond (p w) 1 0) (sym same) ∙ omega arith
  tally-slice_set p (z ∷ zs) (suc i) x y is = let rest = tally-slice_set p zs i x y is in omega (arith, rest)

  -- an item taken out
  pub tally-remove : (p : X → Bool) (xs : List X) (i : ℕ) (x : X) → slice_get xs i ≡ Some x → tally p (remove xs i) + cond (p x) 1 0 ≡ tally p xs
  tally-remove p [] i x is = cc
  tally-remove p (y ∷ ys) zero x is = let same : y ≡ x = cc in ap (λ z. tally p ys + cond (p z) 1 0) (sym same) ∙ omega arith
  tally-remove p (y ∷ ys) (suc i) x is = let rest = tally-remove p ys i x is in omega (arith, rest)

  all-remove : (P : X → Type 0) (xs : List X) (i : ℕ) → AllByRecursion P xs → AllByRecursion P (remove xs i)
  all-remove P [] zero all = tt
  all-remove P [] (suc i) all = tt
  all-remove P (y ∷ ys) zero all = all.1
  all-remove P (y ∷ ys) (suc i) all = (all.0, all-remove P ys i all.1)

  pub rises-remove : (cmp : X → X → Ordering) (xs : List X) (i : ℕ) → Rises cmp xs → Rises cmp (remove xs i)
  rises-remove cmp [] zero up = tt
  rises-remove cmp [] (suc i) up = tt
  rises-remove cmp (y ∷ ys) zero up = up.1
  rises-remove cmp (y ∷ ys) (suc i) up = (all-remove (λ z. is_lt (cmp z y) ≡ false) ys i up.0, rises-remove cmp ys i up.1)

  find_some : (p : X → Bool) (xs : List X) (x : X) → find p xs ≡ Some x → p x ≡ true
  find_some p [] x is = cc
  find_some p (y ∷ ys) x is =
      elim (p y) as (λ b. p y ≡ b → cond b (Some y) (find p ys) ≡ Some x → p x ≡ true) [
        | true ↦ λ yes at. let same : y ≡ x = cc in subst (λ z. p z ≡ true) same yes
        | false ↦ λ _ at. find_some p ys x at
      ] refl is

  some_at : (xs : List X) (n : ℕ) → n < length xs → (x : X) × (slice_get xs n ≡ Some x)
  some_at [] n less = absurd (omega (arith, less))
  some_at (y ∷ ys) zero less = (y, refl)
  some_at (y ∷ ys) (suc n) less = some_at ys n (omega (arith, less))

  -- the item at the place that was found
  pub position_some : (p : X → Bool) (xs : List X) (i : ℕ) → position p xs ≡ Some i → (x : X) × (slice_get xs i ≡ Some x) × (p x ≡ true) × (find p xs ≡ Some x)
  position_some p xs i is =
      elim (nat_lt (position_or_len p xs) (length xs)) as (λ b. nat_lt (position_or_len p xs) (length xs) ≡ b
      → cond b (Some (position_or_len p xs)) None ≡ Some i → (x : X) × (slice_get xs i ≡ Some x) × (p x ≡ true) × (find p xs ≡ Some x)) [
        | true ↦ λ less at.
            let same : position_or_len p xs ≡ i = cc in
            let x = some_at xs i (subst (λ n. n < length xs) same (below _ _ less)) in
            let found : find p xs ≡ Some x.0 = find_at p xs ∙ ap (slice_get xs) same ∙ x.1 in
            (x.0, x.1, find_some p xs x.0 found, found)
        | false ↦ λ _ at. cc
      ] refl is

  pub position_none : (p : X → Bool) (xs : List X) → position p xs ≡ None → find p xs ≡ None
  position_none p xs is =
      elim (nat_lt (position_or_len p xs) (length xs)) as (λ b. nat_lt (position_or_len p xs) (length xs) ≡ b
      → cond b (Some (position_or_len p xs)) None ≡ None → find p xs ≡ None) [
        | true ↦ λ _ at. cc
        | false ↦ λ more at. find_at p xs ∙ past_end xs (position_or_len p xs) (not_below _ _ more)
      ] refl is

-- the rank that the first entry of an element has
rank_found : (xs : List Entry) (e : IdBytes) → rank_of xs e ≡ option_map (λ (x : Entry). x.rank) (find (λ (x : Entry). text_eq x.id e) xs)
rank_found [] e = refl
rank_found (x ∷ xs) e =
    elim (text_eq x.id e) as (λ b.
    cond b (Some x.rank) (rank_of xs e) ≡ option_map (λ (y : Entry). y.rank) (cond b (Some x) (find (λ (y : Entry). text_eq y.id e) xs))) [
      | true ↦ refl
      | false ↦ rank_found xs e
    ]

pub place_some : (xs : List Entry) (e : IdBytes) (i : ℕ) → position (λ (x : Entry). text_eq x.id e) xs ≡ Some i
    → (x : Entry) × (slice_get xs i ≡ Some x) × (x.id ≡ e) × (rank_of xs e ≡ Some x.rank)
place_some xs e i is =
    let at = position_some (λ (x : Entry). text_eq x.id e) xs i is in
    (at.0, at.1, text_equality.exact at.0.id e at.2, rank_found xs e ∙ ap (option_map (λ (x : Entry). x.rank)) at.3)

pub place_none : (xs : List Entry) (e : IdBytes) → position (λ (x : Entry). text_eq x.id e) xs ≡ None → rank_of xs e ≡ None
place_none xs e is = rank_found xs e ∙ ap (option_map (λ (x : Entry). x.rank)) (position_none (λ (x : Entry). text_eq x.id e) xs is)
