-- The order of entries, and the last of a list.
use Rattle.std.proofs.lemmas.Bool.Decides.{nat_tests}
use Rattle.std.proofs.Common.{◌≡◌, ℕ, ◌<◌, ◌≤◌, true, false, cond, List, [], ◌∷◌, ◌++◌, refl, sym, ap, ◌∙◌, arith, nat_lt}
use Rattle.std.specs.Prelude.{Option, None, Some, unwrap_or}
use Rattle.std.specs.List.{AllByRecursion}
use Rattle.std.specs.declared.cmp.Ordering.{Ordering}
use Rattle.std.specs.declared.cmp.Ordering.TheVariants.{Less, Greater}
use Rattle.std.specs.Ordering.{is_lt, nat_cmp, ordering_then}
use Rattle.finite_maps.specs.Sorts.{put_in, in_order}
use Rattle.finite_maps.proofs.Cases.{true_false}
use Rattle.finite_maps.proofs.SortLaws.{Rises, rises-in_order}
use Rattle.model_state.specs.declared.entry.Entry.{Entry}
use Rattle.model_state.specs.Keys.{id_cmp}
use Rattle.model_state.specs.Listing.{entry_cmp, last_rank}
use Rattle.model_state.proofs.Orders.{entry_order}

pub first_less : (r s : Ordering) → r ≡ Less → is_lt (ordering_then r s) ≡ true
first_less r s h = ap (λ o. is_lt (ordering_then o s)) h

pub first_greater : (r s : Ordering) → r ≡ Greater → is_lt (ordering_then r s) ≡ false
first_greater r s h = ap (λ o. is_lt (ordering_then o s)) h

pub nat_less : (a b : ℕ) → a < b → nat_cmp a b ≡ Less
nat_less a b h = grind (arith, nat_tests)

pub nat_greater : (a b : ℕ) → b < a → nat_cmp a b ≡ Greater
nat_greater a b h = grind (arith, nat_tests)

not_less : (a b : ℕ) (s : Ordering) → is_lt (ordering_then (nat_cmp a b) s) ≡ false → b ≤ a
not_less a b s h =
    elim (nat_lt a b) as (λ t. nat_lt a b ≡ t → b ≤ a) [
      | true ↦ λ is. absurd (true_false (is_lt (ordering_then (nat_cmp a b) s)) (first_less (nat_cmp a b) s (nat_less a b (under a b is))) h)
      | false ↦ λ is. over a b is
    ] refl
  where
    under : (a b : ℕ) → nat_lt a b ≡ true → a < b
    under a b h = grind (arith, nat_tests)

    over : (a b : ℕ) → nat_lt a b ≡ false → b ≤ a
    over a b h = grind (arith, nat_tests)

-- the ranks after an entry of a list that rises are not below its own
pub ranks_above : (x : Entry) (ys : List Entry) → AllByRecursion (λ y. is_lt (entry_cmp y x) ≡ false) ys → AllByRecursion (λ (y : Entry). x.rank ≤ y.rank) ys
ranks_above x [] all = tt
ranks_above x (y ∷ ys) all = (not_less y.rank x.rank (id_cmp y.id x.id) all.0, ranks_above x ys all.1)

-- ---- the highest rank
abbrev pub higher : ℕ → ℕ → ℕ
higher x y = cond (nat_lt x y) y x

-- in any order
abbrev pub highest : List Entry → Option ℕ
highest [] = None
highest (x ∷ xs) = Some (higher x.rank (unwrap_or (highest xs) 0))

turned : (a b n : ℕ) → higher a (higher b n) ≡ higher b (higher a n)
turned a b n = grind (arith, nat_tests)

-- one entry more
pub highest_last : (xs : List Entry) (x : Entry) → highest (xs ++ x ∷ []) ≡ Some (higher x.rank (unwrap_or (highest xs) 0))
highest_last [] x = refl
highest_last (z ∷ zs) x = ap (λ o. Some (higher z.rank (unwrap_or o 0))) (highest_last zs x) ∙ ap Some (turned z.rank x.rank (unwrap_or (highest zs) 0))

module _ (cmp : Entry → Entry → Ordering) where
  highest_put : (x : Entry) (ys : List Entry) → highest (put_in cmp x ys) ≡ Some (higher x.rank (unwrap_or (highest ys) 0))
  highest_put x [] = refl
  highest_put x (y ∷ ys) =
      elim (is_lt (cmp y x)) as (λ b.
      highest (cond {A = List Entry} b (y ∷ put_in cmp x ys) (x ∷ y ∷ ys)) ≡ Some (higher x.rank (higher y.rank (unwrap_or (highest ys) 0)))) [
        | true ↦ ap (λ o. Some (higher y.rank (unwrap_or o 0))) (highest_put x ys) ∙ ap Some (turned y.rank x.rank (unwrap_or (highest ys) 0))
        | false ↦ refl
      ]

  highest_sorted : (xs : List Entry) → highest (in_order cmp xs) ≡ highest xs
  highest_sorted [] = refl
  highest_sorted (x ∷ xs) = highest_put x (in_order cmp xs) ∙ ap (λ o. Some (higher x.rank (unwrap_or o 0))) (highest_sorted xs)

least_last : (lo q : ℕ) (ys : List Entry) → AllByRecursion (λ (y : Entry). lo ≤ y.rank) ys → last_rank ys ≡ Some q → lo ≤ q
least_last lo q [] all is = cc
least_last lo q (y ∷ ys) all is =
    elim (last_rank ys) as (λ o. last_rank ys ≡ o → Some (unwrap_or o y.rank) ≡ Some q → lo ≤ q) [
      | None ↦ λ _ same. at_least lo y.rank q all.0 same
      | Some r ↦ λ later same. at_least lo r q (least_last lo r ys all.1 later) same
    ] refl is
  where
    at_least : (lo r q : ℕ) → lo ≤ r → Some r ≡ Some q → lo ≤ q
    at_least lo r q le same = let e : r ≡ q = cc in omega arith

last_risen : (ys : List Entry) → Rises entry_cmp ys → last_rank ys ≡ highest ys
last_risen [] up = refl
last_risen (y ∷ ys) up =
    elim (last_rank ys) as (λ o. last_rank ys ≡ o → Some (unwrap_or o y.rank) ≡ Some (higher y.rank (unwrap_or (highest ys) 0))) [
      | None ↦ λ none. ap Some (sym (ap (λ o. higher y.rank (unwrap_or o 0)) (sym (last_risen ys up.1) ∙ none) ∙ alone y.rank))
      | Some q ↦ λ later. ap Some
          (sym (ap (λ o. higher y.rank (unwrap_or o 0)) (sym (last_risen ys up.1) ∙ later)
          ∙ over y.rank q (least_last y.rank q ys (ranks_above y ys up.0) later)))
    ] refl
  where
    alone : (r : ℕ) → higher r 0 ≡ r
    alone r = grind (arith, nat_tests)

    over : (r q : ℕ) → r ≤ q → higher r q ≡ q
    over r q le = grind (arith, nat_tests)

-- the last of a list in order has the highest rank
pub last_is_highest : (xs : List Entry) → last_rank (in_order entry_cmp xs) ≡ highest xs
last_is_highest xs = last_risen (in_order entry_cmp xs) (rises-in_order entry_order xs) ∙ highest_sorted entry_cmp xs
