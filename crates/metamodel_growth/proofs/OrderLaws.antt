-- An order has each number once.
use Rattle.std.proofs.Common.{◌≡◌, ℕ, zero, suc, ◌+◌, ◌<◌, ◌≤◌, Bool, true, false, cond, not, List, [], ◌∷◌, ◌++◌, ◌&&◌, ◌||◌, refl, sym, ap, subst}
use Rattle.std.proofs.Common.{◌∙◌, arith, length, nat_eq, Less}
use Rattle.std.specs.Prelude.{Option, None, Some, slice_get}
use Rattle.std.specs.List.{AllByRecursion, IsDistinct, cons_option, filter, filter_map, list_any, range_with_len}
use Rattle.std.specs.List.Sorted.{IsStrictlySortedBy}
use Rattle.std.specs.Option.{option_map_or}
use Rattle.std.specs.Ordering.{nat_cmp}
use Rattle.std.proofs.lemmas.Bool.{or_left, or_right}
use Rattle.std.proofs.lemmas.List.Folds.{list_any-append}
use Rattle.std.proofs.lemmas.List.Kept.{IsStrictlySortedBy-filter}
use Rattle.std.proofs.lemmas.Map.Keys.{any_passes_from_place}
use Rattle.std.proofs.lemmas.Map.Steps.{le-length_from_below, length-le_from_distinct_below}
use Rattle.std.proofs.lemmas.Bool.Decides.{nat_tests}
use Rattle.ecore_meta.proofs.NumberLaws.{nat_itself, nat_same, or_split}
use Rattle.ecore_meta.proofs.RisingLaws.{in_kept, in_range, kept_is, rising_range}
use Rattle.metamodel_growth.specs.Order.{IsOrder, begun_by, place_in, places}

pub some_is : (x y : ℕ) → Some x ≡ Some y → x ≡ y
some_is x y h = cc

pub apart : (x y : ℕ) → nat_eq x y ≡ false → nat_eq y x ≡ false
apart x y h = by_test (nat_eq y x) refl
  where
    by_test : (b : Bool) → nat_eq y x ≡ b → nat_eq y x ≡ false
    by_test true e = let t : nat_eq x y ≡ true = subst (λ z. nat_eq x z ≡ true) (sym (nat_same y x e)) (nat_itself x) in cc
    by_test false e = e

all_at : (P : ℕ → Type 0) (xs : List ℕ) (i k : ℕ) → AllByRecursion P xs → slice_get xs i ≡ Some k → P k
all_at P [] i k all is = cc
all_at P (x ∷ xs) zero k all is = subst P (some_is x k is) all.0
all_at P (x ∷ xs) (suc i) k all is = all_at P xs i k all.1 is

-- a number of the list stands at its place
pub placed : (xs : List ℕ) (k : ℕ) → list_any (nat_eq k) xs ≡ true → slice_get xs (place_in xs k) ≡ Some k
placed [] k h = cc
placed (x ∷ xs) k h = by_test (nat_eq k x) refl h (placed xs k)
  where
    by_test : (b : Bool) → nat_eq k x ≡ b → b || list_any (nat_eq k) xs ≡ true
        → (list_any (nat_eq k) xs ≡ true → slice_get xs (place_in xs k) ≡ Some k)
        → slice_get (x ∷ xs) (cond b 0 (suc (place_in xs k))) ≡ Some k
    by_test true e g more = ap Some (sym (nat_same k x e))
    by_test false e g more = more g

-- where each number is there once, it stands nowhere else
pub place_back : (xs : List ℕ) → IsDistinct nat_eq xs → (i k : ℕ) → slice_get xs i ≡ Some k → place_in xs k ≡ i
unfolding IsDistinct
place_back [] once i k is = cc
place_back (x ∷ xs) once zero k is = ap (λ b. cond b 0 (suc (place_in xs k))) (subst (λ z. nat_eq k z ≡ true) (sym (some_is x k is)) (nat_itself k))
place_back (x ∷ xs) once (suc i) k is =
    ap (λ b. cond b 0 (suc (place_in xs k))) (apart x k (all_at (λ y. nat_eq x y ≡ false) xs i k once.0 is))
    ∙ ap suc (place_back xs once.1 i k is)

pub all_apart : (x : ℕ) (ys : List ℕ) → (list_any (nat_eq x) ys ≡ true → ⊥) → AllByRecursion (λ y. nat_eq x y ≡ false) ys
all_apart x [] h = tt
all_apart x (y ∷ ys) h = (by_test (nat_eq x y) refl, all_apart x ys (λ m. h (or_right (nat_eq x y) _ m)))
  where
    by_test : (b : Bool) → nat_eq x y ≡ b → nat_eq x y ≡ false
    by_test true e = absurd (h (or_left (nat_eq x y) _ e))
    by_test false e = e

all_append : (P : ℕ → Type 0) (xs ys : List ℕ) → AllByRecursion P xs → AllByRecursion P ys → AllByRecursion P (xs ++ ys)
all_append P [] ys a b = b
all_append P (x ∷ xs) ys a b = (a.0, all_append P xs ys a.1 b)

distinct_append : (xs ys : List ℕ) → IsDistinct nat_eq xs → IsDistinct nat_eq ys
    → ((k : ℕ) → list_any (nat_eq k) xs ≡ true → list_any (nat_eq k) ys ≡ true → ⊥) → IsDistinct nat_eq (xs ++ ys)
unfolding IsDistinct
distinct_append [] ys a b h = b
distinct_append (x ∷ xs) ys a b h = (
  all_append (λ y. nat_eq x y ≡ false) xs ys a.0 (all_apart x ys (λ m. h x (or_left (nat_eq x x) _ (nat_itself x)) m)),
  distinct_append xs ys a.1 b (λ k m. h k (or_right (nat_eq k x) _ m)),
)

less_apart : (x : ℕ) (ys : List ℕ) → AllByRecursion (λ y. nat_cmp x y ≡ Less) ys → AllByRecursion (λ y. nat_eq x y ≡ false) ys
less_apart x [] h = tt
less_apart x (y ∷ ys) h = (by_test (nat_eq x y) refl, less_apart x ys h.1)
  where
    itself : (z : ℕ) → nat_cmp z z ≡ Less → ⊥
    itself z e = grind (arith, nat_tests)

    by_test : (b : Bool) → nat_eq x y ≡ b → nat_eq x y ≡ false
    by_test true e = absurd (itself x (subst (λ z. nat_cmp x z ≡ Less) (sym (nat_same x y e)) h.0))
    by_test false e = e

pub rising_distinct : (xs : List ℕ) → IsStrictlySortedBy nat_cmp xs → IsDistinct nat_eq xs
unfolding IsDistinct IsStrictlySortedBy
rising_distinct [] h = tt
rising_distinct (x ∷ xs) h = (less_apart x xs h.0, rising_distinct xs h.1)

range_low : (a n k : ℕ) → list_any (nat_eq k) (range_with_len a n) ≡ true → (a ≤ k) × (k < a + n)
range_low a zero k h = cc
range_low a (suc n) k h = or_split (nat_eq k a) (list_any (nat_eq k) (range_with_len (a + 1) n)) h
    (λ e. let s : k ≡ a = nat_same k a e in (omega (arith, s), omega (arith, s)))
    (λ e. let r = range_low (a + 1) n k e in (omega (arith, r.0), omega (arith, r.1)))

module _ (first : List ℕ) (n : ℕ) (once : IsDistinct nat_eq first) (low : (k : ℕ) → list_any (nat_eq k) first ≡ true → k < n) where
  others : List ℕ
  others = filter (λ k. not (list_any (nat_eq k) first)) (range_with_len 0 n)

  both_not : (a b : Bool) → not a && b ≡ true → a ≡ true → ⊥
  both_not true b h e = cc
  both_not false b h e = cc

  second : (a b : Bool) → not a && b ≡ true → b ≡ true
  second true b h = cc
  second false b h = h

  others_is : (k : ℕ) → list_any (nat_eq k) others ≡ not (list_any (nat_eq k) first) && list_any (nat_eq k) (range_with_len 0 n)
  unfolding others
  others_is k = kept_is (λ k. not (list_any (nat_eq k) first)) k (range_with_len 0 n)

  distinct : IsDistinct nat_eq (begun_by first n)
  unfolding others
  distinct = distinct_append first others once
      (rising_distinct others (IsStrictlySortedBy-filter nat_cmp (λ k. not (list_any (nat_eq k) first)) (range_with_len 0 n)
      (rising_range 0 n)))
      (λ k a b. both_not _ _ (sym (others_is k) ∙ b) a)

  has : (k : ℕ) → k < n → list_any (nat_eq k) (begun_by first n) ≡ true
  unfolding others
  has k lt =
      list_any-append (nat_eq k) first others
      ∙ ap (λ b. list_any (nat_eq k) first || b) (others_is k ∙ ap (λ b. not (list_any (nat_eq k) first) && b) (in_range 0 n k (omega arith) (omega arith)))
      ∙ either (list_any (nat_eq k) first)
    where
      either : (a : Bool) → a || not a && true ≡ true
      either true = refl
      either false = refl

  below : (k : ℕ) → list_any (nat_eq k) (begun_by first n) ≡ true → k < n
  unfolding others
  below k h = or_split (list_any (nat_eq k) first) (list_any (nat_eq k) others) (sym (list_any-append (nat_eq k) first others) ∙ h)
      (low k)
      (λ e. let r = range_low 0 n k (second (list_any (nat_eq k) first) _ (sym (others_is k) ∙ e)) in omega (arith, r.1))

  pub begun_order : IsOrder n (begun_by first n)
  begun_order = record {
    long = same (length-le_from_distinct_below (begun_by first n) n distinct below) (le-length_from_below (begun_by first n) n has);
    there = λ k lt. placed (begun_by first n) k (has k lt);
    back = λ i k is. (place_back (begun_by first n) distinct i k is, below k (any_passes_from_place (nat_eq k) (begun_by first n) i k is (nat_itself k)));
  }
    where
      same : {a b : ℕ} → a ≤ b → b ≤ a → a ≡ b
      same h g = omega (arith, h, g)

get_first : (xs ys : List ℕ) (i k : ℕ) → slice_get xs i ≡ Some k → slice_get (xs ++ ys) i ≡ Some k
get_first [] ys i k is = cc
get_first (x ∷ xs) ys zero k is = is
get_first (x ∷ xs) ys (suc i) k is = get_first xs ys i k is

-- numbers that are looked up: each is found, below n, and no two are found at one
module _ (at : ℕ → Option ℕ) where
  found_from : (a m k : ℕ) → list_any (nat_eq k) (filter_map at (range_with_len a m)) ≡ true → (j : ℕ) × (a ≤ j) × (j < a + m) × (at j ≡ Some k)
  found_from a zero k h = cc
  found_from a (suc m) k h = by_first (at a) refl (found_from (a + 1) m k) h
    where
      later : (j : ℕ) × (a + 1 ≤ j) × (j < a + 1 + m) × (at j ≡ Some k) → (j : ℕ) × (a ≤ j) × (j < a + suc m) × (at j ≡ Some k)
      later r = (r.0, omega (arith, r.1), omega (arith, r.2), r.3)

      by_first : (o : Option ℕ) → at a ≡ o
          → (list_any (nat_eq k) (filter_map at (range_with_len (a + 1) m)) ≡ true
          → (j : ℕ) × (a + 1 ≤ j) × (j < a + 1 + m) × (at j ≡ Some k))
          → list_any (nat_eq k) (cons_option o (filter_map at (range_with_len (a + 1) m))) ≡ true
          → (j : ℕ) × (a ≤ j) × (j < a + suc m) × (at j ≡ Some k)
      by_first None is more g = later (more g)
      by_first (Some x) is more g = or_split (nat_eq k x) (list_any (nat_eq k) (filter_map at (range_with_len (a + 1) m))) g
          (λ e. (a, omega arith, omega arith, is ∙ ap Some (sym (nat_same k x e))))
          (λ e. later (more e))

  module _ (count : ℕ) (one : (i j k : ℕ) → i < count → j < count → at i ≡ Some k → at j ≡ Some k → i ≡ j) where
    found_once : (a m : ℕ) → a + m ≤ count → IsDistinct nat_eq (filter_map at (range_with_len a m))
    unfolding IsDistinct
    found_once a zero h = tt
    found_once a (suc m) h = by_first (at a) refl (found_once (a + 1) m (omega arith))
      where
        by_first : (o : Option ℕ) → at a ≡ o → IsDistinct nat_eq (filter_map at (range_with_len (a + 1) m))
            → IsDistinct nat_eq (cons_option o (filter_map at (range_with_len (a + 1) m)))
        by_first None is rest = rest
        by_first (Some x) is rest = (
          all_apart x (filter_map at (range_with_len (a + 1) m)) (λ g.
              let r = found_from (a + 1) m x g in
              let e : a ≡ r.0 = one a r.0 x (omega arith) (omega (arith, r.2)) is r.3 in
              absurd (omega (arith, e, r.1))),
          rest,
        )

    module _ (n : ℕ) (below : (i k : ℕ) → at i ≡ Some k → k < n) where
      pub found_order : IsOrder n (begun_by (filter_map at (range_with_len 0 count)) n)
      found_order = begun_order (filter_map at (range_with_len 0 count)) n (found_once 0 count (omega arith))
          (λ k h. let r = found_from 0 count k h in below r.0 k r.3)

  found_at : (a m i k : ℕ) → ((j : ℕ) → a ≤ j → j < a + m → (x : ℕ) × (at j ≡ Some x)) → i < m → at (a + i) ≡ Some k
      → slice_get (filter_map at (range_with_len a m)) i ≡ Some k
  found_at a zero i k all lt is = absurd (omega arith)
  found_at a (suc m) zero k all lt is = ap (λ o. slice_get (cons_option o (filter_map at (range_with_len (a + 1) m))) 0) (ap at (plus_none a) ∙ is)
    where
      plus_none : (a : ℕ) → a ≡ a + 0
      plus_none a = omega arith
  found_at a (suc m) (suc i) k all lt is =
      let here = all a (omega arith) (omega arith) in
      ap (λ o. slice_get (cons_option o (filter_map at (range_with_len (a + 1) m))) (suc i)) here.1
      ∙ found_at (a + 1) m i k (λ j le less. all j (omega arith) (omega arith)) (omega arith) (ap at (shift a i) ∙ is)
    where
      shift : (a i : ℕ) → a + 1 + i ≡ a + suc i
      shift a i = omega arith

  -- the numbers that are found come first, in their order
  pub found_place : (count n i k : ℕ) → ((j : ℕ) → j < count → (x : ℕ) × (at j ≡ Some x)) → i < count → at i ≡ Some k
      → slice_get (begun_by (filter_map at (range_with_len 0 count)) n) i ≡ Some k
  found_place count n i k all lt is = get_first (filter_map at (range_with_len 0 count)) _ i k
      (found_at 0 count i k (λ j _ less. all j (omega (arith, less))) lt (ap at (none_less i) ∙ is))
    where
      none_less : (i : ℕ) → 0 + i ≡ i
      none_less i = omega arith

-- a new number is among the places exactly where the number there passes
pub in_places : (test : ℕ → Bool) (order : List ℕ) (k : ℕ) → list_any (nat_eq k) (places test order) ≡ option_map_or test (slice_get order k) false
in_places test order k = in_kept (λ k. option_map_or test (slice_get order k) false) (length order) k (low order k)
  where
    low : (xs : List ℕ) (i : ℕ) → option_map_or test (slice_get xs i) false ≡ true → i < length xs
    low [] i e = cc
    low (x ∷ xs) zero e = omega arith
    low (x ∷ xs) (suc i) e = let more = low xs i e in omega (arith, more)

pub places_rise : (test : ℕ → Bool) (order : List ℕ) → IsStrictlySortedBy nat_cmp (places test order)
places_rise test order = IsStrictlySortedBy-filter nat_cmp (λ k. option_map_or test (slice_get order k) false)
    (range_with_len 0 (length order)) (rising_range 0 (length order))
