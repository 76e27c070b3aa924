-- The places of numbers in an order, as vectors and sets hold them.
use Rattle.std.proofs.Common.{◌≡◌, ℕ, zero, suc, ◌+◌, ◌<◌, ◌≤◌, Bool, true, false, cond, List, [], ◌∷◌, ◌++◌, ◌||◌, refl, sym, ap, subst, ◌∙◌, arith}
use Rattle.std.proofs.Common.{get_or, length, map, nat_eq, nat_lt, set, rules}
use Rattle.std.specs.Prelude.{Option, None, Some, slice_get}
use Rattle.std.specs.BTreeMap.{is_at}
use Rattle.std.specs.BTreeSet.{BTreeSet, contains}
use Rattle.std.specs.List.{list_any, range_with_len}
use Rattle.std.specs.List.Sorted.{IsStrictlySortedBy}
use Rattle.std.specs.Option.{option_map_or}
use Rattle.std.specs.Ordering.{nat_cmp}
use Rattle.std.proofs.lemmas.Bool.{or_left, or_right}
use Rattle.std.proofs.lemmas.Bool.Decides.{nat_tests}
use Rattle.std.proofs.lemmas.List.Elements.{filter_agree}
use Rattle.std.proofs.lemmas.List.Folds.{list_any-append}
use Rattle.std.proofs.lemmas.Option.{slice_get_within}
use Rattle.ecore_meta.specs.Above.{above_of}
use Rattle.ecore_meta.specs.Meta.{Meta, features_of, is_a}
use Rattle.ecore_meta.specs.Promised.{IsMetamodel, declared}
use Rattle.ecore_meta.proofs.DeclaredLaws.{has_any, has_declared}
use Rattle.ecore_meta.proofs.NumberLaws.{nat_itself, nat_same, or_split, same_bool}
use Rattle.ecore_meta.proofs.RisingLaws.{keys_are}
use Rattle.metamodel_growth.specs.Order.{HasPlaces, IsOrder, IsSetOf, Placed, place_in, places}
use Rattle.metamodel_growth.proofs.OrderLaws.{placed, some_is}
use Rattle.metamodel_growth.proofs.RenumberLaws.{by_option, never, none_some}

absent : (n : ℕ) (xs : List ℕ) → list_any (nat_eq n) xs ≡ false → place_in xs n ≡ length xs
absent n [] h = refl
absent n (x ∷ xs) h = by_test (nat_eq n x) h (absent n xs)
  where
    by_test : (b : Bool) → b || list_any (nat_eq n) xs ≡ false → (list_any (nat_eq n) xs ≡ false → place_in xs n ≡ length xs)
        → cond b 0 (suc (place_in xs n)) ≡ suc (length xs)
    by_test true g more = absurd (never (sym g))
    by_test false g more = ap suc (more g)

-- a number past the end has no place
pub place_past : (xs : List ℕ) → IsOrder (length xs) xs → (n : ℕ) → length xs ≤ n → place_in xs n ≡ length xs
place_past xs order n le = absent n xs (by_test (list_any (nat_eq n) xs) refl)
  where
    by_test : (b : Bool) → list_any (nat_eq n) xs ≡ b → list_any (nat_eq n) xs ≡ false
    by_test true e = let lt = (order.back (place_in xs n) n (placed xs n e)).1 in absurd (omega (arith, lt, le))
    by_test false e = e

-- ---- the places so far
abbrev pub PlacedSoFar : List ℕ → List ℕ → ℕ → Type 0
PlacedSoFar numbers spots i = (length spots ≡ length numbers) × ((j k : ℕ) → j < i → slice_get numbers j ≡ Some k → slice_get spots k ≡ Some j)

pub placed_none : (numbers spots : List ℕ) → length spots ≡ length numbers → PlacedSoFar numbers spots 0
placed_none numbers spots long = (long, λ j k lt is. absurd (omega arith))

set_same : (xs : List ℕ) (i a : ℕ) → i < length xs → slice_get (set xs i a) i ≡ Some a
set_same [] i a lt = absurd (omega arith)
set_same (x ∷ xs) zero a lt = refl
set_same (x ∷ xs) (suc i) a lt = set_same xs i a (omega arith)

set_other : (xs : List ℕ) (i j a : ℕ) → (j ≡ i → ⊥) → slice_get (set xs i a) j ≡ slice_get xs j
set_other [] i j a f = refl
set_other (x ∷ xs) zero zero a f = absurd (f refl)
set_other (x ∷ xs) zero (suc j) a f = refl
set_other (x ∷ xs) (suc i) zero a f = refl
set_other (x ∷ xs) (suc i) (suc j) a f = set_other xs i j a (λ e. f (ap suc e))

length_set : (xs : List ℕ) (i a : ℕ) → length (set xs i a) ≡ length xs
length_set [] i a = refl
length_set (x ∷ xs) zero a = refl
length_set (x ∷ xs) (suc i) a = ap suc (length_set xs i a)

pub item_at : (xs : List ℕ) (i k d : ℕ) → i < length xs → k ≡ get_or xs i d → slice_get xs i ≡ Some k
item_at [] i k d lt is = absurd (omega arith)
item_at (x ∷ xs) zero k d lt is = ap Some (sym is)
item_at (x ∷ xs) (suc i) k d lt is = item_at xs i k d (omega arith) is

-- a number of the order is a place of the vector
pub low_item : (numbers : List ℕ) → IsOrder (length numbers) numbers → (i k : ℕ) → slice_get numbers i ≡ Some k → k < length numbers
low_item numbers order i k is = (order.back i k is).1

pub placed_more : (numbers spots : List ℕ) (i n : ℕ) → IsOrder (length numbers) numbers → PlacedSoFar numbers spots i
    → slice_get numbers i ≡ Some n → PlacedSoFar numbers (set spots n i) (i + 1)
placed_more numbers spots i n order so is = (length_set spots n i ∙ so.0, λ j k lt at. by_test j k lt at (nat_eq j i) refl)
  where
    low : (j i : ℕ) → j < i + 1 → (j ≡ i → ⊥) → j < i
    low j i h f = omega (arith, h, f)

    by_test : (j k : ℕ) → j < i + 1 → slice_get numbers j ≡ Some k → (b : Bool) → nat_eq j i ≡ b → slice_get (set spots n i) k ≡ Some j
    by_test j k lt at true e =
        let s : j ≡ i = nat_same j i e in
        let one : k ≡ n = some_is k n (sym at ∙ ap (slice_get numbers) s ∙ is) in
        ap (slice_get (set spots n i)) one ∙ set_same spots n i (subst (λ z. n < z) (sym so.0) (order.back i n is).1) ∙ ap (λ (z : ℕ). Some z) (sym s)
    by_test j k lt at false e =
        let other : j ≡ i → ⊥ = λ s. never (sym e ∙ ap (λ z. nat_eq z i) s ∙ nat_itself i) in
        set_other spots n k i (λ s. other (sym (order.back j k at).0 ∙ ap (place_in numbers) s ∙ (order.back i n is).0)) ∙ so.1 j k (low j i lt other) at

pub placed_all : (numbers spots : List ℕ) (i : ℕ) → IsOrder (length numbers) numbers → PlacedSoFar numbers spots i → length numbers ≤ i → Placed numbers spots
placed_all numbers spots i order so le = (
  so.0,
  λ k lt.
      let at = order.there k lt in
      let low = slice_get_within numbers (place_in numbers k) k at in
      so.1 (place_in numbers k) k (omega (arith, low, le)) at,
)

-- ---- sets of numbers
at_is : (u d : ℕ) → is_at (nat_cmp u) d ≡ nat_eq d u
at_is u d = search rules

pub set_none : (s : BTreeSet ℕ) → ((q : ℕ) → contains nat_cmp s q ≡ false) → IsStrictlySortedBy nat_cmp s.keys → IsSetOf [] s
set_none s empty sorted = record { alike = empty; sorted = sorted }

pub set_more : (xs : List ℕ) (s new : BTreeSet ℕ) (u : ℕ) → IsSetOf xs s
    → ((q : ℕ) → contains nat_cmp new q ≡ cond (is_at (nat_cmp u) q) true (contains nat_cmp s q)) → IsStrictlySortedBy nat_cmp new.keys
    → IsSetOf (xs ++ u ∷ []) new
set_more xs s new u is told sorted = record {
  alike = λ d.
      told d ∙ ap (λ b. cond b true (contains nat_cmp s d)) (at_is u d) ∙ ap (λ b. cond (nat_eq d u) true b) (is.alike d)
      ∙ by_test (nat_eq d u) (list_any (nat_eq d) xs) ∙ sym (list_any-append (nat_eq d) xs (u ∷ []));
  sorted = sorted;
}
  where
    by_test : (a b : Bool) → cond a true b ≡ b || (a || false)
    by_test true true = refl
    by_test true false = refl
    by_test false true = refl
    by_test false false = refl

mapped_in : (f : ℕ → ℕ) (xs : List ℕ) (d : ℕ) → list_any (nat_eq d) (map f xs) ≡ true → (k : ℕ) × (list_any (nat_eq k) xs ≡ true) × (d ≡ f k)
mapped_in f [] d h = absurd (never h)
mapped_in f (x ∷ xs) d h = or_split (nat_eq d (f x)) (list_any (nat_eq d) (map f xs)) h
    (λ e. (x, or_left (nat_eq x x) _ (nat_itself x), nat_same d (f x) e))
    (λ e. let r = mapped_in f xs d e in (r.0, or_right (nat_eq r.0 x) _ r.1, r.2))

in_mapped : (f : ℕ → ℕ) (xs : List ℕ) (k : ℕ) → list_any (nat_eq k) xs ≡ true → list_any (nat_eq (f k)) (map f xs) ≡ true
in_mapped f [] k h = absurd (never h)
in_mapped f (x ∷ xs) k h = or_split (nat_eq k x) (list_any (nat_eq k) xs) h
    (λ e. or_left (nat_eq (f k) (f x)) _ (subst (λ z. nat_eq (f k) (f z) ≡ true) (nat_same k x e) (nat_itself (f k))))
    (λ e. or_right (nat_eq (f k) (f x)) _ (in_mapped f xs k e))

-- the set of the places is, in order, the places of what is there
pub places_are : (order numbers : List ℕ) (s : BTreeSet ℕ) → IsOrder (length order) order
    → ((k : ℕ) → list_any (nat_eq k) numbers ≡ true → k < length order) → IsSetOf (map (place_in order) numbers) s
    → s.keys ≡ places (λ k. list_any (nat_eq k) numbers) order
places_are order numbers s is within set =
    keys_are s test (length order) set.sorted (λ d. set.alike d ∙ same_bool (list_any (nat_eq d) (map (place_in order) numbers)) (test d)
    (forth d) (back d)) (λ d h. low d h)
  where
    test : ℕ → Bool
    test d = option_map_or (λ k. list_any (nat_eq k) numbers) (slice_get order d) false

    low : (d : ℕ) → option_map_or (λ k. list_any (nat_eq k) numbers) (slice_get order d) false ≡ true → d < length order
    low d h = by_option (slice_get order d)
        (λ none. absurd (never (sym (ap (λ o. option_map_or (λ k. list_any (nat_eq k) numbers) o false) none) ∙ h)))
        (λ k at. slice_get_within order d k at)

    forth : (d : ℕ) → list_any (nat_eq d) (map (place_in order) numbers) ≡ true
        → option_map_or (λ k. list_any (nat_eq k) numbers) (slice_get order d) false ≡ true
    forth d h =
        let r = mapped_in (place_in order) numbers d h in
        ap (λ o. option_map_or (λ k. list_any (nat_eq k) numbers) o false) (ap (slice_get order) r.2 ∙ is.there r.0 (within r.0 r.1)) ∙ r.1

    back : (d : ℕ) → option_map_or (λ k. list_any (nat_eq k) numbers) (slice_get order d) false ≡ true
        → list_any (nat_eq d) (map (place_in order) numbers) ≡ true
    back d h = by_option (slice_get order d)
        (λ none. absurd (never (sym (ap (λ o. option_map_or (λ k. list_any (nat_eq k) numbers) o false) none) ∙ h)))
        (λ k at.
        let m : list_any (nat_eq k) numbers ≡ true = sym (ap (λ o. option_map_or (λ k. list_any (nat_eq k) numbers) o false) at) ∙ h in
        subst (λ z. list_any (nat_eq z) (map (place_in order) numbers) ≡ true) (is.back d k at).0 (in_mapped (place_in order) numbers k m))

pub same_places : (p q : ℕ → Bool) → ((k : ℕ) → p k ≡ q k) → (order : List ℕ) → places p order ≡ places q order
same_places p q same order = filter_agree (λ k. option_map_or p (slice_get order k) false) (λ k. option_map_or q (slice_get order k) false)
    (λ k. each (slice_get order k)) (range_with_len 0 (length order))
  where
    each : (o : Option ℕ) → option_map_or p o false ≡ option_map_or q o false
    each None = refl
    each (Some k) = same k

-- ---- what a class has and is, by the lists that the metamodel gives
pub in_features : (n : Meta) → IsMetamodel n → (c k : ℕ) → list_any (nat_eq k) (features_of n c) ≡ declared n c k
in_features n is c k = sym (has_any n c k) ∙ has_declared n is.lists c k

pub low_declared : (n : Meta) (c k : ℕ) → declared n c k ≡ true → k < length n.features
low_declared n c k h = by_option (slice_get n.features k)
    (λ none. absurd (never (sym (ap (λ o. option_map_or (λ x. is_a n c x.owner) o false) none) ∙ h)))
    (λ x at. slice_get_within n.features k x at)

pub in_above : (n : Meta) (c k : ℕ) → list_any (nat_eq k) (above_of n c) ≡ is_a n c k
in_above n c k = by_option (slice_get n.above c)
    (λ none. ap (λ o. list_any (nat_eq k) (option_map_or (λ ds. ds) o [])) none ∙ sym (ap (λ o. option_map_or (list_any (nat_eq k)) o false) none))
    (λ ds at. ap (λ o. list_any (nat_eq k) (option_map_or (λ ds. ds) o [])) at ∙ sym (ap (λ o. option_map_or (list_any (nat_eq k)) o false) at))

-- ---- what an order holds
pub place_none : (numbers spots : List ℕ) → HasPlaces numbers spots → (n : ℕ) → slice_get spots n ≡ None → place_in numbers n ≡ length numbers
place_none numbers spots holds n none = place_past numbers holds.order n (by_place (nat_lt n (length numbers)) refl)
  where
    by_place : (b : Bool) → nat_lt n (length numbers) ≡ b → length numbers ≤ n
    by_place true e = absurd (none_some (place_in numbers n) (sym none ∙ holds.places.1 n (low n (length numbers) e)))
      where
        low : (a b : ℕ) → nat_lt a b ≡ true → a < b
        low a b h = grind (arith, nat_tests)
    by_place false e = high n (length numbers) e
      where
        high : (a b : ℕ) → nat_lt a b ≡ false → b ≤ a
        high a b h = grind (arith, nat_tests)

pub place_some : (numbers spots : List ℕ) → HasPlaces numbers spots → (n p : ℕ) → slice_get spots n ≡ Some p → p ≡ place_in numbers n
place_some numbers spots holds n p at =
    let lt = slice_get_within spots n p at in
    some_is p (place_in numbers n) (sym at ∙ holds.places.1 n (omega (arith, lt, holds.places.0)))

-- the numbers of an order, however they were come by
pub own_order : (m : ℕ) (xs ys : List ℕ) → ys ≡ xs → IsOrder m xs → IsOrder (length ys) ys
own_order m xs ys same is = subst (λ zs. IsOrder (length zs) zs) (sym same) (subst (λ k. IsOrder k xs) (sym is.long) is)
