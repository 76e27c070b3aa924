-- Cells in order: the order is total and ties equal cells alone, and a search by it finds what is there.
use Rattle.std.proofs.Common.{◌≡◌, ℕ, zero, suc, ◌+◌, ◌<◌, ◌≤◌, Bool, true, false, List, [], ◌∷◌, ◌++◌, ◌&&◌, ◌||◌, refl, sym, ap, subst, ◌∙◌, length}
use Rattle.std.proofs.Common.{get_or, arith, inl, inr, ◌⊎◌}
use Rattle.std.specs.Prelude.{None, Some, slice_get, nat_eq, Result, Ok, Err, is_ok}
use Rattle.std.specs.List.{list_any, range_with_len}
use Rattle.std.specs.List.Sorted.{IsPermutation, IsSearchInRange, IsBinarySearchResult, IsNonDecreasingBy}
use Rattle.std.specs.Option.{option_cmp, option_map_or}
use Rattle.std.specs.Ordering.{nat_cmp, ordering_then, ordering_index, is_eq}
use Rattle.std.specs.Cmp.{IsTotalOrder, both_tied, unsigned_ties}
use Rattle.std.specs.Cmp.Lexicographic.{slice_cmp, options_total, texts_ties}
use Rattle.std.specs.declared.cmp.Ordering.{Ordering}
use Rattle.std.specs.declared.cmp.Ordering.TheVariants.{Less, Equal, Greater}
use Rattle.std.proofs.lemmas.Bool.{or_left, or_right}
use Rattle.std.proofs.lemmas.Cmp.{on_total, then_total, nat_cmp_total, nat_list_cmp_total, nat_list_eq_equiv, nat_eq_equiv}
use Rattle.std.proofs.lemmas.List.Sorted.{list_any-IsPermutation, searchable_from_sorted}
use Rattle.finite_maps.specs.Equal.{text_eq}
use Rattle.model_laws.specs.Cells.{cell_eq}
use Rattle.footprint.specs.Order.{sort, held_cmp, place_cmp, passes_at, IsOrder}
use Rattle.footprint.specs.Prints.{seen, holds}
use Rattle.footprint.specs.declared.cell.Cell.{Cell as Held}
use Rattle.footprint.specs.declared.cell.Cell.TheVariants.{Kind, Place, Rank, Attr, Row, Whole}
use Rattle.footprint.proofs.Pairs.{or_neither}

-- ---- the order is total: it is that of a sort, an id, a feature and an id
first_id : Held → List ℕ
first_id (Kind e) = e
first_id (Place e) = e
first_id (Rank e) = e
first_id (Attr e f) = e
first_id (Row a f b) = a
first_id (Whole a f) = a

feature : Held → ℕ
feature (Attr e f) = f
feature (Row a f b) = f
feature (Whole a f) = f
feature c = 0

last_id : Held → List ℕ
last_id (Row a f b) = b
last_id c = []

key_cmp : Held → Held → Ordering
key_cmp c d = ordering_then (nat_cmp (sort c) (sort d))
    (ordering_then (slice_cmp nat_cmp (first_id c) (first_id d))
    (ordering_then (nat_cmp (feature c) (feature d)) (slice_cmp nat_cmp (last_id c) (last_id d))))

key_total : IsTotalOrder key_cmp
unfolding key_cmp
key_total = then_total (on_total sort nat_cmp_total)
    (then_total (on_total first_id nat_list_cmp_total) (then_total (on_total feature nat_cmp_total) (on_total last_id nat_list_cmp_total)))

then_none : (o : Ordering) → ordering_then o Equal ≡ o
then_none Less = refl
then_none Equal = refl
then_none Greater = refl

same_order : (c d : Held) → key_cmp c d ≡ held_cmp c d
unfolding key_cmp first_id feature last_id
same_order (Kind a) (Kind b) = then_none (slice_cmp nat_cmp a b)
same_order (Place a) (Place b) = then_none (slice_cmp nat_cmp a b)
same_order (Rank a) (Rank b) = then_none (slice_cmp nat_cmp a b)
same_order (Attr a f) (Attr b g) = ap (ordering_then (slice_cmp nat_cmp a b)) (then_none (nat_cmp f g))
same_order (Row a f x) (Row b g y) = refl
same_order (Whole a f) (Whole b g) = ap (ordering_then (slice_cmp nat_cmp a b)) (then_none (nat_cmp f g))
same_order c d = refl

pub held_total : IsTotalOrder held_cmp
held_total = subst IsTotalOrder (λ i c d. same_order c d i) key_total

pub place_total : (list : List Held) → IsTotalOrder (place_cmp list)
place_total list = on_total (slice_get list) (options_total held_total)

-- ---- it ties equal cells alone
text_tied : (a b : List ℕ) → text_eq a b ≡ is_eq (slice_cmp nat_cmp b a)
text_tied a b = nat_list_eq_equiv.symm a b ∙ texts_ties b a

nat_tied : (f g : ℕ) → nat_eq f g ≡ is_eq (nat_cmp g f)
nat_tied f g = nat_eq_equiv.symm f g ∙ unsigned_ties g f

and_turned : (a b c : Bool) → (a && b) && c ≡ a && (b && c)
and_turned true b c = refl
and_turned false b c = refl

ties : (c h : Held) → cell_eq (seen c) (seen h) ≡ is_eq (held_cmp h c)
ties (Kind a) (Kind b) = text_tied a b
ties (Place a) (Place b) = text_tied a b
ties (Rank a) (Rank b) = text_tied a b
ties (Attr a f) (Attr b g) = both_tied (text_eq a b) (nat_eq f g) (slice_cmp nat_cmp b a) (nat_cmp g f) (text_tied a b) (nat_tied f g)
ties (Row a f x) (Row b g y) =
    and_turned (text_eq a b) (nat_eq f g) (text_eq x y)
    ∙ both_tied (text_eq a b) (nat_eq f g && text_eq x y) (slice_cmp nat_cmp b a) (ordering_then (nat_cmp g f) (slice_cmp nat_cmp y x)) (text_tied a b)
    (both_tied (nat_eq f g) (text_eq x y) (nat_cmp g f) (slice_cmp nat_cmp y x) (nat_tied f g) (text_tied x y))
ties (Whole a f) (Whole b g) = both_tied (text_eq a b) (nat_eq f g) (slice_cmp nat_cmp b a) (nat_cmp g f) (text_tied a b) (nat_tied f g)
ties c h = refl

-- ---- what a search answers
any_at : (test : ℕ → Bool) (order : List ℕ) (k : ℕ) → k < length order → test (get_or order k 0) ≡ true → list_any test order ≡ true
any_at test [] k low h = absurd (omega (arith, low))
any_at test (i ∷ order) zero low h = or_left (test i) (list_any test order) h
any_at test (i ∷ order) (suc k) low h = or_right (test i) (list_any test order) (any_at test order k (omega (arith, low)) h)

none_at : (test : ℕ → Bool) (order : List ℕ) → ((k : ℕ) → k < length order → test (get_or order k 0) ≡ false) → list_any test order ≡ false
none_at test [] h = refl
none_at test (i ∷ order) h = or_neither (test i) (list_any test order) (h 0 (omega arith)) (none_at test order (λ k low. h (suc k) (omega (arith, low))))

below_or : (j k : ℕ) → (j < k) ⊎ (k ≤ j)
below_or zero zero = inr (omega arith)
below_or zero (suc k) = inl (omega arith)
below_or (suc j) zero = inr (omega arith)
below_or (suc j) (suc k) = elim (below_or j k) [ inl low ↦ inl (omega (arith, low)) | inr high ↦ inr (omega (arith, high)) ]

answer_tells : (ord : ℕ → Ordering) (order : List ℕ) (r : Result ℕ ℕ) → IsSearchInRange r (length order) → IsBinarySearchResult ord order r
    → IsNonDecreasingBy (λ y. ordering_index (ord y)) order → is_ok r ≡ list_any (λ i. is_eq (ord i)) order
answer_tells ord order (Ok k) bound at up = sym (any_at (λ i. is_eq (ord i)) order k bound (ap is_eq (at 0)))
answer_tells ord order (Err k) bound part up =
    sym (none_at (λ i. is_eq (ord i)) order (λ j low. elim (below_or j k) [
      | inl below ↦ ap is_eq ((part up).0 j 0 (omega arith) below)
      | inr above ↦ ap is_eq ((part up).1 j 0 above low)
    ]))

tied_at : (list : List Held) (c : Held) (i : ℕ) → is_eq (option_cmp held_cmp (slice_get list i) (Some c)) ≡ passes_at (λ h. cell_eq (seen c) (seen h)) list i
tied_at list c i = elim (slice_get list i) as (λ o.
    is_eq (option_cmp held_cmp o (Some c)) ≡ option_map_or (λ h. cell_eq (seen c) (seen h)) o false) [ None ↦ refl | Some h ↦ sym (ties c h) ]

-- a search by the order of the cells finds whether one is held
pub search_tells : (list : List Held) (order : List ℕ) (c : Held) (r : Result ℕ ℕ) → 0 < length order → IsOrder list order
    → IsSearchInRange r (length order) → IsBinarySearchResult (λ i. option_cmp held_cmp (slice_get list i) (Some c)) order r
    → is_ok r ≡ holds list (seen c)
search_tells list order c r some is bound answer =
    answer_tells (λ i. option_cmp held_cmp (slice_get list i) (Some c)) order r bound answer
    (searchable_from_sorted (options_total held_total) (slice_get list) order (Some c) (is some).0)
    ∙ ap (λ test. list_any test order) (λ t i. tied_at list c i t)
    ∙ (is some).1 (λ h. cell_eq (seen c) (seen h))

-- ---- all positions
shifted : (test : Held → Bool) (h : Held) (list : List Held) (a n : ℕ)
    → list_any (passes_at test (h ∷ list)) (range_with_len (suc a) n) ≡ list_any (passes_at test list) (range_with_len a n)
shifted test h list a zero = refl
shifted test h list a (suc n) =
    let next : suc a + 1 ≡ suc (a + 1) = omega arith in
    ap (λ m. passes_at test list a || list_any (passes_at test (h ∷ list)) (range_with_len m n)) next
    ∙ ap (λ b. passes_at test list a || b) (shifted test h list (a + 1) n)

all_places : (test : Held → Bool) (list : List Held) → list_any (passes_at test list) (range_with_len 0 (length list)) ≡ list_any test list
all_places test [] = refl
all_places test (h ∷ list) = ap (λ b. test h || b) (shifted test h list 0 (length list) ∙ all_places test list)

range_more : (a n j : ℕ) → a + n ≡ j → range_with_len a (suc n) ≡ range_with_len a n ++ j ∷ []
range_more a zero j h =
    let same : a ≡ j = omega (arith, h) in
    ap (λ x. x ∷ []) same
range_more a (suc n) j h = ap (λ l. a ∷ l) (range_more (a + 1) n j (omega (arith, h)))

pub next_place : (n : ℕ) → range_with_len 0 (n + 1) ≡ range_with_len 0 n ++ n ∷ []
next_place n =
    let one : n + 1 ≡ suc n = omega arith in
    ap (range_with_len 0) one ∙ range_more 0 n n (omega arith)

-- the positions in another order hold the cells
pub places_moved : (list : List Held) (places order : List ℕ) → places ≡ range_with_len 0 (length list) → IsPermutation places order
    → (test : Held → Bool) → list_any (passes_at test list) order ≡ list_any test list
places_moved list places order is moved test =
    sym (list_any-IsPermutation (passes_at test list) places order moved) ∙ ap (list_any (passes_at test list)) is ∙ all_places test list
