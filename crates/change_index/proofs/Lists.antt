-- Rising lists, the numbers below a bound, and a number that is put at an end.
use Rattle.std.proofs.Common.{◌≡◌, ℕ, zero, suc, ◌+◌, ◌-◌, ◌<◌, ◌≤◌, Bool, true, false, cond, ◌||◌, List, [], ◌∷◌, ◌++◌, length, get_or, take, drop}
use Rattle.std.proofs.Common.{nat_eq, nat_lt, refl, sym, ◌∙◌, ap, arith, append-nil, inl, inr}
use Rattle.std.specs.Prelude.{All, ◌⊎◌, Some, slice_get}
use Rattle.std.specs.List.{filter}
use Rattle.std.specs.List.Sorted.{IsNonDecreasingBy}
use Rattle.std.specs.Option.{option_map_or}
use Rattle.std.proofs.lemmas.List.{get_or-take, get_or-drop, length-drop, length-take-le}
use Rattle.std.proofs.lemmas.List.Elements.{All-cons, All-head, All-tail, All-push, All-weaker, All-contains, Contains-push, filter-append, filter_passes}
use Rattle.history_tree.specs.Laws.{Rises}
use Rattle.history_tree.specs.MergeBase.{is_among}
use Rattle.change_index.specs.Table.{below, ends_with, pushed}

is_below : (u v : ℕ) → u < v → nat_lt u v ≡ true
is_below u v low = grind (arith, low)

is_itself : (v : ℕ) → nat_eq v v ≡ true
is_itself v = grind arith

is_apart : (u v : ℕ) → u < v → nat_eq u v ≡ false
is_apart u v low = grind (arith, low)

not_below : (v : ℕ) → nat_lt v v ≡ false
not_below v = grind arith

filter_all : (p : ℕ → Bool) (us : List ℕ) → All (λ u. p u ≡ true) us → filter p us ≡ us
filter_all p [] all = refl
filter_all p (u ∷ us) all =
    ap (λ b. cond b (u ∷ filter p us) (filter p us)) (All-head (λ w. p w ≡ true) u us all)
    ∙ ap (λ ws. u ∷ ws) (filter_all p us (All-tail (λ w. p w ≡ true) u us all))

-- ---- numbers below a bound
-- all of a list that is below
pub below_all : (v : ℕ) (us : List ℕ) → All (λ u. u < v) us → below v us ≡ us
below_all v [] all = refl
below_all v (u ∷ us) all =
    ap (λ b. cond b (u ∷ below v us) (below v us)) (is_below u v (All-head (λ w. w < v) u us all))
    ∙ ap (λ ws. u ∷ ws) (below_all v us (All-tail (λ w. w < v) u us all))

-- a number below is among those below where it is in the list
pub among_below : (v u : ℕ) → u < v → (us : List ℕ) → is_among (below v us) u ≡ is_among us u
among_below v u low [] = refl
among_below v u low (w ∷ us) = by (nat_lt w v) refl (among_below v u low us)
  where
    apart : nat_lt w v ≡ false → nat_eq u w ≡ false
    apart high = grind (arith, low, high)

    by : (b : Bool) → nat_lt w v ≡ b → is_among (below v us) u ≡ is_among us u
        → is_among (cond b (w ∷ below v us) (below v us)) u ≡ (nat_eq u w || is_among us u)
    by true is more = ap (λ b. nat_eq u w || b) more
    by false is more = more ∙ sym (ap (λ b. b || is_among us u) (apart is))

-- to leave them alone twice is to leave them once
pub below_twice : (v : ℕ) (us : List ℕ) → below v (below v us) ≡ below v us
below_twice v us = filter_all (λ u. nat_lt u v) (below v us) (filter_passes (λ u. nat_lt u v) us)

-- ---- a number at the end
pub last_of : (us : List ℕ) (v : ℕ) → slice_get (us ++ v ∷ []) (length (us ++ v ∷ []) - 1) ≡ Some v
last_of [] v = refl
last_of (u ∷ []) v = refl
last_of (u ∷ w ∷ us) v =
    let here : length (u ∷ (w ∷ us) ++ v ∷ []) - 1 ≡ suc (length ((w ∷ us) ++ v ∷ []) - 1) = omega arith in
    ap (λ k. slice_get (u ∷ (w ∷ us) ++ v ∷ []) k) here ∙ last_of (w ∷ us) v

ends_pushed : (us : List ℕ) (v : ℕ) → ends_with v (us ++ v ∷ []) ≡ true
ends_pushed us v = ap (λ o. option_map_or (λ u. nat_eq u v) o false) (last_of us v) ∙ is_itself v

-- it is put there once
pub pushed_twice : (v : ℕ) (us : List ℕ) → pushed v (pushed v us) ≡ pushed v us
pushed_twice v us = by (ends_with v us) refl
  where
    by : (b : Bool) → ends_with v us ≡ b → pushed v (cond b us (us ++ v ∷ [])) ≡ cond b us (us ++ v ∷ [])
    by true is = ap (λ b. cond b us (us ++ v ∷ [])) is
    by false is = ap (λ b. cond b (us ++ v ∷ []) ((us ++ v ∷ []) ++ v ∷ [])) (ends_pushed us v)

-- what stands below it stays
pub below_pushed : (v : ℕ) (us : List ℕ) → below v (pushed v us) ≡ below v us
below_pushed v us = by (ends_with v us)
  where
    by : (b : Bool) → below v (cond b us (us ++ v ∷ [])) ≡ below v us
    by true = refl
    by false = filter-append (λ u. nat_lt u v) us (v ∷ []) ∙ ap (λ b. below v us ++ cond b (v ∷ []) []) (not_below v) ∙ append-nil (below v us)

no_end : (us : List ℕ) (v : ℕ) → All (λ u. u < v) us → (k : ℕ) → option_map_or (λ u. nat_eq u v) (slice_get us k) false ≡ false
no_end [] v all k = refl
no_end (u ∷ us) v all zero = is_apart u v (All-head (λ w. w < v) u us all)
no_end (u ∷ us) v all (suc k) = no_end us v (All-tail (λ w. w < v) u us all) k

-- where all are below it, it is one number more
pub pushed_above : (v : ℕ) (us : List ℕ) → All (λ u. u < v) us → pushed v us ≡ us ++ v ∷ []
pushed_above v us all = ap (λ b. cond b us (us ++ v ∷ [])) (no_end us v all (length us - 1))

pub rises_push : (us : List ℕ) (v : ℕ) → Rises us → All (λ u. u < v) us → Rises (us ++ v ∷ [])
rises_push [] v rises all = (λ k d within. absurd (omega (arith, within)), tt)
rises_push (u ∷ us) v rises all =
    (All-push (λ w. u < w) us v rises.0 (All-head (λ w. w < v) u us all), rises_push us v rises.1 (All-tail (λ w. w < v) u us all))

pub all_push : (us : List ℕ) (v : ℕ) → All (λ u. u < v) us → All (λ u. u < v + 1) (us ++ v ∷ [])
all_push us v all = All-push (λ u. u < v + 1) us v (All-weaker (λ u. u < v) (λ u. u < v + 1) (λ u low. omega (arith, low)) us all) (omega arith)

-- ---- rising lists by their places
pub rises_at : (us : List ℕ) → Rises us → (i j d : ℕ) → i < j → j < length us → get_or us i d < get_or us j d
rises_at [] rises i j d low within = absurd (omega (arith, within))
rises_at (u ∷ us) rises zero zero d low within = absurd (omega (arith, low))
rises_at (u ∷ us) rises zero (suc j) d low within = rises.0 j d (omega (arith, within))
rises_at (u ∷ us) rises (suc i) zero d low within = absurd (omega (arith, low))
rises_at (u ∷ us) rises (suc i) (suc j) d low within = rises_at us rises.1 i j d (omega (arith, low)) (omega (arith, within))

-- no number is greater than one that doesn't stand before it
pub rises_to : (us : List ℕ) → Rises us → (i j d : ℕ) → i ≤ j → j < length us → get_or us i d ≤ get_or us j d
rises_to us rises i j d low within = elim (order i j low) [
  | inl before ↦ let less : get_or us i d < get_or us j d = rises_at us rises i j d before within in omega (arith, less)
  | inr same ↦ let is : get_or us i d ≡ get_or us j d = ap (λ k. get_or us k d) same in omega (arith, is)
]
  where
    order : (i j : ℕ) → i ≤ j → (i < j) ⊎ (i ≡ j)
    order i j low = grind (arith, low)

pub same_within : (us : List ℕ) (k d e : ℕ) → k < length us → get_or us k d ≡ get_or us k e
same_within [] k d e within = absurd (omega (arith, within))
same_within (u ∷ us) zero d e within = refl
same_within (u ∷ us) (suc k) d e within = same_within us k d e (omega (arith, within))

-- ---- a slice of a rising list
pub slice_length : (us : List ℕ) (m n : ℕ) → n ≤ length us → length (take (n - m) (drop m us)) ≡ n - m
slice_length us m n fits =
    let rest : length (drop m us) ≡ length us - m = length-drop m us in
    length-take-le (n - m) (drop m us) (omega (arith, rest, fits))

slice_at : (us : List ℕ) (m n i d : ℕ) → i < n - m → get_or (take (n - m) (drop m us)) i d ≡ get_or us (m + i) d
slice_at us m n i d within = get_or-take (n - m) (drop m us) i d within ∙ get_or-drop m us i d

-- what stands at a place of the list stands in the slice
pub in_slice : (us : List ℕ) (m n k : ℕ) → m ≤ k → k < n → get_or (take (n - m) (drop m us)) (k - m) 0 ≡ get_or us k 0
in_slice us m n k low high =
    let same : m + (k - m) ≡ k = omega (arith, low) in
    slice_at us m n (k - m) 0 (omega (arith, low, high)) ∙ ap (λ j. get_or us j 0) same

-- no number of the slice is greater than one that doesn't stand before it
pub slice_rises : (us : List ℕ) (m n : ℕ) → Rises us → n ≤ length us → IsNonDecreasingBy (λ u. u) (take (n - m) (drop m us))
slice_rises us m n rises fits i j d low within =
    let size : length (take (n - m) (drop m us)) ≡ n - m = slice_length us m n fits in
    let inside : j < n - m = omega (arith, within, size) in
    let first : get_or (take (n - m) (drop m us)) i d ≡ get_or us (m + i) d = slice_at us m n i d (omega (arith, low, inside)) in
    let second : get_or (take (n - m) (drop m us)) j d ≡ get_or us (m + j) d = slice_at us m n j d inside in
    let most : get_or us (m + i) d ≤ get_or us (m + j) d = rises_to us rises (m + i) (m + j) d (omega (arith, low)) (omega (arith, inside, fits)) in
    omega (arith, first, second, most)

-- a list that rises to its last number has none above it
pub upto_last : (us : List ℕ) (v : ℕ) → Rises (us ++ v ∷ []) → All (λ u. u < suc v) (us ++ v ∷ [])
upto_last [] v rises = All-cons (λ u. u < suc v) v [] (omega arith) (λ k d within. absurd (omega (arith, within)))
upto_last (u ∷ us) v rises =
    let less : u < v = All-contains (λ w. u < w) (us ++ v ∷ []) v rises.0 (Contains-push us v) in
    All-cons (λ w. w < suc v) u (us ++ v ∷ []) (omega (arith, less)) (upto_last us v rises.1)
