-- The greatest number that two rising lists have in common, sought from their ends.
use Rattle.std.proofs.Common.{◌≡◌, ℕ, ◌+◌, ◌-◌, ◌<◌, ◌≤◌, Bool, true, false, leb, List, length, get_or, take, drop, refl, sym, ◌∙◌, arith, inl, inr}
use Rattle.std.specs.Prelude.{Contains, ◌⊎◌, Some, None}
use Rattle.std.specs.List.Sorted.{IsPartitionPoint}
use Rattle.std.proofs.lemmas.Bool.{leb-true, leb-false}
use Rattle.history_tree.specs.Laws.{Rises}
use Rattle.history_tree.specs.MergeBase.{is_among}
use Rattle.history_tree.proofs.Greatest.{among_of, of_among}
use Rattle.change_index.specs.Last.{IsLast}
use Rattle.change_index.proofs.Lists.{in_slice, rises_to, same_within, slice_length}

order : (k j : ℕ) → (j < k) ⊎ (k ≤ j)
order k j = grind arith

-- ---- how many numbers of a list are at most a bound
-- the first of the list are, and no others
abbrev pub Parts : List ℕ → ℕ → ℕ → Type 0
Parts us u i = IsPartitionPoint (λ y. leb y u ≡ true) (λ y. leb y u ≡ false) us i

-- those before a slice, and those that are counted in it
pub counted_below : (us : List ℕ) (m n i u : ℕ) → m ≤ n → i ≤ n - m → ((k : ℕ) → k < m → get_or us k 0 ≤ u)
    → Parts (take (n - m) (drop m us)) u i → (k : ℕ) → k < m + i → get_or us k 0 ≤ u
counted_below us m n i u fits few before parts k low = elim (order m k) [ inl early ↦ before k early | inr late ↦ counted late ]
  where
    counted : m ≤ k → get_or us k 0 ≤ u
    counted late =
        let most : get_or (take (n - m) (drop m us)) (k - m) 0 ≤ u = leb-true _ _ (parts.0 (k - m) 0 (omega arith) (omega (arith, low, late))) in
        let is : get_or (take (n - m) (drop m us)) (k - m) 0 ≡ get_or us k 0 = in_slice us m n k late (omega (arith, low, fits, few)) in
        omega (arith, most, is)

-- what stands in the slice after those that are counted
pub counted_above : (us : List ℕ) (m n i u : ℕ) → n ≤ length us → Parts (take (n - m) (drop m us)) u i
    → (k : ℕ) → m + i ≤ k → k < n → u < get_or us k 0
counted_above us m n i u fits parts k high within =
    let size : length (take (n - m) (drop m us)) ≡ n - m = slice_length us m n fits in
    let least : u < get_or (take (n - m) (drop m us)) (k - m) 0 = leb-false _ _ (parts.1 (k - m) 0 (omega (arith, high)) (omega (arith, high, within, size))) in
    let is : get_or (take (n - m) (drop m us)) (k - m) 0 ≡ get_or us k 0 = in_slice us m n k (omega (arith, high)) within in
    omega (arith, least, is)

-- ---- what two lists have in common
-- what the lists have in common stands before these places
abbrev pub Within : List ℕ → List ℕ → ℕ → ℕ → Type 0
Within us vs m n = (i j : ℕ) → i < length us → j < length vs → get_or us i 0 ≡ get_or vs j 0 → (i < m) × (j < n)

pub all_within : (us vs : List ℕ) → Within us vs (length us) (length vs)
all_within us vs i j first second is = (first, second)

turned : (us vs : List ℕ) (m n : ℕ) → Within us vs m n → Within vs us n m
turned us vs m n within i j first second is = let both = within j i second first (sym is) in (both.1, both.0)

-- numbers above the last of the one list that is left are dropped from what is left of the other
pub cut_second : (us vs : List ℕ) (m n k : ℕ) → Rises us → 0 < m → m ≤ length us → Within us vs m n
    → ((j : ℕ) → k ≤ j → j < n → get_or us (m - 1) 0 < get_or vs j 0) → Within us vs m k
cut_second us vs m n k rises some fits within above i j first second is =
    let both = within i j first second is in
    let first_low : i < m = both.0 in
    let low : get_or us i 0 ≤ get_or us (m - 1) 0 = rises_to us rises i (m - 1) 0 (omega (arith, first_low)) (omega (arith, some, fits)) in
    (both.0, before both.1 low (above j))
  where
    before : j < n → get_or us i 0 ≤ get_or us (m - 1) 0 → (k ≤ j → j < n → get_or us (m - 1) 0 < get_or vs j 0) → j < k
    before left low after = elim (order k j) [
      | inl under ↦ under
      | inr over ↦ let more : get_or us (m - 1) 0 < get_or vs j 0 = after over left in absurd (omega (arith, more, low, is))
    ]

pub cut_first : (us vs : List ℕ) (m n k : ℕ) → Rises vs → 0 < n → n ≤ length vs → Within us vs m n
    → ((i : ℕ) → k ≤ i → i < m → get_or vs (n - 1) 0 < get_or us i 0) → Within us vs k n
cut_first us vs m n k rises some fits within above = turned vs us n k (cut_second vs us n m k rises some fits (turned us vs m n within) above)

-- a list that has number at a place contains it
at_place : (us : List ℕ) (k u : ℕ) → k < length us → get_or us k 0 ≡ u → Contains us u
at_place us k u within is = (k, within, same_within us k u 0 within ∙ is)

-- where both end with a number, it is the greatest
pub found : (us vs : List ℕ) (m n u : ℕ) → Rises us → 0 < m → m ≤ length us → 0 < n → n ≤ length vs → Within us vs m n
    → get_or us (m - 1) 0 ≡ u → get_or vs (n - 1) 0 ≡ u → IsLast (is_among vs) us (Some u)
found us vs m n u rises some fits some' fits' within first second = record {
  there = at_place us (m - 1) u (omega (arith, some, fits)) first;
  passes = among_of vs u (at_place vs (n - 1) u (omega (arith, some', fits')) second);
  greatest = λ w (i, low, is) passes.
      let other = of_among vs w passes in
      let same : get_or us i 0 ≡ w = same_within us i 0 w low ∙ is in
      let both = within i other.0 low other.1 (same ∙ sym (same_within vs other.0 0 w other.1 ∙ other.2)) in
      let before : i < m = both.0 in
      let most : get_or us i 0 ≤ get_or us (m - 1) 0 = rises_to us rises i (m - 1) 0 (omega (arith, before)) (omega (arith, some, fits)) in
      omega (arith, most, same, first);
}

-- where one of them has no number left, they have none in common
pub none : (us vs : List ℕ) (m n : ℕ) → Within us vs m n → (0 < m → 0 < n → ⊥) → IsLast (is_among vs) us None
none us vs m n within empty w (i, low, is) = by (is_among vs w) refl
  where
    by : (b : Bool) → is_among vs w ≡ b → b ≡ false
    by false passes = refl
    by true passes =
        let other = of_among vs w passes in
        let both = within i other.0 low other.1 (same_within us i 0 w low ∙ is ∙ sym (same_within vs other.0 0 w other.1 ∙ other.2)) in
        let first : i < m = both.0 in
        let second : other.0 < n = both.1 in
        absurd (empty (omega (arith, first)) (omega (arith, second)))
