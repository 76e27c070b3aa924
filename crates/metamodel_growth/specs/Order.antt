-- Numbers in a new order: a list that has each once. The place of a number in it is the number that it gets.
use Rattle.std.specs.Prelude.{◌≡◌, ◌<◌, ℕ, suc, Bool, false, List, [], ◌∷◌, ◌++◌, Some, cond, not, nat_eq, slice_get, length, ◌^◌}
use Rattle.std.specs.List.{filter, list_any, range_with_len}
use Rattle.std.specs.BTreeSet.{BTreeSet, contains}
use Rattle.std.specs.List.Sorted.{IsStrictlySortedBy}
use Rattle.std.specs.Option.{option_map_or}
use Rattle.std.specs.Ordering.{nat_cmp}

-- the new number of a number
abbrev pub place_in : List ℕ → ℕ → ℕ
place_in [] n = 0
place_in (k ∷ order) n = cond (nat_eq n k) 0 (suc (place_in order n))

-- the new numbers of those that pass a test, rising
abbrev pub places : (ℕ → Bool) → List ℕ → List ℕ
places test order = filter (λ k. option_map_or test (slice_get order k) false) (range_with_len 0 (length order))

-- the numbers below n: first those of a list, in its order, and then the others as they come
abbrev pub begun_by : List ℕ → ℕ → List ℕ
begun_by first n = first ++ filter (λ k. not (list_any (nat_eq k) first)) (range_with_len 0 n)

-- the list has each number below n once, and no other
pub record IsOrder (n : ℕ) (order : List ℕ) : Type 0 where
  pub long : length order ≡ n
  pub there : (k : ℕ) → k < n → slice_get order (place_in order k) ≡ Some k
  pub back : (i k : ℕ) → slice_get order i ≡ Some k → (place_in order k ≡ i) × (k < n)

-- each number stands in its own place
abbrev pub IsIdentity : List ℕ → Type 0
IsIdentity order = order ≡ range_with_len 0 (length order)

-- each number of the order with its place
abbrev pub Placed : List ℕ → List ℕ → Type 0
Placed numbers spots = (length spots ≡ length numbers) × ((k : ℕ) → k < length numbers → slice_get spots k ≡ Some (place_in numbers k))

-- what an order holds
pub record HasPlaces (numbers spots : List ℕ) : Type 0 where
  pub order : IsOrder (length numbers) numbers
  pub few : length numbers < 2 ^ 32
  pub places : Placed numbers spots

-- the set has the numbers of the list
pub record IsSetOf (numbers : List ℕ) (s : BTreeSet ℕ) : Type 0 where
  pub alike : (d : ℕ) → contains nat_cmp s d ≡ list_any (nat_eq d) numbers
  pub sorted : IsStrictlySortedBy nat_cmp s.keys
