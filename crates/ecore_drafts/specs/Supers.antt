-- Classes above a class, by the lists of direct supertypes.
use Rattle.std.specs.Prelude.{◌≡◌, ℕ, zero, suc, Bool, true, List, [], ◌∷◌, slice_get, nat_eq, is_some, length, map, take, ◌<◌, ◌≤◌, ◌&&◌, ◌||◌}
use Rattle.std.specs.List.{list_any, filter, range_with_len, IsDistinct}
use Rattle.std.specs.List.Sorted.{IsStrictlySortedBy}
use Rattle.std.specs.Ordering.{nat_cmp}
use Rattle.std.specs.BTreeSet.{BTreeSet, contains}
use Rattle.std.specs.Option.{option_map_or}

-- the direct supertypes of a class
abbrev pub supers_of : List (List ℕ) → ℕ → List ℕ
supers_of supers c = option_map_or (λ ups. ups) (slice_get supers c) []

-- each class of the path is a supertype of the one before, from c to d
abbrev pub IsPath : List (List ℕ) → ℕ → List ℕ → ℕ → Type 0
IsPath supers c [] d = c ≡ d
IsPath supers c (b ∷ path) d = (list_any (nat_eq b) (supers_of supers c) ≡ true) × IsPath supers b path d

-- a list of classes leads from c to d, each the supertype of the one before
abbrev pub Leads : List (List ℕ) → ℕ → ℕ → Type 0
Leads supers c d = (path : List ℕ) × IsPath supers c path d

-- d is c, or at most so many supertypes above it
unfoldable pub within : List (List ℕ) → ℕ → ℕ → ℕ → Bool
within supers zero c d = nat_eq c d
within supers (suc n) c d = nat_eq c d || list_any (λ b. within supers n b d) (supers_of supers c)

-- d is c or above it: no path needs more steps than there are classes
unfoldable pub is_above : List (List ℕ) → ℕ → ℕ → Bool
is_above supers c d = is_some (slice_get supers c) && within supers (length supers) c d

-- the classes that each class is, by number: itself and all above it
abbrev pub all_above : List (List ℕ) → List (List ℕ)
all_above supers = map (λ c. filter (is_above supers c) (range_with_len 0 (length supers))) (range_with_len 0 (length supers))

-- a class is above one of its supertypes
abbrev pub is_cyclic : List (List ℕ) → ℕ → Bool
is_cyclic supers c = list_any (λ b. is_above supers b c) (supers_of supers c)

-- a class is above itself
abbrev pub super_cycle : List (List ℕ) → Bool
super_cycle supers = list_any (is_cyclic supers) (range_with_len 0 (length supers))

-- every supertype is a class of the package
abbrev pub Inside : List (List ℕ) → Type 0
Inside supers = (c b : ℕ) → list_any (nat_eq b) (supers_of supers c) ≡ true → b < length supers

-- a set has the classes of a list, and the list has each once
pub record Reached (seen : BTreeSet ℕ) (reached : List ℕ) : Type 0 where
  pub alike : (d : ℕ) → contains nat_cmp seen d ≡ list_any (nat_eq d) reached
  pub apart : IsDistinct nat_eq reached
  pub sorted : IsStrictlySortedBy nat_cmp seen.keys

-- the list goes on, with the classes of ups
pub record Grown (ups : List ℕ) (old new : List ℕ) : Type 0 where
  pub longer : length old ≤ length new
  pub kept : take (length old) new ≡ old
  pub has : (d : ℕ) → list_any (nat_eq d) new ≡ (list_any (nat_eq d) old || list_any (nat_eq d) ups)
