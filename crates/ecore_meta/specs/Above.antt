-- What holds of the classes above each class.
use Rattle.std.specs.Prelude.{◌≡◌, ◌<◌, ℕ, true, List, [], slice_get, length}
use Rattle.std.specs.List.Sorted.{IsStrictlySortedBy}
use Rattle.std.specs.Option.{option_map_or}
use Rattle.std.specs.Ordering.{nat_cmp}
use Rattle.ecore_meta.specs.Meta.{Meta, is_a}

-- the classes that a class is, by number; none for a number that is none
abbrev pub above_of : Meta → ℕ → List ℕ
above_of meta c = option_map_or (λ ds. ds) (slice_get meta.above c) []

-- The classes that a class is go by number and each once, itself among them. What is above one above it is above it, and no two
-- are above each other.
pub record StandsAbove (meta : Meta) : Type 0 where
  pub many : length meta.above ≡ length meta.classes
  pub own : (c : ℕ) → c < length meta.classes → is_a meta c c ≡ true
  pub through : (c d e : ℕ) → is_a meta c d ≡ true → is_a meta d e ≡ true → is_a meta c e ≡ true
  pub apart : (c d : ℕ) → is_a meta c d ≡ true → is_a meta d c ≡ true → c ≡ d
  pub classes : (c d : ℕ) → is_a meta c d ≡ true → d < length meta.classes
  pub rising : (c : ℕ) → IsStrictlySortedBy nat_cmp (above_of meta c)
