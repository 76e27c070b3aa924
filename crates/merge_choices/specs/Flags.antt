-- Flags for the places of a list.
use Rattle.std.specs.Prelude.{◌≡◌, ℕ, ◌<◌, Bool, false, ◌||◌, List, length, get_or}

-- is the flag of the place set
abbrev pub is_flagged : List Bool → ℕ → Bool
is_flagged flags i = get_or flags i false

-- as many flags, with those of the places that pass the test set besides
pub record Flagged (old new : List Bool) (test : ℕ → Bool) : Type 0 where
  pub size : length new ≡ length old
  pub flags : (i : ℕ) → i < length old → is_flagged new i ≡ (is_flagged old i || test i)

-- a flag for each of so many places, set where the place passes the test
pub record AreFlags (given : List Bool) (count : ℕ) (test : ℕ → Bool) : Type 0 where
  pub size : length given ≡ count
  pub flags : (i : ℕ) → i < count → is_flagged given i ≡ test i
