-- Flags for the versions of a history, one a version.
use Rattle.std.specs.Prelude.{◌≡◌, ℕ, ◌<◌, List, Bool, false, ◌||◌, length, get_or}
use Rattle.history_tree.specs.History.{History}
use Rattle.history_tree.specs.MergeBase.{is_among, is_known}

-- is the version flagged
abbrev pub is_flagged : List Bool → ℕ → Bool
is_flagged flags v = get_or flags v false

-- as many flags, with those of the versions set besides
pub record Flagged (old new : List Bool) (versions : List ℕ) : Type 0 where
  pub size : length new ≡ length old
  pub flags : (v : ℕ) → v < length old → is_flagged new v ≡ (is_flagged old v || is_among versions v)

-- a flag for each version, set for those on the base's path and those that count as merged there
pub record FlagsKnown (h : History) (base : ℕ) (pending : List ℕ) (flags : List Bool) : Type 0 where
  pub size : length flags ≡ length h.versions
  pub known : (v : ℕ) → v < length h.versions → is_flagged flags v ≡ is_known h base pending v
