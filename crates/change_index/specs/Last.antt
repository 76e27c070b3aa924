-- The greatest number of a list that passes a test.
use Rattle.std.specs.Prelude.{◌≡◌, ℕ, ◌≤◌, Bool, true, false, List, [], ◌∷◌, Option, None, Some, Contains, if◌then◌else◌}

-- the number is in the list and passes the test, and none that does is greater
pub record IsGreatest (test : ℕ → Bool) (us : List ℕ) (u : ℕ) : Type 0 where
  pub there : Contains us u
  pub passes : test u ≡ true
  pub greatest : (w : ℕ) → Contains us w → test w ≡ true → w ≤ u

-- the greatest of a list that passes the test, or none where none does
abbrev pub IsLast : (ℕ → Bool) → List ℕ → Option ℕ → Type 0
IsLast test us None = (w : ℕ) → Contains us w → test w ≡ false
IsLast test us (Some u) = IsGreatest test us u

-- the later of two numbers, where one is there
abbrev pub later : Option ℕ → Option ℕ → Option ℕ
later first None = first
later first (Some v) = Some v

-- the last of a list that passes a test
abbrev pub last_of : (ℕ → Bool) → List ℕ → Option ℕ
last_of test [] = None
last_of test (u ∷ us) = later (if test u then Some u else None) (last_of test us)
