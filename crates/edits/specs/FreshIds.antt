-- The ids that a workspace gives to new elements.
use Rattle.std.specs.Prelude.{◌≡◌, ◌<◌, ◌≤◌, true, false, ℕ, zero, suc, ◌+◌, ◌++◌, Option, None, Some, codes, length, if◌then◌else◌}
use Rattle.std.specs.Fmt.{decimal}
use Rattle.model_state.specs.Keys.{IdBytes}
use Rattle.model_state.specs.State.{State, is_live}
use Rattle.model_state.specs.Listing.{ids}

-- `w`, the workspace's number, `n` and a number
unfoldable pub numbered : ℕ → ℕ → IdBytes
numbered ws k = codes "w" ++ (decimal ws ++ (codes "n" ++ decimal k))

-- the first of n numbers from k on whose id is not live, else the one after them
abbrev pub first_free : State → ℕ → ℕ → ℕ → ℕ
first_free m ws zero k = k
first_free m ws (suc n) k = if is_live m (numbered ws k) then first_free m ws n (k + 1) else k

-- the first of these ids from 1 on that is not live: there are fewer live elements than numbers that are tried
unfoldable pub fresh_id : State → ℕ → IdBytes
fresh_id m ws = numbered ws (first_free m ws (length (ids m)) 1)

-- the id that is given, or else a fresh one
abbrev pub id_or_fresh : State → ℕ → Option IdBytes → IdBytes
id_or_fresh m ws (Some id) = id
id_or_fresh m ws None = fresh_id m ws

-- the number is the first from 1 on whose id is not live
pub record IsFirst (m : State) (ws k : ℕ) : Type 0 where
  pub from : 1 ≤ k
  pub free : is_live m (numbered ws k) ≡ false
  pub before : (j : ℕ) → 1 ≤ j → j < k → is_live m (numbered ws j) ≡ true

-- the id has the first number from 1 on whose id is not live
pub record HasFirst (m : State) (ws : ℕ) (id : IdBytes) : Type 0 where
  pub number : ℕ
  pub is : id ≡ numbered ws number
  pub first : IsFirst m ws number
