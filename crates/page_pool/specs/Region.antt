-- What holds of a pool's fields.
use Rattle.std.specs.Prelude.{◌≡◌, ◌≢◌, ℕ, ◌<◌, ◌≤◌, List, length, slice_index, None}
use Rattle.page_pool.specs.Frames.{Frames, frame_at, free_of, pool_limit}

-- the list names each free frame once, and has room for all frames
pub record IsSound (slots : Frames) (free : List ℕ) (capacity : ℕ) : Type 0 where
  pub few : length slots ≤ pool_limit
  pub room : length slots ≤ capacity
  pub within : (i : ℕ) → i < length free → slice_index free i < length slots
  pub empty : (i : ℕ) → i < length free → frame_at slots (slice_index free i) ≡ None
  pub apart : (i j : ℕ) → i < j → j < length free → slice_index free i ≢ slice_index free j
  pub count : length free ≡ free_of slots
