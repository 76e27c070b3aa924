-- What contracts see of a pool of frames.
use Rattle.std.specs.Prelude.{◌≡◌, ◌≢◌, ℕ, ◌+◌, List, [], ◌∷◌, ◌++◌, length, take, drop, replicate, slice_index_or, Option, None, Some}

-- how many bytes a frame has
abbrev pub frame_size : ℕ
frame_size = 4096

-- the most frames of a pool
abbrev pub pool_limit : ℕ
pool_limit = 8192

-- the frames of a pool, by their numbers: the bytes of each that is out, and nothing for each that is free
abbrev pub Frames : Type 0
Frames = List (Option (List ℕ))

-- the bytes of a frame, where it is out
unfoldable pub frame_at : Frames → ℕ → Option (List ℕ)
frame_at pool k = slice_index_or pool k None

-- how many frames are out
unfoldable pub out_of : Frames → ℕ
out_of [] = 0
out_of (None ∷ pool) = out_of pool
out_of (Some bytes ∷ pool) = out_of pool + 1

-- how many frames are free
unfoldable pub free_of : Frames → ℕ
free_of [] = 0
free_of (None ∷ pool) = free_of pool + 1
free_of (Some bytes ∷ pool) = free_of pool

-- the frame is out of the pool, with all its bytes
pub record IsOut (pool : Frames) (k : ℕ) : Type 0 where
  pub bytes : List ℕ
  pub is : frame_at pool k ≡ Some bytes
  pub size : length bytes ≡ frame_size

-- the bytes of a frame that was just taken
unfoldable pub zeros : List ℕ
zeros = replicate frame_size 0

-- the bytes with others written over them from an offset on
abbrev pub overwritten : List ℕ → ℕ → List ℕ → List ℕ
overwritten old at bytes = take at old ++ bytes ++ drop (at + length bytes) old

-- one frame is now this, and each other as it was
pub record Changes (old new : Frames) (k : ℕ) (now : Option (List ℕ)) : Type 0 where
  pub at : frame_at new k ≡ now
  pub others : (j : ℕ) → j ≢ k → frame_at new j ≡ frame_at old j

-- the same frames are out, with the same bytes
abbrev pub SameFrames : Frames → Frames → Type 0
SameFrames old new = (k : ℕ) → frame_at new k ≡ frame_at old k

-- a frame that was free is now out, and its bytes are 0
pub record IsTaken (old new : Frames) (k : ℕ) : Type 0 where
  pub was_free : frame_at old k ≡ None
  pub changes : Changes old new k (Some zeros)
  pub out : out_of new ≡ out_of old + 1
  pub free : free_of new + 1 ≡ free_of old

-- a frame that was out is now free
pub record IsGiven (old new : Frames) (k : ℕ) : Type 0 where
  pub changes : Changes old new k None
  pub out : out_of new + 1 ≡ out_of old
  pub free : free_of new ≡ free_of old + 1

-- a frame that is out has now these bytes
pub record IsWritten (old new : Frames) (k : ℕ) (bytes : List ℕ) : Type 0 where
  pub changes : Changes old new k (Some bytes)
  pub out : out_of new ≡ out_of old
  pub free : free_of new ≡ free_of old
