-- What a cache and its pool stand for.
use Rattle.std.specs.Prelude.{◌≡◌, ◌⊎◌, ℕ, ◌+◌, ◌<◌, ◌≤◌, suc, List, [], ◌∷◌, ◌++◌, length, take, nat_eq, None, Some}
use Rattle.std.specs.Map.{remove_entry}
use Rattle.page_pool.specs.Frames.{Frames, frame_at, out_of, free_of, pool_limit}
use Rattle.page_pool.specs.Paged.{PagedState, IsAmong, AreOut, content, frames_for}

-- the most entries of a cache
abbrev pub most_held : ℕ
most_held = 64

-- the most frames that its entries hold
abbrev pub most_frames_held : ℕ
most_frames_held = 6144

-- the most bytes of an entry
abbrev pub most_entry_bytes : ℕ
most_entry_bytes = 8388608

-- what contracts see of a cache: its versions and where their bytes lie, the most recently used first
abbrev pub Entries : Type 0
Entries = List (ℕ × PagedState)

-- the frames that entries hold
abbrev pub held : Entries → List ℕ
held [] = []
held (e ∷ entries) = e.1.frames ++ held entries

-- the versions and their bytes that entries stand for, in a pool
abbrev pub stands : Frames → Entries → List (ℕ × List ℕ)
stands pool [] = []
stands pool (e ∷ entries) = (e.0, content pool e.1) ∷ stands pool entries

-- the frames that the cache holds are out of the pool, each once
abbrev pub IsCached : Frames → Entries → Type 0
IsCached pool entries = AreOut pool (held entries)

-- the version's entry stands first
abbrev pub IsFirst : ℕ → Entries → Type 0
IsFirst version [] = ⊥
IsFirst version (e ∷ entries) = e.0 ≡ version

-- each frame that is out and that the cache doesn't hold stays out, with its bytes, and the cache doesn't hold it then
abbrev pub KeepsApart : Frames → Frames → Entries → Entries → Type 0
KeepsApart before after old new = (k : ℕ) (bytes : List ℕ) → ¬ IsAmong k (held old) → frame_at before k ≡ Some bytes
    → (¬ IsAmong k (held new)) × (frame_at after k ≡ Some bytes)

-- those entries stay that were used last, as many as fit; fits says so of a number of entries and of their frames
pub record Keeps (fits : ℕ → ℕ → Type 0) (old new : Entries) : Type 0 where
  pub count : ℕ
  pub first : new ≡ take count old
  pub no_more : count < length old → ¬ fits (suc count) (length (held (take (suc count) old)))

-- so many entries and frames of theirs are within these limits, with so many other frames out and so many still needed
pub record Fits (most frames_most others needed entries frames : ℕ) : Type 0 where
  pub entries_fit : entries ≤ most
  pub frames_fit : frames + needed ≤ frames_most
  pub out_fits : others + frames + needed ≤ pool_limit

-- an entry with these bytes stands first, and of the other ones as many as there is room for
pub record IsStored (before after : Frames) (version : ℕ) (bytes : List ℕ) (old new : Entries) : Type 0 where
  pub paged : PagedState
  pub rest : Entries
  pub is : new ≡ (version, paged) ∷ rest
  pub bytes_are : content after paged ≡ bytes
  pub frames : length paged.frames ≡ frames_for (length bytes)
  pub others : ℕ
  pub out_before : out_of before ≡ others + length (held old)
  pub out_after : out_of after ≡ others + length (held new)
  pub kept : Keeps (λ entries frames. Fits most_held most_frames_held others (frames_for (length bytes)) (entries + 1) frames)
      (remove_entry (nat_eq version) old) rest
  pub room : Fits most_held most_frames_held others (frames_for (length bytes)) (length rest + 1) (length (held rest))
  pub same : stands after rest ≡ stands before rest

-- entries are evicted, those that were used least recently first, until so many more frames can be out or none is left
pub record IsYielded (before after : Frames) (needed : ℕ) (old new : Entries) : Type 0 where
  pub others : ℕ
  pub out_before : out_of before ≡ others + length (held old)
  pub out_after : out_of after ≡ others + length (held new)
  pub kept : Keeps (λ entries frames. others + frames + needed ≤ pool_limit) old new
  pub enough : (out_of after + needed ≤ pool_limit) ⊎ (new ≡ [])
  pub same : stands after new ≡ stands before new

-- the frames that the cache holds are all that are out of the pool
pub record HoldsAll (pool : Frames) (entries : Entries) : Type 0 where
  pub out : IsCached pool entries
  pub count : out_of pool ≡ length (held entries)

-- what holds of a cache's fields
pub record IsWithin (entries : Entries) (most count : ℕ) : Type 0 where
  pub most_is : most ≡ most_held + 1
  pub counted : count ≡ length (held entries)
  pub few : length entries ≤ most_held
  pub small : count ≤ most_frames_held

-- some frames of a list were given back, and those left are out as they were
pub record Released (before after : Frames) (all left : List ℕ) : Type 0 where
  pub out : AreOut after left
  pub within : (k : ℕ) → IsAmong k left → IsAmong k all
  pub kept : (k : ℕ) → IsAmong k left → frame_at after k ≡ frame_at before k
  pub gone : (k : ℕ) → IsAmong k all → ¬ IsAmong k left → frame_at after k ≡ None
  pub others : (k : ℕ) → ¬ IsAmong k all → frame_at after k ≡ frame_at before k
  pub outs : out_of after + length all ≡ out_of before + length left
  pub total : out_of after + free_of after ≡ out_of before + free_of before
