-- Byte strings that lie in frames.
use Rattle.std.specs.Prelude.{◌≡◌, ◌⊎◌, ℕ, ◌+◌, ◌-◌, ◌/◌, List, [], ◌∷◌, ◌++◌, length, take, None, unwrap_or}
use Rattle.page_pool.specs.Frames.{Frames, frame_at, IsOut, frame_size}

-- the frame is one of these
abbrev pub IsAmong : ℕ → List ℕ → Type 0
IsAmong k [] = ⊥
IsAmong k (frame ∷ frames) = (k ≡ frame) ⊎ IsAmong k frames

-- these frames are out of the pool, each once
abbrev pub AreOut : Frames → List ℕ → Type 0
AreOut pool [] = Unit {0}
AreOut pool (frame ∷ frames) = IsOut pool frame × (¬ IsAmong frame frames) × AreOut pool frames

-- none of these frames is out of the pool
abbrev pub AreFree : Frames → List ℕ → Type 0
AreFree pool frames = (k : ℕ) → IsAmong k frames → frame_at pool k ≡ None

-- each frame but these is as it was, and so are its bytes
abbrev pub KeepsOthers : Frames → Frames → List ℕ → Type 0
KeepsOthers old new frames = (k : ℕ) → ¬ IsAmong k frames → frame_at new k ≡ frame_at old k

-- how many frames hold so many bytes
abbrev pub frames_for : ℕ → ℕ
frames_for size = (size + (frame_size - 1)) / frame_size

-- the bytes of these frames, one frame after another
abbrev pub joined : Frames → List ℕ → List ℕ
joined pool [] = []
joined pool (frame ∷ frames) = unwrap_or (frame_at pool frame) [] ++ joined pool frames

-- what contracts see of a byte string in frames: the frames, and how many bytes it has
pub record PagedState : Type 0 where
  pub frames : List ℕ
  pub size : ℕ

-- the byte string that lies in frames of this pool
abbrev pub content : Frames → PagedState → List ℕ
content pool paged = take paged.size (joined pool paged.frames)

-- exactly these bytes lie in frames that are out of the pool, each once
pub record HoldsBytes (pool : Frames) (paged : PagedState) (bytes : List ℕ) : Type 0 where
  pub out : AreOut pool paged.frames
  pub count : length paged.frames ≡ frames_for (length bytes)
  pub size : paged.size ≡ length bytes
  pub content_is : content pool paged ≡ bytes
