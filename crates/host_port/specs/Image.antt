-- One of the files that a crash may leave.
use Rattle.std.specs.Prelude.{◌≡◌, ℕ, ◌<◌, ◌≤◌, List, length, slice_index, All, Contains}
use Rattle.host_port.specs.Host.{Disk, Span, IsOutside, furthest}

-- the offset is in the range
abbrev pub IsInside : Span → ℕ → Type 0
IsInside span i = (span.from ≤ i) × (i < span.to)

-- the file of the greatest length, with one byte wherever a crash may leave any: past the stable bytes, and in a loose range
pub record IsFilled (disk : Disk) (fill : ℕ) (x : List ℕ) : Type 0 where
  pub longest : length x ≡ furthest (length disk.stable) disk.loose
  pub kept : (i : ℕ) → i < length disk.stable → All (λ span. IsOutside span i) disk.loose → slice_index x i ≡ slice_index disk.stable i
  pub past : (i : ℕ) → length disk.stable ≤ i → i < length x → slice_index x i ≡ fill
  pub torn : (span : Span) → Contains disk.loose span → (i : ℕ) → IsInside span i → slice_index x i ≡ fill

-- a read gives this file, and a crash leaves this one
pub record IsShownAs (disk : Disk) (fill : ℕ) (now image : List ℕ) : Type 0 where
  pub reads : now ≡ disk.now
  pub leaves : IsFilled disk fill image
