-- What stands in a file while a part of it is written and then made sure of.
use Rattle.std.specs.Prelude.{◌≡◌, ◌⊎◌, ℕ, ◌+◌, ◌<◌, ◌≤◌, max, List, [], length, slice_index, All, Contains}
use Rattle.host_port.specs.Host.{Disk, Span, IsOutside, written, synced}

-- nothing was written since the last sync, and the file is as it was then
pub record IsStable (disk : Disk) : Type 0 where
  pub tight : disk.loose ≡ []
  pub same : disk.now ≡ disk.stable

-- any bytes in the range, and the others as they were
pub record Torn (span : Span) (old new : List ℕ) : Type 0 where
  pub no_shorter : length old ≤ length new
  pub no_longer : length new ≤ max (length old) span.to
  pub kept : (i : ℕ) → i < length old → IsOutside span i → slice_index new i ≡ slice_index old i

-- a range within another
pub record IsWithin (outer inner : Span) : Type 0 where
  pub from : outer.from ≤ inner.from
  pub to : inner.to ≤ outer.to

-- any number of writes within a range, each of them under way, done or failed, and no sync after them
pub record WrittenWithin (old : Disk) (span : Span) (disk : Disk) : Type 0 where
  pub stable : disk.stable ≡ old.stable
  pub loose : All (λ range. Contains old.loose range ⊎ IsWithin span range) disk.loose
  pub torn : Torn span old.now disk.now

-- these bytes are being written from an offset on, or they are there and on the disk
abbrev pub IsWriting : Disk → ℕ → List ℕ → Disk → Type 0
IsWriting old at bytes disk = WrittenWithin old (record { from = at; to = at + length bytes }) disk ⊎ (disk ≡ synced (written old at bytes))
