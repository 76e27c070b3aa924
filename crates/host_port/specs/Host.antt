-- What a host reports of its store, its console and its input, and what each call does to that.
use Rattle.std.specs.Prelude.{◌≡◌, ◌⊎◌, ℕ, ◌+◌, ◌-◌, ◌^◌, ◌<◌, ◌≤◌, min, max, Bool, IsTrue, List, [], ◌∷◌, ◌++◌, length, take, drop, slice_index, All}

-- the offsets from one on, up to before another
pub record Span : Type 0 where
  pub from : ℕ
  pub to : ℕ

-- a file: the bytes that a read gives, those at the last sync that succeeded, and the ranges written since
pub record Disk : Type 0 where
  pub now : List ℕ
  pub stable : List ℕ
  pub loose : List Span

-- the offset is not in the range
abbrev pub IsOutside : Span → ℕ → Type 0
IsOutside span i = (i < span.from) ⊎ (span.to ≤ i)

-- the furthest of a length and the ends of ranges
abbrev pub furthest : ℕ → List Span → ℕ
furthest n [] = n
furthest n (span ∷ spans) = max span.to (furthest n spans)

-- a crash may leave these bytes
pub record MayLeave (disk : Disk) (x : List ℕ) : Type 0 where
  pub no_shorter : length disk.stable ≤ length x
  pub no_longer : length x ≤ furthest (length disk.stable) disk.loose
  pub kept : (i : ℕ) → i < length disk.stable → All (λ span. IsOutside span i) disk.loose → slice_index x i ≡ slice_index disk.stable i

-- whatever a crash may leave has P
abbrev pub CrashLeaves : (List ℕ → Type 0) → Disk → Type 0
CrashLeaves P disk = (x : List ℕ) → MayLeave disk x → P x

-- all that a host reports; the disk and what was printed are reported of each moment up to the clock
pub record Told : Type 0 where
  pub tells : Bool
  pub clock : ℕ
  pub disk : ℕ → Disk
  pub said : ℕ → List ℕ
  pub taken : List ℕ
  pub left : List ℕ
  pub take_faults : ℕ
  pub say_faults : ℕ
  pub disk_faults : ℕ

-- the file at the clock
abbrev pub disk_now : Told → Disk
disk_now host = host.disk host.clock

-- all that was printed by now
abbrev pub said_now : Told → List ℕ
said_now host = host.said host.clock

-- the count is greater, or stands at its type's end
abbrev pub Rose : ℕ → ℕ → Type 0
Rose before now = min (before + 1) (2 ^ 64 - 1) ≤ now

-- what was reported of one moment stays
pub record SameAt (old new : Told) (t : ℕ) : Type 0 where
  pub disk : new.disk t ≡ old.disk t
  pub said : new.said t ≡ old.said t

-- Every call: the clock and the counts never fall, and what was reported of the moments before stays.
pub record GoesOn (old new : Told) : Type 0 where
  pub tells : new.tells ≡ old.tells
  pub clock : old.clock ≤ new.clock
  pub take_faults : old.take_faults ≤ new.take_faults
  pub say_faults : old.say_faults ≤ new.say_faults
  pub disk_faults : old.disk_faults ≤ new.disk_faults
  pub past : IsTrue old.tells → (t : ℕ) → t < old.clock → SameAt old new t

-- At each moment of a call from old to new, what is reported of the disk and of the bytes printed has P.
abbrev pub Throughout : Told → Told → (Disk → List ℕ → Type 0) → Type 0
Throughout old new P = IsTrue old.tells → (t : ℕ) → old.clock ≤ t → t ≤ new.clock → P (new.disk t) (new.said t)

-- the disk stays at every moment
abbrev pub KeepsDisk : Told → Told → Type 0
KeepsDisk old new = Throughout old new (λ disk said. disk ≡ disk_now old)

-- what was printed stays at every moment
abbrev pub KeepsSaid : Told → Told → Type 0
KeepsSaid old new = Throughout old new (λ disk said. said ≡ said_now old)

-- no input was taken
pub record KeepsInput (old new : Told) : Type 0 where
  pub taken : new.taken ≡ old.taken
  pub left : new.left ≡ old.left

-- the input taken has these bytes more, with which the input left began
pub record Moves (old new : Told) (bytes : List ℕ) : Type 0 where
  pub taken : new.taken ≡ old.taken ++ bytes
  pub left : old.left ≡ bytes ++ new.left
  pub end : length bytes ≡ 0 → old.left ≡ []

-- some of these bytes, from the first on, are printed after what was printed before
abbrev pub AddsPart : List ℕ → List ℕ → List ℕ → Type 0
AddsPart old bytes said = (n : ℕ) × (said ≡ old ++ take n bytes)

-- of the three counts only that of `take` may have risen
pub record RaisesTakesAlone (old new : Told) : Type 0 where
  pub say_faults : new.say_faults ≡ old.say_faults
  pub disk_faults : new.disk_faults ≡ old.disk_faults

-- of the three counts only that of `say` may have risen
pub record RaisesSaysAlone (old new : Told) : Type 0 where
  pub take_faults : new.take_faults ≡ old.take_faults
  pub disk_faults : new.disk_faults ≡ old.disk_faults

-- of the three counts only that of the disk may have risen
pub record RaisesDiskAlone (old new : Told) : Type 0 where
  pub take_faults : new.take_faults ≡ old.take_faults
  pub say_faults : new.say_faults ≡ old.say_faults

-- old with these bytes from an offset on
abbrev pub overwritten : List ℕ → ℕ → List ℕ → List ℕ
overwritten old at bytes = take at old ++ bytes ++ drop (at + length bytes) old

-- a write of a range that is under way or has failed
pub record WrittenPart (old : Disk) (span : Span) (disk : Disk) : Type 0 where
  pub stable : disk.stable ≡ old.stable
  pub loose : (disk.loose ≡ old.loose) ⊎ (disk.loose ≡ old.loose ++ span ∷ [])
  pub no_shorter : length old.now ≤ length disk.now
  pub no_longer : length disk.now ≤ max (length old.now) span.to
  pub kept : (i : ℕ) → i < length old.now → IsOutside span i → slice_index disk.now i ≡ slice_index old.now i

-- the file once these bytes are written from an offset on; they are not stable yet
abbrev pub written : Disk → ℕ → List ℕ → Disk
written old at bytes = record {
  now = overwritten old.now at bytes;
  stable = old.stable;
  loose = old.loose ++ record { from = at; to = at + length bytes } ∷ [];
}

-- the file once it is synced: what a read gives is stable
abbrev pub synced : Disk → Disk
synced old = record { now = old.now; stable = old.now; loose = [] }
