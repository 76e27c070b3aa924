-- What the bytes of a journal stand for.
use Rattle.std.specs.Prelude.{◌≡◌, ◌≢◌, ◌⊎◌, ℕ, ◌+◌, ◌^◌, ◌<◌, ◌≤◌, nat_lt, Bool, if◌then◌else◌, List, [], ◌∷◌, ◌++◌, length, take, drop, slice_index, All}
use Rattle.std.specs.Int.{to_be_bytes, w32}
use Rattle.host_port.specs.Host.{CrashLeaves, Disk, synced}
use Rattle.page_pool.specs.Frames.{Frames}
use Rattle.page_pool.specs.Paged.{PagedState, HoldsBytes}
use Rattle.commit_journal.specs.TornWrites.{IsStable}
use Rattle.commit_journal.specs.declared.fit.Fit.{Fit}
use Rattle.commit_journal.specs.declared.fit.Fit.TheVariants.{Yes, TooLarge, Full}

-- EMFSTORE, the number 1 and four zero bytes
unfoldable pub header : List ℕ
header = 69 ∷ 77 ∷ 70 ∷ 83 ∷ 84 ∷ 79 ∷ 82 ∷ 69 ∷ 0 ∷ 0 ∷ 0 ∷ 1 ∷ 0 ∷ 0 ∷ 0 ∷ 0 ∷ []

-- the header and a closed gate
unfoldable pub new_file : List ℕ
new_file = header ++ 0 ∷ []

-- a number as four bytes, the highest first
unfoldable pub four_bytes : ℕ → List ℕ
four_bytes n = to_be_bytes w32 n

-- the byte of an open gate; with any other a gate is closed
abbrev pub open_gate : ℕ
open_gate = 165

-- an open gate, the length and the byte string
abbrev pub record_of : List ℕ → List ℕ
record_of form = open_gate ∷ four_bytes (length form) ++ form

-- the records of some byte strings, one after another
abbrev pub records : List (List ℕ) → List ℕ
records [] = []
records (form ∷ forms) = record_of form ++ records forms

-- what an append writes after the closed gate: the length, the byte string and the next closed gate
abbrev pub after_gate : List ℕ → List ℕ
after_gate form = four_bytes (length form) ++ form ++ 0 ∷ []

-- the offset of the first gate: after the header
abbrev pub first_gate : ℕ
first_gate = 16

-- how many bytes a new file has: its header's, and a closed gate's
abbrev pub new_size : ℕ
new_size = 17

-- the offset of the next gate, after the record of a byte string of that size
abbrev pub next_gate : ℕ → ℕ → ℕ
next_gate gate size = gate + 5 + size

-- the most bytes of a byte string: with its gate and its length a record has at most 2 ^ 24 bytes
abbrev pub most_bytes : ℕ
most_bytes = 16777211

-- a byte string that a record may hold
abbrev pub IsShort : List ℕ → Type 0
IsShort form = length form ≤ most_bytes

-- the file begins with the header and the records of these byte strings, which end at an offset
pub record ReadsTo (file : List ℕ) (forms : List (List ℕ)) (offset : ℕ) : Type 0 where
  pub prefix : take offset file ≡ header ++ records forms
  pub offset_is : offset ≡ first_gate + length (records forms)
  pub sizes : All IsShort forms

-- and there stands a closed gate
pub record EndsAt (file : List ℕ) (forms : List (List ℕ)) (offset : ℕ) : Type 0 where
  pub reads : ReadsTo file forms offset
  pub in_file : offset < length file
  pub closed : slice_index file offset ≢ open_gate
  pub low : offset < 2 ^ 40

-- the file stands for these byte strings: it has at most 17 bytes and there are none, or its records up to a closed gate are theirs
abbrev pub StandsFor : List ℕ → List (List ℕ) → Type 0
StandsFor file forms = ((length file ≤ new_size) × (forms ≡ [])) ⊎ ((new_size < length file) × ((offset : ℕ) × EndsAt file forms offset))

-- the file stands for no list of byte strings
abbrev pub StandsForNone : List ℕ → Type 0
StandsForNone file = (forms : List (List ℕ)) → ¬ StandsFor file forms

-- the second file stands for each list that the first one stands for
abbrev pub StandsForSame : List ℕ → List ℕ → Type 0
StandsForSame old new = (forms : List (List ℕ)) → StandsFor old forms → StandsFor new forms

-- the file stands for the byte strings, with one more or without it
abbrev pub IsBeforeOrAfter : List (List ℕ) → List ℕ → List ℕ → Type 0
IsBeforeOrAfter forms form file = StandsFor file forms ⊎ StandsFor file (forms ++ form ∷ [])

-- a closed gate stands there
pub record IsClosed (file : List ℕ) (offset : ℕ) : Type 0 where
  pub in_file : offset < length file
  pub closed : slice_index file offset ≢ open_gate

-- neither a closed gate stands there, nor a whole record whose next gate is below 2^40
pub record IsStuck (file : List ℕ) (offset : ℕ) : Type 0 where
  pub not_closed : offset < length file → slice_index file offset ≡ open_gate
  pub no_record : (form : List ℕ) → IsShort form → offset + 5 + length form < 2 ^ 40 → ¬ (take (5 + length form) (drop offset file) ≡ record_of form)

-- an open gate stands there, then the length of a byte string, and after it so many bytes
pub record IsOpen (file : List ℕ) (offset size : ℕ) : Type 0 where
  pub opened : slice_index file offset ≡ open_gate
  pub length_is : take 4 (drop (offset + 1) file) ≡ four_bytes size
  pub whole : offset + 5 + size ≤ length file

-- the first byte that differs from the header
pub record IsNoHeader (file : List ℕ) (at : ℕ) : Type 0 where
  pub within : at < first_gate
  pub same : take at file ≡ take at header
  pub differs : slice_index file at ≢ slice_index header at

-- a file that a journal may be read from: it has more than 17 bytes, or is new
abbrev pub IsMounted : List ℕ → Type 0
IsMounted file = (new_size < length file) ⊎ (file ≡ new_file)

-- what mounting leaves of a file: all of it, or a new file where it had at most 17 bytes
abbrev pub MountedFrom : List ℕ → List ℕ → Type 0
MountedFrom old new = ((new_size < length old) × (new ≡ old)) ⊎ ((length old ≤ new_size) × (new ≡ new_file))

-- the disk is that of the entry, or that one synced
abbrev pub IsAtMostSynced : Disk → Disk → Type 0
IsAtMostSynced entry disk = (disk ≡ entry) ⊎ (disk ≡ synced entry)

-- a file while it is read: all of it is stable, and it reads as these byte strings up to an offset
pub record IsWalked (disk : Disk) (forms : List (List ℕ)) (offset : ℕ) : Type 0 where
  pub stable : IsStable disk
  pub mounted : IsMounted disk.now
  pub reads : ReadsTo disk.now forms offset

-- a journal's file between two calls: all of it is stable, and its records are those of the byte strings
pub record IsJournalAtRest (disk : Disk) (forms : List (List ℕ)) (end : ℕ) : Type 0 where
  pub stable : IsStable disk
  pub ends : EndsAt disk.now forms end

-- the byte at the gate is as it was and isn't loose, or what stands after it is stable
abbrev pub IsGateLast : Disk → ℕ → List ℕ → Disk → Type 0
IsGateLast old gate behind disk =
    CrashLeaves (λ x. slice_index x gate ≡ slice_index old.now gate) disk ⊎ (take (length behind) (drop (gate + 1) disk.stable) ≡ behind)

-- what contracts see of a journal: the offset of its end, and whether an append failed
pub record JournalState : Type 0 where
  pub end : ℕ
  pub broken : Bool

-- What contracts see of a journal that is read. It is the offset of the gate that was opened last, that of the next, and whether
-- the closed gate was found.
pub record WalkState : Type 0 where
  pub offset : ℕ
  pub next : ℕ
  pub ended : Bool

-- the prepared record is that of this byte string, and lies in frames that are out of the pool, each once
abbrev pub HoldsRecord : Frames → PagedState → List ℕ → Type 0
HoldsRecord pool prepared form = HoldsBytes pool prepared (after_gate form)

-- the record of a byte string of this size may be appended at a journal's end
pub record RecordFits (end size : ℕ) : Type 0 where
  pub short : size ≤ most_bytes
  pub room : end + size + 6 ≤ 2 ^ 40

-- Whether such a record may be appended there, or which limit stands in its way. A journal has at most 2 ^ 40 bytes with the gate
-- after the record.
abbrev pub fit_of : ℕ → ℕ → Fit
fit_of end size = if nat_lt most_bytes size then TooLarge else if nat_lt (2 ^ 40) (end + size + 6) then Full else Yes

-- the prepared record may be appended at a journal's end
abbrev pub IsReady : Frames → PagedState → ℕ → Type 0
IsReady pool prepared end = (form : List ℕ) × HoldsRecord pool prepared form × RecordFits end (length form)
