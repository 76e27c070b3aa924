-- What the bytes of a file stand for.
use Rattle.std.specs.Prelude.{◌≡◌, ◌≢◌, ◌⊎◌, ℕ, ◌^◌, ◌<◌, List, [], ◌∷◌, ◌++◌, IsTrue, length, map}
use Rattle.byte_form.specs.Laws.{AreBytes}
use Rattle.host_port.specs.Host.{Disk}
use Rattle.command_runs.specs.Runs.{played}
use Rattle.commit_journal.specs.Journal.{StandsFor, ReadsTo, IsStuck, IsNoHeader, IsJournalAtRest, new_size, next_gate}
use Rattle.op_form.specs.declared.event.Event.{Event}
use Rattle.op_form.specs.Events.{event_encoding}
use Rattle.plain_repository.specs.State.{empty}
use Rattle.plain_repository.specs.Events.{play, playable, are_playable}

-- the events whose records the file has, each one that could be made after those before it
pub record StandsForEvents (file : List ℕ) (events : List Event) : Type 0 where
  pub forms : StandsFor file (map event_encoding events)
  pub playable : IsTrue (are_playable empty events)

-- the file stands for no list of events
abbrev pub StandsForNoEvents : List ℕ → Type 0
StandsForNoEvents file = (events : List Event) → ¬ StandsForEvents file events

-- the record that stands after those of some events is whole, and no event that could be made there has its bytes
pub record IsUnplayable (file : List ℕ) (events : List Event) (at : ℕ) : Type 0 where
  pub bytes : List ℕ
  pub reads : ReadsTo file (map event_encoding events ++ bytes ∷ []) (next_gate at (length bytes))
  pub no_event : (event : Event) → IsTrue (playable (played play empty events) event) → bytes ≢ event_encoding event

-- the records up to an offset below 2^40 are those of events that could be made, and neither a closed gate nor a record of an
-- event that could be made stands there
pub record IsBroken (file : List ℕ) (at : ℕ) : Type 0 where
  pub events : List Event
  pub playable : IsTrue (are_playable empty events)
  pub reads : ReadsTo file (map event_encoding events) at
  pub low : at < 2 ^ 40
  pub stuck : IsStuck file at ⊎ IsUnplayable file events at

-- Where a file of more than 17 bytes is damaged. It is at the first byte that is not the header's, or where the reading of its
-- records stops.
pub record IsDamaged (file : List ℕ) (at : ℕ) : Type 0 where
  pub long : new_size < length file
  pub found : IsNoHeader file at ⊎ IsBroken file at

-- the file stands for a list of events, or it is damaged at an offset
abbrev pub StandsOrIsDamaged : List ℕ → Type 0
StandsOrIsDamaged file = ((events : List Event) × StandsForEvents file events) ⊎ ((at : ℕ) × IsDamaged file at)

-- each file of bytes is one of the two
abbrev pub EachStandsOrIsDamaged : Type 0
EachStandsOrIsDamaged = (file : List ℕ) → AreBytes file → StandsOrIsDamaged file

-- a file stands for one list of events at most
abbrev pub StandsForOne : Type 0
StandsForOne = (file : List ℕ) (first second : List Event) → StandsForEvents file first → StandsForEvents file second → first ≡ second

-- a file is damaged at one offset at most
abbrev pub IsDamagedOnce : Type 0
IsDamagedOnce = (file : List ℕ) (first second : ℕ) → IsDamaged file first → IsDamaged file second → first ≡ second

-- a file that is damaged stands for no list of events
abbrev pub DamagedStandsForNone : Type 0
DamagedStandsForNone = (file : List ℕ) (at : ℕ) → IsDamaged file at → StandsForNoEvents file

-- a store between two commands: all of it is stable, and it stands for the events up to the closed gate at end
pub record IsStoreAtRest (disk : Disk) (end : ℕ) (events : List Event) : Type 0 where
  pub journal : IsJournalAtRest disk (map event_encoding events) end
  pub playable : IsTrue (are_playable empty events)
