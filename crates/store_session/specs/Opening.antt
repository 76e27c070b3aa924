-- What the opening of a store leaves of its file.
use Rattle.std.specs.Prelude.{◌≡◌, ◌⊎◌, ◌<◌, ℕ, List, [], ◌∷◌, ◌++◌, length, IsTrue}
use Rattle.host_port.specs.Host.{Told, Disk, Throughout, CrashLeaves, disk_now}
use Rattle.commit_journal.specs.TornWrites.{IsStable}
use Rattle.commit_journal.specs.Journal.{MountedFrom, StandsForSame, IsAtMostSynced, new_size}
use Rattle.op_form.specs.declared.event.Event.{Event}
use Rattle.op_form.specs.Events.{event_encoding}
use Rattle.op_form.specs.Formed.{IsEvent}
use Rattle.plain_repository.specs.Events.{play, playable}
use Rattle.store_session.specs.State.{OpeningState}
use Rattle.store_session.specs.Session.{IsPlayedUpTo}

-- until the first sync the disk is that of the entry; then a crash leaves a file that stands for the same
abbrev pub IsMounting : Disk → Disk → Type 0
IsMounting entry disk = (disk ≡ entry) ⊎ CrashLeaves (StandsForSame entry.now) disk

-- A store was opened since the entry, and its disk has stayed since then. The file is that of the entry, or a new one where that had at
-- most 17 bytes. At each moment a crash leaves a file that stands for what it stood for.
pub record IsOpenedSince (entry now : Told) : Type 0 where
  pub file : IsTrue entry.tells → MountedFrom (disk_now entry).now (disk_now now).now
  pub same : IsTrue entry.tells → StandsForSame (disk_now entry).now (disk_now now).now
  pub stable : IsTrue entry.tells → IsStable (disk_now now)
  pub moments : Throughout entry now (λ disk said. IsMounting (disk_now entry) disk)
  pub long : new_size < length (disk_now entry).now → Throughout entry now (λ disk said. IsAtMostSynced (disk_now entry) disk)

-- the bytes are those of an event
abbrev pub SpellsEvent : List ℕ → Type 0
SpellsEvent bytes = (event : Event) × IsEvent event × (bytes ≡ event_encoding event)

-- these bytes were read, and their event was played: it could be made there, and the file reads as the events before it and this one
pub record PlaysEvent (before now : Told) (old new : OpeningState) (bytes : List ℕ) : Type 0 where
  pub event : Event
  pub could : IsTrue (playable old.state event)
  pub spelled : bytes ≡ event_encoding event
  pub state_is : new.state ≡ play old.state event
  pub played_up_to : IsTrue before.tells → (made : List Event) → IsPlayedUpTo (disk_now before) old.state old.next made
      → IsPlayedUpTo (disk_now now) new.state new.next (made ++ event ∷ [])
