-- How the printing of a store as a script ends.
use Rattle.std.specs.Prelude.{◌≡◌, ◌⊎◌, ◌<◌, ℕ, List, [], ◌∷◌, ◌++◌, Bool, true, false, length, map, IsTrue, if◌then◌else◌}
use Rattle.host_port.specs.Host.{Told, Disk, CrashLeaves, disk_now, said_now, Rose, GoesOn, Throughout, KeepsInput, AddsPart}
use Rattle.commit_journal.specs.Journal.{ReadsTo, IsNoHeader, IsAtMostSynced, StandsForSame, new_size}
use Rattle.command_runs.specs.Runs.{played}
use Rattle.op_form.specs.declared.event.Event.{Event}
use Rattle.op_form.specs.Events.{event_encoding}
use Rattle.plain_repository.specs.State.{empty}
use Rattle.plain_repository.specs.Events.{play, are_playable}
use Rattle.plain_repository.specs.Store.{StandsForEvents, StandsForNoEvents, IsDamaged}
use Rattle.replay_laws.specs.Scripts.{script_again, are_printable}
use Rattle.store_session.specs.declared.status.Status.{Status}
use Rattle.store_session.specs.declared.status.Status.TheVariants.{Accepted, Refused, BadWords, ReadFault, WriteFault, DiskFault, Damaged, Memory, Input}
use Rattle.store_replay.specs.Printing.{can_print, said_of, said_of_all}

-- this text was printed, and the file stands for the events still
pub record IsTold (events : List Event) (text : List ℕ) (before now : Told) : Type 0 where
  pub said : said_now now ≡ said_now before ++ text
  pub stands : StandsForEvents (disk_now now).now events

-- a prefix of what there is to print was printed
pub record IsToldInPart (events : List Event) (before now : Told) : Type 0 where
  pub said : AddsPart (said_now before) (said_of_all empty events) (said_now now)
  pub stands : StandsForEvents (disk_now now).now events

-- Of a file that stands for events. It is accepted where a script can hold each of them: their script was printed. It is refused where a
-- script can't: what was printed ends with the line of the first such event.
abbrev pub EndsPrinted : List Event → Told → Told → Status → Type 0
EndsPrinted events before now Accepted = (are_printable empty events ≡ true) × IsTold events (script_again events) before now
EndsPrinted events before now Refused = (are_printable empty events ≡ false) × IsTold events (said_of_all empty events) before now
EndsPrinted events before now WriteFault = IsToldInPart events before now
EndsPrinted events before now DiskFault = IsToldInPart events before now
EndsPrinted events before now Memory = IsToldInPart events before now
EndsPrinted events before now (Damaged at) = ⊥
EndsPrinted events before now BadWords = ⊥
EndsPrinted events before now ReadFault = ⊥
EndsPrinted events before now (Input fault at) = ⊥

-- The records of the file up to an offset are those of events that a script can hold. Their script was printed, and no more.
pub record IsToldUpTo (before now : Told) (at : ℕ) : Type 0 where
  pub events : List Event
  pub playable : IsTrue (are_playable empty events)
  pub printable : are_printable empty events ≡ true
  pub reads : ReadsTo (disk_now before).now (map event_encoding events) at
  pub said : said_now now ≡ said_now before ++ script_again events

-- the file has no header, and nothing was printed
pub record IsHeadless (before now : Told) (at : ℕ) : Type 0 where
  pub none : IsNoHeader (disk_now before).now at
  pub said : said_now now ≡ said_now before

-- the file is damaged at that offset, and the script of the events before it was printed
pub record IsFoundBroken (before now : Told) (at : ℕ) : Type 0 where
  pub offset : IsDamaged (disk_now before).now at
  pub no_events : StandsForNoEvents (disk_now before).now
  pub said : IsHeadless before now at ⊎ IsToldUpTo before now at

-- The file has a record of an event that a script can't hold, and those before it can be held. Their lines were printed, and the line
-- that says why that event has none.
pub record IsFoundUnprintable (before now : Told) : Type 0 where
  pub events : List Event
  pub event : Event
  pub offset : ℕ
  pub playable : IsTrue (are_playable empty (events ++ event ∷ []))
  pub reads : ReadsTo (disk_now before).now (map event_encoding (events ++ event ∷ [])) offset
  pub printable : are_printable empty events ≡ true
  pub unprintable : can_print (played play empty events) event ≡ false
  pub said : said_now now ≡ said_now before ++ (script_again events ++ said_of (played play empty events) event)

-- the file stands for events that a script can hold, and their script was printed
pub record IsWholeScript (before now : Told) : Type 0 where
  pub events : List Event
  pub stands : StandsForEvents (disk_now before).now events
  pub printable : are_printable empty events ≡ true
  pub said : said_now now ≡ said_now before ++ script_again events

-- how it ends, whatever the file stands for
abbrev pub EndsBy : Told → Told → Status → Type 0
EndsBy before now Accepted = IsWholeScript before now
EndsBy before now Refused = IsFoundUnprintable before now
EndsBy before now (Damaged at) = IsFoundBroken before now at
EndsBy before now WriteFault = Unit {0}
EndsBy before now DiskFault = Unit {0}
EndsBy before now Memory = Unit {0}
EndsBy before now BadWords = ⊥
EndsBy before now ReadFault = ⊥
EndsBy before now (Input fault at) = ⊥

-- a count of faults that rose; no input is read
abbrev pub HasCause : Told → Told → Status → Type 0
HasCause before now Accepted = Unit {0}
HasCause before now Refused = Unit {0}
HasCause before now (Damaged at) = Unit {0}
HasCause before now WriteFault = Rose before.say_faults now.say_faults
HasCause before now DiskFault = Rose before.disk_faults now.disk_faults
HasCause before now Memory = Unit {0}
HasCause before now BadWords = ⊥
HasCause before now ReadFault = ⊥
HasCause before now (Input fault at) = ⊥

-- at each moment a prefix of what there is to print was printed
abbrev pub KeepsPart : Told → Told → Type 0
KeepsPart before now = (events : List Event) → StandsForEvents (disk_now before).now events
    → Throughout before now (λ disk said. AddsPart (said_now before) (said_of_all empty events) said)

-- nothing is printed and the disk is that of the entry, or whatever a crash leaves stands for what the entry's file stood for
abbrev pub IsUnopenedOrSame : Disk → List ℕ → Disk → List ℕ → Type 0
IsUnopenedOrSame entry before disk said = ((disk ≡ entry) × (said ≡ before)) ⊎ CrashLeaves (StandsForSame entry.now) disk

-- so it is at each moment
abbrev pub KeepsStore : Told → Told → Type 0
KeepsStore before now = Throughout before now (IsUnopenedOrSame (disk_now before) (said_now before))

-- a store was read and printed, up to how it ended
pub record IsReplay (before now : Told) (status : Status) : Type 0 where
  pub ends : IsTrue before.tells → EndsBy before now status
  pub part : KeepsPart before now
  pub moments : KeepsStore before now
  pub long : new_size < length (disk_now before).now → Throughout before now (λ disk said. IsAtMostSynced (disk_now before) disk)
  pub cause : HasCause before now status
  pub input : KeepsInput before now
  pub course : GoesOn before now

-- how it ends where nothing fails
abbrev pub end_of_events : List Event → Status
end_of_events events = if are_printable empty events then Accepted else Refused
