-- How a run ends.
use Rattle.std.specs.Prelude.{◌≡◌, ◌⊎◌, ℕ, ◌-◌, List, [], ◌∷◌, ◌++◌, false, length, codes, IsSome, IsTrue}
use Rattle.std.specs.Fmt.{decimal}
use Rattle.host_port.specs.Host.{Told, disk_now, said_now, Rose, Throughout, KeepsDisk, KeepsInput, KeepsSaid, AddsPart}
use Rattle.command_runs.specs.Runs.{Answer, replies, events, events_due}
use Rattle.command_runs.specs.Crashes.{StandsForAtLeast, IsRunning}
use Rattle.op_form.specs.declared.event.Event.{Event}
use Rattle.plain_repository.specs.Store.{StandsForEvents, StandsForNoEvents, IsDamaged}
use Rattle.store_session.specs.declared.answered.SessionFault.{SessionFault}
use Rattle.store_session.specs.declared.answered.SessionFault.TheVariants as session
use Rattle.store_session.specs.Tasks.{Task}
use Rattle.store_session.specs.declared.status.Status.{Status}
use Rattle.store_session.specs.declared.status.Status.TheVariants.{Accepted, Refused, BadWords, ReadFault, WriteFault, DiskFault, Damaged, Memory, Input}

-- all of the replies were printed, and the file stands for all of the events
pub record IsServed (task : Task) (first : List Event) (before now : Told) : Type 0 where
  pub said : said_now now ≡ said_now before ++ replies task.answers
  pub stands : StandsForEvents (disk_now now).now (first ++ events task.answers)

-- the answer whose reply was being printed is kept, with any prefix of its reply printed; so is each before it, whose replies were
-- printed whole
pub record IsUnsaid (task : Task) (first : List Event) (before now : Told) : Type 0 where
  pub done : List (Answer Event)
  pub answer : Answer Event
  pub left : List (Answer Event)
  pub whole : task.answers ≡ (done ++ answer ∷ []) ++ left
  pub said : AddsPart (said_now before ++ replies done) answer.reply (said_now now)
  pub stands : StandsForEvents (disk_now now).now (first ++ events (done ++ answer ∷ []))

-- nothing was printed and no input taken, and the file stands for the first events alone
pub record IsUnopened (first : List Event) (before now : Told) : Type 0 where
  pub said : said_now now ≡ said_now before
  pub input : KeepsInput before now
  pub stands : StandsForEvents (disk_now now).now first

-- An answer that makes an event was on its way. Nothing of its reply was printed, and its event is kept whole or not at all. Each
-- answer before it is kept, and its reply was printed.
pub record IsUnanswered (task : Task) (first : List Event) (before now : Told) : Type 0 where
  pub done : List (Answer Event)
  pub answer : Answer Event
  pub left : List (Answer Event)
  pub whole : task.answers ≡ (done ++ answer ∷ []) ++ left
  pub event : IsSome answer.event
  pub said : said_now now ≡ said_now before ++ replies done
  pub stands : StandsForEvents (disk_now now).now (first ++ events done) ⊎ StandsForEvents (disk_now now).now (first ++ events (done ++ answer ∷ []))

-- the first answers are given and their events kept, and of the others nothing is printed and nothing kept
pub record IsHalted (task : Task) (first : List Event) (before now : Told) : Type 0 where
  pub done : List (Answer Event)
  pub left : List (Answer Event)
  pub whole : task.answers ≡ done ++ left
  pub said : said_now now ≡ said_now before ++ replies done
  pub stands : StandsForEvents (disk_now now).now (first ++ events done)

-- the file stands for the first events and some of those of the task, none in part, with all whose reply was begun
abbrev pub IsKept : Task → List Event → Told → Told → Type 0
IsKept task first before now =
    StandsForAtLeast StandsForEvents first (events task.answers) (events_due task.answers (length (said_now now) - length (said_now before)))
    (disk_now now).now

-- A run ends so, where the file stood for the first events. A disk fault comes while the store is opened, or while an
-- answer's event is on its way.
abbrev pub Ends : Task → List Event → Told → Told → Status → Type 0
Ends task first before now Accepted = IsServed task first before now × (task.end ≡ Accepted) × (IsTrue task.reads → now.left ≡ [])
Ends task first before now Refused = IsServed task first before now × (task.end ≡ Refused) × (IsTrue task.reads → now.left ≡ [])
Ends task first before now (Input fault at) = IsServed task first before now × (task.end ≡ Input fault at)
Ends task first before now WriteFault = IsUnsaid task first before now
Ends task first before now (Damaged at) = ⊥
Ends task first before now BadWords = ⊥
Ends task first before now ReadFault = IsHalted task first before now × IsTrue task.reads
Ends task first before now DiskFault = IsUnopened first before now ⊎ IsUnanswered task first before now
Ends task first before now Memory = IsHalted task first before now

-- the status of a fault of the session
abbrev pub session_status : SessionFault → Status
session_status session.DiskFault = DiskFault
session_status session.SayFault = WriteFault
session_status (session.Damaged at) = Damaged at
session_status session.Memory = Memory

-- the program's exit status
abbrev pub code_of : Status → ℕ
code_of Accepted = 0
code_of Refused = 1
code_of BadWords = 2
code_of ReadFault = 3
code_of WriteFault = 4
code_of DiskFault = 5
code_of (Damaged at) = 6
code_of Memory = 7
code_of (Input fault at) = 8

-- what the program's line on standard error says after its name; of the first two there is none
abbrev pub status_text : Status → List ℕ
status_text Accepted = codes "accepted"
status_text Refused = codes "refused"
status_text BadWords = codes "bad words"
status_text ReadFault = codes "read fault"
status_text WriteFault = codes "write fault"
status_text DiskFault = codes "disk fault"
status_text (Damaged at) = codes "damaged at " ++ decimal at
status_text Memory = codes "out of memory"
status_text (Input fault at) = codes "input fault " ++ (decimal fault ++ (codes " at " ++ decimal at))

-- a run that does not read its input leaves it as it is
abbrev pub KeepsUnread : Task → Told → Told → Type 0
KeepsUnread task before now = task.reads ≡ false → KeepsInput before now

-- no count of faults rose, and none stands at its greatest number
pub record NothingRose (before now : Told) : Type 0 where
  pub take_faults : Rose before.take_faults now.take_faults → ⊥
  pub say_faults : Rose before.say_faults now.say_faults → ⊥
  pub disk_faults : Rose before.disk_faults now.disk_faults → ⊥

-- the file reads as it was at each moment
abbrev pub KeepsFile : Told → Told → Type 0
KeepsFile before now = Throughout before now (λ disk said. disk.now ≡ (disk_now before).now)

-- A host that reports has a file that is damaged at an offset and stands for no list of events. At each moment the file reads as
-- it was. Nothing is printed, and no input taken.
pub record IsFoundDamaged (before now : Told) (at : ℕ) : Type 0 where
  pub offset : IsTrue before.tells → IsDamaged (disk_now before).now at
  pub no_events : IsTrue before.tells → StandsForNoEvents (disk_now before).now
  pub file : KeepsFile before now
  pub said : KeepsSaid before now
  pub input : KeepsInput before now

-- A run over a store that is open has done its task, up to how it ends: what is printed and kept then, and at each moment before. Where
-- the task makes no event the disk stays.
pub record IsDone (task : Task) (made : List Event) (before now : Told) (status : Status) : Type 0 where
  pub ends : IsTrue before.tells → Ends task made before now status
  pub part : Throughout before now (λ disk said. AddsPart (said_now before) (replies task.answers) said)
  pub moments : Throughout before now (IsRunning StandsForEvents made (events task.answers) (events_due task.answers) (said_now before))
  pub still : events task.answers ≡ [] → KeepsDisk before now
