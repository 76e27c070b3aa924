-- What a run of the program does, as one fact of the words, of what the host reports before and after, and of the status.
use Rattle.std.specs.Prelude.{◌≡◌, ◌<◌, ◌⊎◌, ◌↔◌, ℕ, List, [], length, IsTrue}
use Rattle.host_port.specs.Host.{Told, disk_now, said_now, Rose, GoesOn, Throughout, AddsPart, KeepsSaid, KeepsInput}
use Rattle.system_port.specs.Stays.{Stays}
use Rattle.commit_journal.specs.Journal.{IsAtMostSynced, new_size}
use Rattle.command_runs.specs.Runs.{played, replies, events, events_due}
use Rattle.command_runs.specs.Crashes.{IsOpenedRunning}
use Rattle.op_form.specs.declared.event.Event.{Event}
use Rattle.plain_repository.specs.State.{empty}
use Rattle.plain_repository.specs.Events.{play}
use Rattle.plain_repository.specs.Store.{StandsForEvents, StandsForNoEvents}
use Rattle.script_items.specs.Words.{AskFor, AreBad}
use Rattle.script_items.specs.declared.words.Request.{Request}
use Rattle.store_session.specs.Endings.{Ends, NothingRose, IsKept, KeepsFile, KeepsUnread, IsFoundDamaged}
use Rattle.store_session.specs.declared.status.Status.{Status}
use Rattle.emf_top.specs.Tasks.{task_of}

-- the clauses of `run`
pub record IsRun (texts : List (List ℕ)) (old new : Told) (result : Status) : Type 0 where
  -- What is printed and kept, where the file stands for a list of events. With Accepted, Refused and Input these are
  -- all of the task's replies, and all of its events. With WriteFault these are the replies before the one that
  -- failed and a part of that one, and the events up to its own. With the other statuses these are the first replies
  -- and their events, and at a disk fault the one event more or not.
  pub ends : IsTrue old.tells → (request : Request) (first : List Event) → StandsForEvents (disk_now old).now first → AskFor texts request
      → Ends (task_of request (played play empty first) old.left) first old new result
  -- At each moment a prefix of the replies is printed.
  pub part : (request : Request) (first : List Event) → StandsForEvents (disk_now old).now first → AskFor texts request
      → Throughout old new (λ _ said. AddsPart (said_now old) (replies (task_of request (played play empty first) old.left).answers) said)
  -- At each moment whatever a crash leaves stands for the first events and some of the new ones, none in part. All
  -- whose reply is begun are among them. Or the disk is still that of the entry, and nothing is printed.
  pub moments : (request : Request) (first : List Event) → StandsForEvents (disk_now old).now first → AskFor texts request
      → Throughout old new (IsOpenedRunning (disk_now old) StandsForEvents first (events (task_of request (played play empty first) old.left).answers)
      (events_due (task_of request (played play empty first) old.left).answers) (said_now old))
  -- However it ends, the file stands for the first events and some of the new ones, none in part. All whose reply is
  -- begun are among them. The command that was being written at a disk fault is kept whole or not at all.
  pub stopped : IsTrue old.tells → (request : Request) (first : List Event) → StandsForEvents (disk_now old).now first → AskFor texts request
      → IsKept (task_of request (played play empty first) old.left) first old new
  -- Where no count rises, it ends as the task does, or memory ran out.
  pub complete : IsTrue old.tells → (request : Request) (first : List Event) → StandsForEvents (disk_now old).now first → AskFor texts request
      → NothingRose old new → (result ≡ (task_of request (played play empty first) old.left).end) ⊎ (result ≡ Status.Memory)
  -- Where the task makes no event and the file has more than 17 bytes, the disk at each moment is that of the entry, or that one
  -- synced.
  pub still : (request : Request) (first : List Event) → StandsForEvents (disk_now old).now first → AskFor texts request
      → events (task_of request (played play empty first) old.left).answers ≡ [] → new_size < length (disk_now old).now
      → Throughout old new (λ disk _. IsAtMostSynced (disk_now old) disk)
  -- With `--check` and `--generate` the input stays unread.
  pub unread : (request : Request) (first : List Event) → StandsForEvents (disk_now old).now first → AskFor texts request
      → KeepsUnread (task_of request (played play empty first) old.left) old new
  pub words : result ≡ Status.BadWords ↔ AreBad texts
  pub untouched : result ≡ Status.BadWords → Stays old new
  pub read : result ≡ Status.ReadFault → Rose old.take_faults new.take_faults
  pub write : result ≡ Status.WriteFault → Rose old.say_faults new.say_faults
  pub disk : result ≡ Status.DiskFault → Rose old.disk_faults new.disk_faults
  -- Damaged comes where the file stands for no list of events, with the exact offset. Such a file reads as it was at each
  -- moment, nothing is printed and no input taken, whatever the status.
  pub damaged : (at : ℕ) → result ≡ Status.Damaged at → IsFoundDamaged old new at
  pub kept : StandsForNoEvents (disk_now old).now → KeepsFile old new
  pub silent : IsTrue old.tells → StandsForNoEvents (disk_now old).now
      → KeepsSaid old new × KeepsInput old new
  pub damages : IsTrue old.tells → StandsForNoEvents (disk_now old).now
      → AreBad texts ⊎ ((at : ℕ) × (result ≡ Status.Damaged at)) ⊎ (result ≡ Status.DiskFault) ⊎ (result ≡ Status.Memory)
  pub course : GoesOn old new
