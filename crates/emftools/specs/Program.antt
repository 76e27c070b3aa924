-- What a run of the program does, as one fact of the words, of what the host reports before and after, and of the status.
use Rattle.std.specs.Prelude.{◌≡◌, ◌≢◌, ◌<◌, ◌⊎◌, ℕ, List, [], length, IsTrue}
use Rattle.host_port.specs.Host.{disk_now, said_now, Rose, GoesOn, Throughout, AddsPart, KeepsSaid, KeepsInput}
use Rattle.commit_journal.specs.Journal.{IsAtMostSynced, new_size}
use Rattle.command_runs.specs.Runs.{played, replies, events, events_due}
use Rattle.command_runs.specs.Crashes.{IsOpenedRunning}
use Rattle.op_form.specs.declared.event.Event.{Event}
use Rattle.plain_repository.specs.State.{empty}
use Rattle.plain_repository.specs.Events.{play}
use Rattle.plain_repository.specs.Store.{StandsForEvents, StandsForNoEvents}
use Rattle.store_session.specs.Endings.{Ends, NothingRose, IsKept, KeepsFile, KeepsUnread, IsFoundDamaged}
use Rattle.store_replay.specs.Endings.{EndsPrinted, IsReplay, end_of_events}
use Rattle.tool_requests.specs.Words.{AskFor, AskForReplay, AreBad}
use Rattle.tool_requests.specs.declared.tool.Tool.{Tool}
use Rattle.tools_top.specs.Tasks.{task_of}
use Rattle.host_port.specs.Host.{Told}
use Rattle.store_session.specs.declared.status.Status.{Status}

-- the clauses of `tools`
pub record IsRun (texts : List (List ℕ)) (old new : Told) (result : Status) : Type 0 where
  -- What is printed and kept, where the file stands for a list of events. With Accepted, Refused and Input these are
  -- all of the task's replies, and all of its events. With WriteFault these are the replies before the one that
  -- failed and a part of that one, and the events up to its own. With the other statuses these are the first replies
  -- and their events, and at a disk fault the one event more or not.
  pub ends : IsTrue old.tells → (tool : Tool) (first : List Event) → StandsForEvents (disk_now old).now first → AskFor texts tool
      → Ends (task_of tool (played play empty first) old.left) first old new result
  -- At each moment a prefix of the replies is printed.
  pub part : (tool : Tool) (first : List Event) → StandsForEvents (disk_now old).now first → AskFor texts tool
      → Throughout old new (λ _ said. AddsPart (said_now old) (replies (task_of tool (played play empty first) old.left).answers) said)
  -- At each moment whatever a crash leaves stands for the first events and some of the new ones, none in part. All
  -- whose reply is begun are among them. Or the disk is still that of the entry, and nothing is printed.
  pub moments : (tool : Tool) (first : List Event) → StandsForEvents (disk_now old).now first → AskFor texts tool
      → Throughout old new (IsOpenedRunning (disk_now old) StandsForEvents first (events (task_of tool (played play empty first) old.left).answers)
      (events_due (task_of tool (played play empty first) old.left).answers) (said_now old))
  -- However it ends, the file stands for the first events and some of the new ones, none in part. All whose reply is
  -- begun are among them. The command that was being written at a disk fault is kept whole or not at all.
  pub stopped : IsTrue old.tells → (tool : Tool) (first : List Event) → StandsForEvents (disk_now old).now first → AskFor texts tool
      → IsKept (task_of tool (played play empty first) old.left) first old new
  -- Where no count rises, it ends as the task does, or memory ran out.
  pub complete : IsTrue old.tells → (tool : Tool) (first : List Event) → StandsForEvents (disk_now old).now first → AskFor texts tool
      → NothingRose old new → (result ≡ (task_of tool (played play empty first) old.left).end) ⊎ (result ≡ Status.Memory)
  -- Where the task makes no event and the file has more than 17 bytes, the disk at each moment is that of the entry, or that one
  -- synced.
  pub still : (tool : Tool) (first : List Event) → StandsForEvents (disk_now old).now first → AskFor texts tool
      → events (task_of tool (played play empty first) old.left).answers ≡ [] → new_size < length (disk_now old).now
      → Throughout old new (λ disk _. IsAtMostSynced (disk_now old) disk)
  -- With `query` and `blame` the input stays unread.
  pub unread : (tool : Tool) (first : List Event) → StandsForEvents (disk_now old).now first → AskFor texts tool
      → KeepsUnread (task_of tool (played play empty first) old.left) old new
  -- Bad words are answered so before any call of the host. What words ask for takes memory, so where there is none that is
  -- the answer to any words.
  pub bad : result ≡ Status.BadWords → AreBad texts
  pub words : AreBad texts → (result ≡ Status.BadWords) ⊎ (result ≡ Status.Memory)
  pub untouched : result ≡ Status.BadWords → new ≡ old
  pub read : result ≡ Status.ReadFault → Rose old.take_faults new.take_faults
  pub write : result ≡ Status.WriteFault → Rose old.say_faults new.say_faults
  pub disk : result ≡ Status.DiskFault → Rose old.disk_faults new.disk_faults
  -- Damaged comes where the file stands for no list of events, with the exact offset. Such a file reads as it was at each
  -- moment, nothing is printed and no input taken, whatever the status. With `replay` what stands before the damage is printed.
  pub damaged : ¬ AskForReplay texts → (at : ℕ) → result ≡ Status.Damaged at → IsFoundDamaged old new at
  pub kept : StandsForNoEvents (disk_now old).now → KeepsFile old new
  pub silent : ¬ AskForReplay texts → IsTrue old.tells → StandsForNoEvents (disk_now old).now
      → KeepsSaid old new × KeepsInput old new
  pub damages : ¬ AskForReplay texts → IsTrue old.tells → StandsForNoEvents (disk_now old).now
      → AreBad texts ⊎ ((at : ℕ) × (result ≡ Status.Damaged at)) ⊎ (result ≡ Status.DiskFault) ⊎ (result ≡ Status.Memory)
  -- With `replay` the store is printed as a script: what is printed and kept at each moment, and how it ends, whatever the file holds.
  pub replay : AskForReplay texts → IsReplay old new result
  -- Where the file stands for events: with Accepted their script is printed, and with Refused what there is up to the line that says why.
  pub script : AskForReplay texts → IsTrue old.tells → (first : List Event) → StandsForEvents (disk_now old).now first
      → EndsPrinted first old new result
  pub whole : AskForReplay texts → IsTrue old.tells → (first : List Event) → StandsForEvents (disk_now old).now first
      → NothingRose old new → (result ≡ end_of_events first) ⊎ (result ≡ Status.Memory)
  pub broken : AskForReplay texts → IsTrue old.tells → StandsForNoEvents (disk_now old).now → result ≢ Status.Accepted
  pub course : GoesOn old new
