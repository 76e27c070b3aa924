-- What one run of a program does to the file, at each of its moments: the clauses of the two programs.
use Rattle.std.specs.Prelude.{◌≡◌, ℕ, ◌-◌, ◌≤◌, List, [], length, take, IsTrue, Option, None, Some}
use Rattle.host_port.specs.Host.{Told, MayLeave, GoesOn, Throughout, disk_now, said_now}
use Rattle.command_runs.specs.Runs.{Answer, played, events, events_due}
use Rattle.command_runs.specs.Crashes.{IsOpenedRunning}
use Rattle.op_form.specs.declared.event.Event.{Event}
use Rattle.plain_repository.specs.State.{State, empty}
use Rattle.plain_repository.specs.Events.{play}
use Rattle.plain_repository.specs.Store.{StandsForEvents}
use Rattle.script_items.specs.Words as emf
use Rattle.script_items.specs.declared.words.Request.{Request}
use Rattle.store_session.specs.Tasks.{Task}
use Rattle.store_replay.specs.Endings.{KeepsStore}
use Rattle.tool_requests.specs.Words as tool_words
use Rattle.tool_requests.specs.declared.tool.Tool.{Tool}
use Rattle.emf_top.specs.Tasks as emf_tasks
use Rattle.tools_top.specs.Tasks as tool_tasks

-- what words ask for, by the state of the store and the input
abbrev pub Asked : Type 0
Asked = State → List ℕ → Task

-- the answers that a run gives that finds these events
abbrev pub answers_of : Asked → List Event → Told → List (Answer Event)
answers_of asked first old = (asked (played play empty first) old.left).answers

-- The clause `moments` of both programs. At each moment whatever a crash leaves stands for the events that the run found and some of
-- the new ones, with all whose reply is begun; or the disk is that of the entry, and nothing is printed.
abbrev pub KeepsAtMoments : Asked → Told → Told → Type 0
KeepsAtMoments asked old new = (first : List Event) → StandsForEvents (disk_now old).now first
    → Throughout old new (IsOpenedRunning (disk_now old) StandsForEvents first (events (answers_of asked first old)) (events_due (answers_of asked first old))
    (said_now old))

-- what a read gives at a moment a crash may leave: what each host promises
abbrev pub LeavesReads : Told → Type 0
LeavesReads new = (t : ℕ) → IsTrue new.tells → t ≤ new.clock → MayLeave (new.disk t) (new.disk t).now

-- a run of `emfstore` with these words
pub record IsRun (words : List (List ℕ)) (old new : Told) : Type 0 where
  pub asked : (request : Request) → emf.AskFor words request → KeepsAtMoments (emf_tasks.task_of request) old new
  pub bad : emf.AreBad words → new ≡ old
  pub course : GoesOn old new
  pub reads : LeavesReads new

-- a run of `emftools` with these words
pub record IsToolsRun (words : List (List ℕ)) (old new : Told) : Type 0 where
  pub asked : (tool : Tool) → tool_words.AskFor words tool → KeepsAtMoments (tool_tasks.task_of tool) old new
  pub replay : tool_words.AskForReplay words → KeepsStore old new
  pub bad : tool_words.AreBad words → new ≡ old
  pub course : GoesOn old new
  pub reads : LeavesReads new

-- A run of either program, by what its words ask for: a task; or, with None, nothing that makes an event.
pub data Ran (old new : Told) : Option Asked → Type 0 where
  Served : (words : List (List ℕ)) (request : Request) → emf.AskFor words request → IsRun words old new → Ran old new (Some (emf_tasks.task_of request))
  Unserved : (words : List (List ℕ)) → emf.AreBad words → IsRun words old new → Ran old new None
  Worked : (words : List (List ℕ)) (tool : Tool) → tool_words.AskFor words tool → IsToolsRun words old new → Ran old new (Some (tool_tasks.task_of tool))
  Replayed : (words : List (List ℕ)) → tool_words.AskForReplay words → IsToolsRun words old new → Ran old new None
  Unworked : (words : List (List ℕ)) → tool_words.AreBad words → IsToolsRun words old new → Ran old new None

-- a run, and the moment when it was stopped: any from its entry on, and the last where it came to its end
pub record Run : Type 0 where
  pub old : Told
  pub new : Told
  pub tells : IsTrue old.tells
  pub asked : Option Asked
  pub ran : Ran old new asked
  pub stop : ℕ
  pub low : old.clock ≤ stop
  pub high : stop ≤ new.clock

-- all events that a run makes that finds these
abbrev pub made_by : Option Asked → List Event → Told → List Event
made_by None first old = []
made_by (Some asked) first old = events (answers_of asked first old)

-- the events whose reply was begun by a moment, in a run that found these events
abbrev pub begun_by : Option Asked → List Event → Told → Told → ℕ → List Event
begun_by None first old new t = []
begun_by (Some asked) first old new t =
    let answers = answers_of asked first old in
    take (events_due answers (length (new.said t) - length (said_now old))) (events answers)

-- those of a run that was stopped
abbrev pub begun : Run → List Event → List Event
begun run first = begun_by run.asked first run.old run.new run.stop
