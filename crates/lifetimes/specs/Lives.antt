-- Many runs over one file.
use Rattle.std.specs.Prelude.{◌≢◌, ℕ, List, [], ◌∷◌, ◌++◌, take}
use Rattle.std.specs.List.{AllByRecursion}
use Rattle.host_port.specs.Host.{Disk, MayLeave, CrashLeaves, disk_now, said_now}
use Rattle.op_form.specs.declared.event.Event.{Event}
use Rattle.plain_repository.specs.Laws.{IsPrefix}
use Rattle.plain_repository.specs.Store.{StandsForEvents}
use Rattle.lifetimes.specs.Runs.{Run, begun, made_by}

-- a file that was just found so: all of it is stable
abbrev pub at_rest : List ℕ → Disk
at_rest x = record { now = x; stable = x; loose = [] }

-- From one disk to another by runs. Each run finds the disk that the one before left when it was stopped, or what a crash left of that.
pub data Lives : Disk → List Run → Disk → Type 0 where
  Rests : (disk : Disk) → Lives disk [] disk
  Runs : (run : Run) (runs : List Run) (end : Disk) → Lives (run.new.disk run.stop) runs end → Lives (disk_now run.old) (run ∷ runs) end
  Crashes : (disk : Disk) (x : List ℕ) → MayLeave disk x → (runs : List Run) (end : Disk) → Lives (at_rest x) runs end → Lives disk runs end

-- the file stands for these events, and so does whatever a crash leaves of it
pub record IsSafe (disk : Disk) (events : List Event) : Type 0 where
  pub now : MayLeave disk disk.now
  pub crash : CrashLeaves (λ x. StandsForEvents x events) disk

-- A run found whole events. Where it had printed anything when it was stopped, these and those whose reply it had begun are the first of
-- these events.
pub record IsKept (run : Run) (events : List Event) : Type 0 where
  pub first : List Event
  pub stood : StandsForEvents (disk_now run.old).now first
  pub kept : run.new.said run.stop ≢ said_now run.old → IsPrefix (first ++ begun run first) events

-- What may come of these events by runs, the latest first: a run left nothing of its own, or the first of the events that it makes on
-- those that it found. No other event comes from anywhere.
pub data MayCome (start : List Event) : List Run → List Event → Type 0 where
  Start : MayCome start [] start
  Without : (run : Run) (runs : List Run) (events : List Event) → MayCome start runs events → MayCome start (run ∷ runs) events
  With : (run : Run) (runs : List Run) (first : List Event) → StandsForEvents (disk_now run.old).now first → MayCome start runs first → (count : ℕ)
      → MayCome start (run ∷ runs) (first ++ take count (made_by run.asked first run.old))

-- the latest first, before those that were done earlier
abbrev pub latest_first : List Run → List Run → List Run
latest_first [] done = done
latest_first (run ∷ runs) done = latest_first runs (run ∷ done)

-- The file stands for whole events that begin with these, and with all that a run was stopped behind. Each comes of a run.
pub record Keeps (start : List Event) (runs : List Run) (end : Disk) : Type 0 where
  pub events : List Event
  pub stands : StandsForEvents end.now events
  pub begins : IsPrefix start events
  pub comes : MayCome start (latest_first runs []) events
  pub each : AllByRecursion (λ run. IsKept run events) runs

-- a file that stands for events, and was just found so, is safe; so a new one is, with none
abbrev pub FilesAtRestAreSafe : Type 0
FilesAtRestAreSafe = (file : List ℕ) (events : List Event) → StandsForEvents file events → IsSafe (at_rest file) events

-- so it is after any life of a file that was safe
abbrev pub LivesKeepEvents : Type 0
LivesKeepEvents = (disk end : Disk) (start : List Event) (runs : List Run) → IsSafe disk start → Lives disk runs end → Keeps start runs end
