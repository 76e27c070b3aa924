-- Many runs behind guards.
use Rattle.std.specs.Prelude.{◌≡◌, ℕ, List, Some}
use Rattle.std.specs.List.{AllByRecursion}
use Rattle.host_port.specs.Host.{Disk}
use Rattle.command_runs.specs.Runs.{played}
use Rattle.op_form.specs.declared.event.Event.{Event}
use Rattle.access_rules.specs.declared.policy.Role.{Role}
use Rattle.access_rules.specs.declared.policy.Role.TheVariants.{Reader, Writer}
use Rattle.plain_repository.specs.State.{State, empty}
use Rattle.plain_repository.specs.Events.{play}
use Rattle.plain_repository.specs.Store.{StandsForEvents}
use Rattle.tool_requests.specs.declared.guard.Guard as guards
use Rattle.tool_requests.specs.declared.tool.Tool.TheVariants.{Guard}
use Rattle.tools_top.specs.Tasks.{task_of}
use Rattle.policy_laws.specs.Keeping.{OnlyOpens, OnlyOn}
use Rattle.policy_laws.specs.Roles.{HasRole}
use Rattle.lifetimes.specs.Runs.{Run}
use Rattle.lifetimes.specs.Lives.{Lives, IsSafe}

-- a run behind the guard of a user who has that role in its policy
pub record IsBehindGuard (role : Role) (run : Run) : Type 0 where
  pub guard : guards.Guard
  pub asked : run.asked ≡ Some (task_of (Guard guard))
  pub role_is : HasRole guard.policy.grants guard.user role

-- the file stands for events, and the state that they lead to is within R of that of these
pub record EndsWithin (R : State → State → Type 0) (start : List Event) (end : Disk) : Type 0 where
  pub events : List Event
  pub stands : StandsForEvents end.now events
  pub within : R (played play empty start) (played play empty events)

-- in a life whose runs are all behind guards of users who have that role
abbrev pub LivesWithin : Role → (State → State → Type 0) → Type 0
LivesWithin role R = (disk end : Disk) (start : List Event) (runs : List Run) → IsSafe disk start → Lives disk runs end
    → AllByRecursion (IsBehindGuard role) runs → EndsWithin R start end

-- readers, however many runs they make and wherever these stop, open workspaces and change nothing else
abbrev pub ReadersLives : Type 0
ReadersLives = LivesWithin Reader OnlyOpens

-- and writers of one branch leave all but what concerns the branch
abbrev pub WritersLives : Type 0
WritersLives = (name : List ℕ) → LivesWithin (Writer (Some name)) (OnlyOn name)
