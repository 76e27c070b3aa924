-- A store that is made again of its script.
use Rattle.std.specs.Prelude.{◌≡◌, ℕ, ◌^◌, ◌<◌, List, true, length}
use Rattle.command_runs.specs.Runs.{events as events_of}
use Rattle.op_form.specs.declared.event.Event.{Event}
use Rattle.plain_repository.specs.State.{empty}
use Rattle.plain_repository.specs.Store.{StandsForEvents}
use Rattle.script_items.specs.Items.{script}
use Rattle.replay_laws.specs.Scripts.{script_again, are_printable}
use Rattle.store_session.specs.Tasks.{Task, serving}
use Rattle.store_session.specs.declared.status.Status.TheVariants.{Accepted}

-- the task makes just these events, and no line of it is refused
pub record Makes (task : Task) (events : List Event) : Type 0 where
  pub made : events_of task.answers ≡ events
  pub accepted : task.end ≡ Accepted

-- Where a script can hold each of the events that a file stands for, their script makes just these events on an empty store. It has
-- fewer than 2^40 bytes, as each script.
abbrev pub StoresAreMadeAgain : Type 0
StoresAreMadeAgain = (file : List ℕ) (events : List Event) → StandsForEvents file events → are_printable empty events ≡ true
    → length (script_again events) < 2 ^ 40 → Makes (serving empty (script (script_again events))) events
