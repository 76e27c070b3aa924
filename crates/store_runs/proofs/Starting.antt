-- A store that is open, before anything is answered.
use Rattle.std.proofs.Common.{◌≡◌, ◌∙◌, ℕ, List, [], ◌++◌, ap}
use Rattle.host_port.specs.Host.{Told, disk_now}
use Rattle.host_port.specs.Cut.{Item, script_from}
use Rattle.host_port.proofs.Course.{still_disk}
use Rattle.command_runs.specs.Runs.{Answer}
use Rattle.command_runs.proofs.Going.{Going, begins}
use Rattle.op_form.specs.declared.event.Event.{Event}
use Rattle.plain_repository.specs.Lines.{takes_block}
use Rattle.plain_repository.specs.State.{State}
use Rattle.plain_repository.specs.Store.{StandsForEvents}
use Rattle.script_items.specs.Items.{script}
use Rattle.store_session.specs.Session.{IsStoreOf}
use Rattle.store_session.proofs.Entering.{rest_leaves}
use Rattle.store_session.specs.declared.status.Status.TheVariants.{Memory}
use Rattle.store_session.specs.Endings.{IsDone}
use Rattle.store_session.specs.Tasks.{Task, serving_by}
use Rattle.store_runs.proofs.Halting.{halted}

-- a reader that begins reads the input's script
pub from_start : (rule : State → Item → Answer Event) (s : State) (input : List ℕ) (offset : ℕ) (pending : List ℕ) → offset ≡ 0 → pending ≡ []
    → serving_by rule s (script_from takes_block offset (pending ++ input)) ≡ serving_by rule s (script input)
from_start rule s input offset pending offset_is pending_is =
    ap (λ (n : ℕ). serving_by rule s (script_from takes_block n (pending ++ input))) offset_is
    ∙ ap (λ (l : List ℕ). serving_by rule s (script_from takes_block 0 (l ++ input))) pending_is

module _ (a : Told) (state : State) (task : Task) (made : List Event) (holds : IsStoreOf (disk_now a) state made) where
  pub at_start : Going StandsForEvents a a made task.answers task.answers (λ events. IsStoreOf (disk_now a) state events)
  at_start = begins StandsForEvents a made task.answers (λ events. IsStoreOf (disk_now a) state events) (λ rest. rest_leaves (disk_now a) state made rest) holds

  -- memory runs out there
  pub nothing_done : IsDone task made a a Memory
  nothing_done = record {
    ends = λ told. halted a a made task task.answers state at_start;
    part = at_start.part;
    moments = at_start.moments;
    still =
        λ none. still_disk a;
  }
