-- What a run over a store has to do.
use Rattle.std.specs.Prelude.{ℕ, List, [], ◌∷◌, Bool, true, false, Option, Some, None, if◌then◌else◌}
use Rattle.host_port.specs.Cut.{Item, Script}
use Rattle.host_port.specs.declared.lines.LineFault.{LineFault}
use Rattle.host_port.specs.declared.lines.LineFault.TheVariants as faults
use Rattle.command_runs.specs.Runs.{Answer, answers, refuses}
use Rattle.op_form.specs.declared.event.Event.{Event}
use Rattle.plain_repository.specs.Lines.{is_skipped}
use Rattle.plain_repository.specs.State.{State}
use Rattle.plain_repository.specs.Events.{play}
use Rattle.plain_repository.specs.Repository.{decide}
use Rattle.store_session.specs.declared.status.Status.{Status}
use Rattle.store_session.specs.declared.status.Status.TheVariants.{Accepted, Refused, ReadFault, Memory, Input}

-- What a run has to do: the answers that it gives, one after the other, each printed once its event is kept. Then how it ends
-- where nothing fails, and whether it reads its input.
pub record Task : Type 0 where
  pub answers : List (Answer Event)
  pub end : Status
  pub reads : Bool

-- ---- a script
-- the status of a fault of the input
abbrev pub input_status : LineFault → Status
input_status (faults.LineTooLong at) = Input 1 at
input_status (faults.BlockTooLong at) = Input 2 at
input_status (faults.NotText at) = Input 3 at
input_status (faults.UnendedBlock at) = Input 4 at
input_status (faults.InputTooLong at) = Input 5 at
input_status faults.Failed = ReadFault
input_status faults.Memory = Memory

-- the status of a script that is served to its end
abbrev pub end_of : Option LineFault → Bool → Status
end_of (Some fault) refused = input_status fault
end_of None true = Refused
end_of None false = Accepted

-- a script is served: each of its items is answered, by this rule
abbrev pub serving_by : (State → Item → Answer Event) → State → Script → Task
serving_by rule s commands =
    record { answers = answers rule play s commands.items; end = end_of commands.fault (refuses (answers rule play s commands.items)); reads = true }

-- a script is served: each of its items is answered
abbrev pub serving : State → Script → Task
serving s commands = serving_by decide s commands

-- ---- lines that are printed
-- what is printed, as a refusal or not, and no event
abbrev pub telling_one : List ℕ → Bool → Answer Event
telling_one reply refused = record { reply = reply; refused = refused; event = None }

-- a line that is printed, and no event
abbrev pub printing : List ℕ → Answer Event
printing line = telling_one line false

-- one reply is printed, as a refusal or not, and the input stays unread
abbrev pub telling : List ℕ → Bool → Task
telling reply refused = record { answers = telling_one reply refused ∷ []; end = end_of None refused; reads = false }

-- ---- a gate
-- an item that gets a reply is refused with this one, or answered as ever
abbrev pub gated_by : State → Item → Option (List ℕ) → Answer Event
gated_by s item None = decide s item
gated_by s item (Some reply) = if is_skipped item.line then telling_one [] false else telling_one reply true

-- a gate's refusal of an item's line comes before all else, and makes no event; what it does not refuse is answered as ever
abbrev pub gated : (State → List ℕ → Option (List ℕ)) → State → Item → Answer Event
gated refusal s item = gated_by s item (refusal s item.line)
