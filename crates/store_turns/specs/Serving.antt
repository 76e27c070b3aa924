-- Turns of many users are served, over one store.
use Rattle.std.specs.Prelude.{ℕ, Bool, true, false, List, [], ◌∷◌, ◌++◌, codes, Option, None, Some}
use Rattle.std.specs.Fmt.{decimal}
use Rattle.host_port.specs.declared.lines.LineFault.{LineFault}
use Rattle.host_port.specs.declared.lines.LineFault.TheVariants as lines
use Rattle.command_runs.specs.Runs.{Answer, refuses}
use Rattle.op_form.specs.declared.event.Event.{Event}
use Rattle.access_rules.specs.declared.policy.Grant.{Grant}
use Rattle.plain_repository.specs.State.{State}
use Rattle.plain_repository.specs.Events.{play}
use Rattle.script_items.specs.Items.{script}
use Rattle.tool_requests.specs.Turns.{turn_refusal}
use Rattle.turn_frames.specs.declared.fault.TurnFault.{TurnFault}
use Rattle.turn_frames.specs.declared.fault.TurnFault.TheVariants as turns
use Rattle.turn_frames.specs.Turns.{turns_of}
use Rattle.turn_frames.specs.Runs.{Manner, turns_answers}
use Rattle.store_session.specs.declared.status.Status.{Status}
use Rattle.store_session.specs.declared.status.Status.TheVariants.{Accepted, Refused, BadWords, ReadFault, WriteFault, DiskFault, Damaged, Memory, Input}
use Rattle.store_session.specs.Tasks.{Task, gated, input_status, end_of, serving_by, telling_one}

-- what is said of a turn whose script ends so: the fault of its input, with its number and its place from the turn's first byte
abbrev pub fault_line : Status → List ℕ
fault_line (Input fault at) = codes "no 44 BadFrame " ++ (decimal fault ++ (codes " " ++ (decimal at ++ 10 ∷ [])))
fault_line Accepted = []
fault_line Refused = []
fault_line BadWords = []
fault_line ReadFault = []
fault_line WriteFault = []
fault_line DiskFault = []
fault_line (Damaged at) = []
fault_line Memory = []

-- the same as an answer: a refusal
abbrev pub said_of : LineFault → Answer Event
said_of fault = telling_one (fault_line (input_status fault)) true

-- is a fault one of the script, and not of what hands it over
abbrev pub is_of_script : LineFault → Bool
is_of_script (lines.LineTooLong at) = true
is_of_script (lines.BlockTooLong at) = true
is_of_script (lines.NotText at) = true
is_of_script (lines.UnendedBlock at) = true
is_of_script (lines.InputTooLong at) = true
is_of_script lines.Failed = false
is_of_script lines.Memory = false

-- how turns are answered: each by a guard of its user's, and a fault of its script by a refusal
abbrev pub manner : List Grant → Manner State Event
manner grants = record { rule = λ user. gated (turn_refusal grants user); play = play; script = script; said = said_of }

-- the status of a fault of the frames themselves
abbrev pub turn_status : TurnFault → Status
turn_status (turns.NotFrame at) = Input 6 at
turn_status (turns.InputTooLong at) = Input 5 at
turn_status turns.Failed = ReadFault
turn_status turns.Memory = Memory

-- the status of turns that are served to their end
abbrev pub end_by : Option TurnFault → Bool → Status
end_by (Some fault) refused = turn_status fault
end_by None refused = end_of None refused

-- the turns of an input are served
abbrev pub serving_turns : List Grant → State → List ℕ → Task
serving_turns grants s input = record {
  answers = turns_answers (manner grants) s (turns_of input).turns;
  end = end_by (turns_of input).fault (refuses (turns_answers (manner grants) s (turns_of input).turns));
  reads = true;
}

-- the run of a script of one user: behind a guard, and behind rules 5 and 6
abbrev pub guarded : List Grant → List ℕ → State → List ℕ → Task
guarded grants user s bytes = serving_by (gated (turn_refusal grants user)) s (script bytes)
