-- What many users' turns over one process come to: their runs behind guards, one after the other.
use Rattle.std.specs.Prelude.{◌≡◌, ◌≢◌, ◌⊎◌, ℕ, ◌≤◌, Bool, true, false, ◌||◌, List, [], ◌∷◌, ◌++◌, All, length, option_map, Option, None, Some}
use Rattle.host_port.specs.Cut.{Item}
use Rattle.host_port.specs.Limits.{input_limit}
use Rattle.command_runs.specs.Runs.{events, played, replies}
use Rattle.op_form.specs.declared.event.Event.{Event}
use Rattle.script_lang.specs.declared.command.Command.{Command}
use Rattle.script_lang.specs.declared.command.Command.TheVariants as commands
use Rattle.access_rules.specs.declared.policy.Role.TheVariants.{Writer, Admin}
use Rattle.access_rules.specs.declared.policy.Grant.{Grant}
use Rattle.access_rules.specs.Rule.{role_in}
use Rattle.access_rules.specs.Turns.{is_granted, own_rule}
use Rattle.plain_repository.specs.State.{State}
use Rattle.plain_repository.specs.Events.{play}
use Rattle.script_items.specs.Items.{script}
use Rattle.tool_requests.specs.Words.{command_in}
use Rattle.tool_requests.specs.Denials.{refusal_by, denial}
use Rattle.tool_requests.specs.Turns.{own_rule_in, turn_refusal}
use Rattle.turn_frames.specs.Turns.{Turn, IsTurn, frames, turns_of}
use Rattle.store_session.specs.declared.status.Status.{Status}
use Rattle.store_session.specs.declared.status.Status.TheVariants.{Accepted, Refused, BadWords, ReadFault, WriteFault, DiskFault, Damaged, Memory, Input}
use Rattle.store_session.specs.Tasks.{Task, gated, end_of, serving_by}
use Rattle.store_turns.specs.Serving.{fault_line, end_by, guarded, serving_turns}

-- what is printed of a turn's run: its replies, what is said of the fault of its script, and an empty line
abbrev pub turn_text : Task → List ℕ
turn_text run = replies run.answers ++ (fault_line run.end ++ 10 ∷ [])

-- does a run end otherwise than with all accepted
abbrev pub is_spoiled : Status → Bool
is_spoiled Accepted = false
is_spoiled Refused = true
is_spoiled BadWords = true
is_spoiled ReadFault = true
is_spoiled WriteFault = true
is_spoiled DiskFault = true
is_spoiled (Damaged at) = true
is_spoiled Memory = true
is_spoiled (Input fault at) = true

-- the run of a turn
abbrev pub run_of : List Grant → State → Turn → Task
run_of grants s turn = guarded grants turn.user s turn.bytes

-- the state that it leaves
abbrev pub left_by : List Grant → State → Turn → State
left_by grants s turn = played play s (events (run_of grants s turn).answers)

-- what the runs of turns print, each on the state that the one before left
abbrev pub texts_of : List Grant → State → List Turn → List ℕ
texts_of grants s [] = []
texts_of grants s (turn ∷ turns) = turn_text (run_of grants s turn) ++ texts_of grants (left_by grants s turn) turns

-- the events that they make
abbrev pub events_of : List Grant → State → List Turn → List Event
events_of grants s [] = []
events_of grants s (turn ∷ turns) = events (run_of grants s turn).answers ++ events_of grants (left_by grants s turn) turns

-- does one of them end otherwise than with all accepted
abbrev pub one_is_spoiled : List Grant → State → List Turn → Bool
one_is_spoiled grants s [] = false
one_is_spoiled grants s (turn ∷ turns) = is_spoiled (run_of grants s turn).end || one_is_spoiled grants (left_by grants s turn) turns

-- a task prints what the runs of turns print, one after the other, makes their events, and ends so
pub record AreRuns (grants : List Grant) (s : State) (turns : List Turn) (task : Task) (end : Bool → Status) : Type 0 where
  pub text : replies task.answers ≡ texts_of grants s turns
  pub events_are : events task.answers ≡ events_of grants s turns
  pub end_is : task.end ≡ end (one_is_spoiled grants s turns)

-- turns that come as frames are served as their runs, one after the other
abbrev pub TurnsAreRuns : Type 0
TurnsAreRuns = (grants : List Grant) (s : State) (turns : List Turn) → All IsTurn turns → length (frames turns) ≤ input_limit
    → AreRuns grants s turns (serving_turns grants s (frames turns)) (end_of None)

-- so is any input, up to where no frame begins
abbrev pub InputsAreRuns : Type 0
InputsAreRuns = (grants : List Grant) (s : State) (input : List ℕ)
    → AreRuns grants s (turns_of input).turns (serving_turns grants s input) (end_by (turns_of input).fault)

-- what a guard refuses is refused by the guard's reply, and nothing else is but by rules 5 and 6
pub record RefusesMore (grants : List Grant) (user : List ℕ) (s : State) (line : List ℕ) : Type 0 where
  pub guard : (reply : List ℕ) → refusal_by grants user s line ≡ Some reply → turn_refusal grants user s line ≡ Some reply
  pub own : refusal_by grants user s line ≡ None → turn_refusal grants user s line ≡ option_map denial (own_rule_in grants user line)

-- this holds of each line
abbrev pub GuardsRefuseFirst : Type 0
GuardsRefuseFirst = (grants : List Grant) (user : List ℕ) (s : State) (line : List ℕ) → RefusesMore grants user s line

-- the run of a script to which neither rule 5 nor rule 6 is against is the run of `guard` over it
abbrev pub RunsAreGuards : Type 0
RunsAreGuards = (grants : List Grant) (user : List ℕ) (s : State) (bytes : List ℕ)
    → All (λ item. own_rule_in grants user item.line ≡ None) (script bytes).items
    → guarded grants user s bytes ≡ serving_by (gated (refusal_by grants user)) s (script bytes)

-- a line that is refused makes no event
abbrev pub DeniedMakeNone : Type 0
DeniedMakeNone = (grants : List Grant) (user : List ℕ) (s : State) (item : Item) (reply : List ℕ) → turn_refusal grants user s item.line ≡ Some reply
    → (gated (turn_refusal grants user) s item).event ≡ None

-- rule 5: who signs a version in a turn is its user
abbrev pub AuthorsAreUsers : Type 0
AuthorsAreUsers = (grants : List Grant) (user : List ℕ) (s : State) (line : List ℕ) (ws : ℕ) (author : List ℕ) (moment : ℕ) (message : Option (List ℕ))
    → command_in line ≡ Some (commands.Signed ws author moment message) → turn_refusal grants user s line ≡ None → author ≡ user

-- who may make a branch of that name: an admin, and a writer of all branches where no grant is for it
abbrev pub MayBranch : List Grant → List ℕ → List ℕ → Type 0
MayBranch grants user name = (role_in grants user ≡ Some Admin) ⊎ ((role_in grants user ≡ Some (Writer None)) × (is_granted grants name ≡ false))

-- rule 6: who makes a branch in a turn may make it
abbrev pub BranchersMay : Type 0
BranchersMay = (grants : List Grant) (user : List ℕ) (s : State) (line : List ℕ) (ws : ℕ) (name : List ℕ) → command_in line ≡ Some (commands.Branch ws name)
    → turn_refusal grants user s line ≡ None → MayBranch grants user name

-- neither rule is against another command
abbrev pub OthersPass : Type 0
OthersPass = (grants : List Grant) (user : List ℕ) (command : Command) (n : ℕ) → own_rule grants user command ≡ Some n
    → ((n ≡ 5) × (ws : ℕ) × (author : List ℕ) × (moment : ℕ) × (message : Option (List ℕ)) × (command ≡ commands.Signed ws author moment message) ×
    (author ≢ user))
    ⊎ ((n ≡ 6) × (ws : ℕ) × (name : List ℕ) × (command ≡ commands.Branch ws name) × (role_in grants user ≢ Some Admin))
