-- Scripts behind the guard of a user.
use Rattle.std.specs.Prelude.{◌≡◌, ℕ, ◌-◌, ◌<◌, ◌^◌, List, [], length}
use Rattle.std.specs.List.{AllByRecursion}
use Rattle.host_port.specs.Cut.{Item}
use Rattle.command_runs.specs.Runs.{Answer, answers, events, played}
use Rattle.op_form.specs.declared.event.Event.{Event}
use Rattle.access_rules.specs.declared.policy.Grant.{Grant}
use Rattle.access_rules.specs.Laws.{AreGrants}
use Rattle.plain_repository.specs.State.{State}
use Rattle.plain_repository.specs.Events.{play}
use Rattle.script_items.specs.Items.{script}
use Rattle.store_session.specs.Tasks.{gated}
use Rattle.tool_requests.specs.Denials.{refusal_by}
use Rattle.tool_requests.specs.Words.{AskFor}
use Rattle.tool_requests.specs.declared.guard.Guard as guards
use Rattle.tool_requests.specs.declared.tool.Tool.TheVariants.{Guard}
use Rattle.tools_top.specs.Tasks.{task_of}

-- what an item is answered, by a policy's grants and the user
abbrev pub guarded : List Grant → List ℕ → State → Item → Answer Event
guarded grants user = gated (refusal_by grants user)

-- what the items of a script are answered
abbrev pub guarded_answers : List Grant → List ℕ → State → List Item → List (Answer Event)
guarded_answers grants user s items = answers (guarded grants user) play s items

-- the state that they lead to
abbrev pub guarded_state : List Grant → List ℕ → State → List Item → State
guarded_state grants user s items = played play s (events (guarded_answers grants user s items))

-- a line of a script: a guard reads lines of fewer than 2^32 - 1 bytes, and no input has a longer one
abbrev pub IsShort : Item → Type 0
IsShort item = length item.line < 2 ^ 32 - 1

abbrev pub AreShort : List Item → Type 0
AreShort items = AllByRecursion IsShort items

-- `emftools guard USER POLICY`: the policy is one that is read, the items of an input are short, and they are answered so
pub record GuardsAnswerSo : Type 0 where
  pub grants : (words : List (List ℕ)) (guard : guards.Guard) → AskFor words (Guard guard) → AreGrants [] guard.policy.grants
  pub short : (input : List ℕ) → AreShort (script input).items
  pub answers_are : (guard : guards.Guard) (s : State) (input : List ℕ)
      → (task_of (Guard guard) s input).answers ≡ guarded_answers guard.policy.grants guard.user s (script input).items
