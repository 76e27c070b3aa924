-- What there is to do for each form of the words.
use Rattle.std.specs.Prelude.{◌≡◌, ℕ, List, Option, refl}
use Rattle.plain_repository.specs.Answers.{is_refusal}
use Rattle.plain_repository.specs.State.{State}
use Rattle.script_items.specs.Items.{script}
use Rattle.script_lang.specs.Reply.{printed}
use Rattle.script_lang.specs.declared.reply.Reply.{Reply}
use Rattle.store_session.specs.Tasks.{Task, gated, serving_by, telling}
use Rattle.feature_writers.specs.Replies.{query_reply, blame_reply}
use Rattle.store_turns.specs.Serving.{serving_turns}
use Rattle.tool_requests.specs.Denials.{refusal_by}
use Rattle.tool_requests.specs.declared.guard.Guard as guards
use Rattle.tool_requests.specs.declared.tool.Tool.{Tool}
use Rattle.tool_requests.specs.declared.tool.Tool.TheVariants.{Query, Blame, Guard, Serve}

-- one reply is printed
abbrev pub replying : Reply → Task
replying reply = telling (printed reply) (is_refusal reply)

-- a guard's refusal of a line
abbrev pub refusal_of : guards.Guard → State → List ℕ → Option (List ℕ)
refusal_of guard s line = refusal_by guard.policy.grants guard.user s line

-- a question is answered by one reply, and behind a guard the script of the input is served, or turns of many users
abbrev pub task_of : Tool → State → List ℕ → Task
task_of (Query spec element class feature) s input = replying (query_reply s spec element class feature)
task_of (Blame spec element) s input = replying (blame_reply s spec element)
task_of (Serve policy) s input = serving_turns policy.grants s input
task_of (Guard guard) s input = serving_by (gated (refusal_of guard)) s (script input)

-- whether the input is read goes by the words alone
pub same_reads : (tool : Tool) (s t : State) (one two : List ℕ) → (task_of tool s one).reads ≡ (task_of tool t two).reads
same_reads (Query spec element class feature) s t one two = refl
same_reads (Blame spec element) s t one two = refl
same_reads (Guard guard) s t one two = refl
same_reads (Serve policy) s t one two = refl
