-- What a guard refuses.
use Rattle.std.specs.Prelude.{ℕ, List, [], option_map, Option}
use Rattle.std.specs.Option.{option_and_then}
use Rattle.history_tree.specs.Found.{branch_name}
use Rattle.script_lang.specs.declared.command.Command.{Command}
use Rattle.script_lang.specs.declared.reply.Refusal.TheVariants as refusals
use Rattle.script_lang.specs.declared.reply.Last.TheVariants as last
use Rattle.script_lang.specs.Reply.{printed}
use Rattle.access_rules.specs.declared.policy.Grant.{Grant}
use Rattle.access_rules.specs.Rule.{rule, workspace_in}
use Rattle.plain_repository.specs.State.{State, workspace_of}
use Rattle.tool_requests.specs.Words.{command_in}

-- the name of the branch of the workspace that the command names, where that is there
abbrev pub branch_at : State → Command → Option (List ℕ)
branch_at s command = option_map (λ w. branch_name s.history w.branch) (option_and_then (workspace_of s) (workspace_in command))

-- the first rule that is against a line of the user's; none is against one that spells no command
abbrev pub rule_against : List Grant → List ℕ → State → List ℕ → Option ℕ
rule_against grants user s line = option_and_then (λ command. rule grants user command (branch_at s command)) (command_in line)

-- the reply that names the rule
abbrev pub denial : ℕ → List ℕ
denial n = printed (record { lines = []; last = last.No (refusals.Denied n) })

-- the reply that refuses a line of the user's, where a rule is against it
abbrev pub refusal_by : List Grant → List ℕ → State → List ℕ → Option (List ℕ)
refusal_by grants user s line = option_map denial (rule_against grants user s line)
