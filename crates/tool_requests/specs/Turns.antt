-- Which lines of a turn are refused to its user: those that a guard refuses, and those that rules 5 and 6 are against.
use Rattle.std.specs.Prelude.{ℕ, List, option_map, Option, None, Some}
use Rattle.std.specs.Option.{option_and_then}
use Rattle.access_rules.specs.declared.policy.Grant.{Grant}
use Rattle.access_rules.specs.Rule.{rule}
use Rattle.access_rules.specs.Turns.{own_rule}
use Rattle.plain_repository.specs.State.{State}
use Rattle.tool_requests.specs.Words.{command_in}
use Rattle.tool_requests.specs.Denials.{branch_at, denial}

-- the first of two rules, of which one or none may be against a command
abbrev pub first_of : Option ℕ → Option ℕ → Option ℕ
first_of (Some n) other = Some n
first_of None other = other

-- the first rule that is against a line of the user's in a turn; none is against one that spells no command
abbrev pub turn_rule : List Grant → List ℕ → State → List ℕ → Option ℕ
turn_rule grants user s line =
    option_and_then (λ command. first_of (rule grants user command (branch_at s command)) (own_rule grants user command)) (command_in line)

-- the reply that refuses a line of the user's in a turn, where a rule is against it
abbrev pub turn_refusal : List Grant → List ℕ → State → List ℕ → Option (List ℕ)
turn_refusal grants user s line = option_map denial (turn_rule grants user s line)

-- which of rules 5 and 6 is against a line of the user's
abbrev pub own_rule_in : List Grant → List ℕ → List ℕ → Option ℕ
own_rule_in grants user line = option_and_then (own_rule grants user) (command_in line)
