-- Rules of turns, beside those of the table: rule 5, that authors are users, and rule 6, on who makes a branch.
use Rattle.std.specs.Prelude.{ℕ, Bool, true, false, ◌||◌, List, Option, None, Some, if◌then◌else◌}
use Rattle.std.specs.List.{list_any}
use Rattle.finite_maps.specs.Equal.{text_eq}
use Rattle.script_lang.specs.declared.command.Command.{Command}
use Rattle.script_lang.specs.declared.command.Command.TheVariants as commands
use Rattle.access_rules.specs.declared.policy.Role.{Role}
use Rattle.access_rules.specs.declared.policy.Role.TheVariants.{Reader, Writer, Admin}
use Rattle.access_rules.specs.declared.policy.Grant.{Grant}
use Rattle.access_rules.specs.Rule.{role_in, is_admin}

-- rule 5: who signs a version is its author
abbrev pub rule_five : List ℕ → List ℕ → Option ℕ
rule_five user author = if text_eq author user then None else Some 5

-- may the role work on one branch alone
abbrev pub is_of_one_branch : Option Role → Bool
is_of_one_branch (Some Reader) = false
is_of_one_branch (Some (Writer None)) = false
is_of_one_branch (Some (Writer (Some own))) = true
is_of_one_branch (Some Admin) = false
is_of_one_branch None = false

-- is it the name of the branch that a role is for
abbrev pub is_for : List ℕ → Role → Bool
is_for name Reader = false
is_for name (Writer None) = false
is_for name (Writer (Some own)) = text_eq own name
is_for name Admin = false

-- is a role of the policy for the branch of that name
abbrev pub is_granted : List Grant → List ℕ → Bool
is_granted grants name = list_any (λ g. is_for name g.role) grants

-- Rule 6: who may work on one branch alone makes none, so that no workspace is taken off that branch. A branch that a grant names is made
-- by an admin.
abbrev pub rule_six : List Grant → List ℕ → List ℕ → Option ℕ
rule_six grants user name =
    if is_of_one_branch (role_in grants user) then Some 6
    else if is_admin (role_in grants user) then None
    else if is_granted grants name then Some 6
    else None

-- which of these two rules is against a command of the user's
abbrev pub own_rule : List Grant → List ℕ → Command → Option ℕ
own_rule grants user commands.Init = None
own_rule grants user commands.Evolve = None
own_rule grants user (commands.Import ws) = None
own_rule grants user (commands.Load ws) = None
own_rule grants user (commands.Checkout spec) = None
own_rule grants user (commands.Edit ws edit) = None
own_rule grants user (commands.Begin ws name) = None
own_rule grants user (commands.End ws) = None
own_rule grants user (commands.Undo ws) = None
own_rule grants user (commands.Discard ws) = None
own_rule grants user (commands.Tidy ws) = None
own_rule grants user (commands.Apply ws bytes) = None
own_rule grants user (commands.Changes ws) = None
own_rule grants user (commands.Show ws) = None
own_rule grants user (commands.Cat spec) = None
own_rule grants user (commands.Validate ws) = None
own_rule grants user (commands.Commit ws message) = None
own_rule grants user (commands.Signed ws author moment message) = rule_five user author
own_rule grants user (commands.Branch ws name) = rule_six grants user name
own_rule grants user (commands.Tag name spec) = None
own_rule grants user commands.Log = None
own_rule grants user (commands.Package spec) = None
own_rule grants user (commands.Update ws choices) = None
own_rule grants user (commands.Merge ws branch choices) = None
own_rule grants user (commands.Revert ws version) = None
own_rule grants user (commands.Drop ws) = None
own_rule grants user commands.Upgrade = None
