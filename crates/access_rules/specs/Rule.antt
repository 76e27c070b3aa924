-- Which rule forbids a command to a user, if one does.
use Rattle.std.specs.Prelude.{ℕ, Bool, true, false, not, ◌&&◌, List, Option, None, Some, is_some, if◌then◌else◌}
use Rattle.std.specs.List.{find}
use Rattle.std.specs.Option.{option_map}
use Rattle.finite_maps.specs.Equal.{text_eq}
use Rattle.script_lang.specs.declared.command.Command.{Command}
use Rattle.command_facts.specs.Facts.{facts}
use Rattle.command_facts.specs.declared.table.CommandKind.{CommandKind}
use Rattle.command_facts.specs.declared.table.CommandKind.TheVariants.{Looks, Works, Keeps}
use Rattle.access_rules.specs.declared.policy.Role.{Role}
use Rattle.access_rules.specs.declared.policy.Role.TheVariants.{Reader, Writer, Admin}
use Rattle.access_rules.specs.declared.policy.Grant.{Grant}
use Rattle.access_rules.specs.declared.access.Access.{Access}
use Rattle.access_rules.specs.declared.access.Access.TheVariants.{Pass, Denied}

-- what a command is for
abbrev pub command_kind : Command → CommandKind
command_kind command = (facts command).kind

-- the number of the workspace that a command names, if it names one
abbrev pub workspace_in : Command → Option ℕ
workspace_in command = (facts command).workspace

-- does it change a workspace, or make a version or a branch of it
abbrev pub is_work : CommandKind → Bool
is_work Looks = false
is_work Works = true
is_work Keeps = false

-- does it change what all workspaces have in common
abbrev pub is_keeping : CommandKind → Bool
is_keeping Looks = false
is_keeping Works = false
is_keeping Keeps = true

-- the role of a user, who may have none
abbrev pub role_in : List Grant → List ℕ → Option Role
role_in grants user = option_map (λ g. g.role) (find (λ g. text_eq g.user user) grants)

-- is it a reader's
abbrev pub is_reader : Option Role → Bool
is_reader (Some Reader) = true
is_reader (Some (Writer branch)) = false
is_reader (Some Admin) = false
is_reader None = false

-- is it an admin's
abbrev pub is_admin : Option Role → Bool
is_admin (Some Reader) = false
is_admin (Some (Writer branch)) = false
is_admin (Some Admin) = true
is_admin None = false

-- a branch is named, and it isn't that one
abbrev pub is_other : List ℕ → Option (List ℕ) → Bool
is_other own None = false
is_other own (Some branch) = not (text_eq own branch)

-- is it a writer's on one branch alone, and is that another
abbrev pub is_elsewhere : Option Role → Option (List ℕ) → Bool
is_elsewhere (Some Reader) branch = false
is_elsewhere (Some (Writer None)) branch = false
is_elsewhere (Some (Writer (Some own))) branch = is_other own branch
is_elsewhere (Some Admin) branch = false
is_elsewhere None branch = false

-- the first rule that applies
abbrev pub rule_of : Option Role → CommandKind → Option (List ℕ) → Option ℕ
rule_of role kind branch =
    if not (is_some role) then Some 0
    else if is_reader role && is_work kind then Some 2
    else if not (is_admin role) && is_keeping kind then Some 3
    else if is_elsewhere role branch && is_work kind then Some 4
    else None

-- The rule that forbids the user the command, if one does. The branch is that of the command's workspace, where it names one that
-- is there.
abbrev pub rule : List Grant → List ℕ → Command → Option (List ℕ) → Option ℕ
rule grants user command branch = rule_of (role_in grants user) (command_kind command) branch

-- the rule that an answer names
abbrev pub denied : Access → Option ℕ
denied Pass = None
denied (Denied n) = Some n
