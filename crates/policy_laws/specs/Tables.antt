-- What the event of a command is, by the two tables of commands.
use Rattle.std.specs.Prelude.{◌≡◌, ℕ, List, true, Option, None, Some}
use Rattle.script_lang.specs.declared.command.Command.{Command}
use Rattle.op_form.specs.declared.event.Event.{Event}
use Rattle.op_form.specs.declared.event.Event.TheVariants.{Checkout}
use Rattle.command_facts.specs.declared.table.CommandKind.{CommandKind}
use Rattle.command_facts.specs.declared.table.CommandKind.TheVariants.{Looks, Works, Keeps}
use Rattle.access_rules.specs.Rule.{command_kind, workspace_in}
use Rattle.plain_repository.specs.State.{State, Workspace, workspace_of}
use Rattle.plain_repository.specs.Events.{is_of}
use Rattle.plain_repository.specs.Repository.{decide_command}

-- a workspace is opened
pub record IsCheckout (event : Event) : Type 0 where
  pub version : ℕ
  pub branch : ℕ
  pub is : event ≡ Checkout version branch

-- the event is one of that workspace, which is there
pub record IsWorkIn (s : State) (ws : ℕ) (event : Event) : Type 0 where
  pub of : is_of ws event ≡ true
  pub workspace : Workspace
  pub there : workspace_of s ws ≡ Some workspace

-- what the event of a command is, by the kind of the command and the workspace that it names
abbrev pub IsOfKind : CommandKind → Option ℕ → State → Event → Type 0
IsOfKind Looks named s event = IsCheckout event
IsOfKind Works None s event = ⊥
IsOfKind Works (Some ws) s event = IsWorkIn s ws event
IsOfKind Keeps named s event = Unit {0}

-- both tables are right, whatever the state is
abbrev pub TablesAreRight : Type 0
TablesAreRight = (s : State) (block : Option (List ℕ)) (command : Command) (event : Event) → (decide_command s block command).event ≡ Some event
    → IsOfKind (command_kind command) (workspace_in command) s event
