-- The working model that a command needs.
use Rattle.std.specs.Prelude.{◌≡◌, ℕ, Bool, true, false, List, Option, Some, None, option_map, if◌then◌else◌}
use Rattle.std.specs.Option.{option_map_or}
use Rattle.script_lang.specs.declared.command.Command.{Command}
use Rattle.script_lang.specs.declared.command.Command.TheVariants as commands
use Rattle.command_facts.specs.Facts.{facts, model_needed}
use Rattle.plain_repository.specs.State.{State, Workspace, model_of, workspace_of}
use Rattle.plain_repository.specs.Edits.{takes}
use Rattle.ecore_meta.specs.Meta.{Meta}
use Rattle.model_state.specs.Packages.{steps_all}
use Rattle.model_state.specs.State as models
use Rattle.model_state.specs.Steps.{first_stop}
use Rattle.model_state.specs.declared.operation.Operation.{Operation}
use Rattle.edits.specs.FreshIds.{fresh_id}
use Rattle.edits.specs.declared.edit.Edit.{Edit}
use Rattle.edits.specs.declared.edit.Edit.TheVariants.{Create, Delete, Set, Unset, Add, Remove, Shift, Link, Unlink, Reorder, Move}
use Rattle.repo_state.specs.Working.{IsWorkingModel}

-- the workspace whose working model a command needs
abbrev pub model_for : Command → Option ℕ
model_for command = model_needed (facts command).needs (facts command).workspace

-- the model is the one that a command needs
abbrev pub IsModelFor : State → Command → models.State → Type 0
IsModelFor s command m = (ws : ℕ) → model_for command ≡ Some ws → IsWorkingModel s ws m

-- the command needs no model, or that of no workspace that is there
abbrev pub NeedsNone : State → Command → Type 0
NeedsNone s command = (ws : ℕ) → model_for command ≡ Some ws → workspace_of s ws ≡ None

-- the edit creates an element without an id
abbrev pub is_without_id : Edit → Bool
is_without_id (Create class destination None) = true
is_without_id (Create class destination (Some id)) = false
is_without_id (Delete e) = false
is_without_id (Set e feature value) = false
is_without_id (Unset e feature) = false
is_without_id (Add e feature at value) = false
is_without_id (Remove e feature index) = false
is_without_id (Shift e feature from to) = false
is_without_id (Link e feature target index) = false
is_without_id (Unlink e feature target) = false
is_without_id (Reorder e feature target index) = false
is_without_id (Move e destination index) = false

-- its workspace, if it does
abbrev pub workspace_without_id : Option (ℕ × Edit) → Option ℕ
workspace_without_id None = None
workspace_without_id (Some edit) = if is_without_id edit.1 then Some edit.0 else None

-- the workspace of a creation without an id
abbrev pub creation_without_id : Command → Option ℕ
creation_without_id command = workspace_without_id (facts command).edit

-- the edit, in which a creation has this id
abbrev pub edit_given : List ℕ → Edit → Edit
edit_given id (Create class destination old) = Create class destination (Some id)
edit_given id (Delete e) = Delete e
edit_given id (Set e feature value) = Set e feature value
edit_given id (Unset e feature) = Unset e feature
edit_given id (Add e feature at value) = Add e feature at value
edit_given id (Remove e feature index) = Remove e feature index
edit_given id (Shift e feature from to) = Shift e feature from to
edit_given id (Link e feature target index) = Link e feature target index
edit_given id (Unlink e feature target) = Unlink e feature target
edit_given id (Reorder e feature target index) = Reorder e feature target index
edit_given id (Move e destination index) = Move e destination index

-- the command, in which a creation has this id
abbrev pub given_id : List ℕ → Command → Command
given_id id command = option_map_or (λ edit. commands.Edit edit.0 (edit_given id edit.1)) (facts command).edit command

-- the command, in which a creation without an id has the fresh one
abbrev pub with_id : models.State → Command → Command
with_id m command = elim (creation_without_id command) [ Some ws ↦ given_id (fresh_id m ws) command | None ↦ command ]

-- the number of the first step of the operations that can't be taken on the working model of the workspace of that number
abbrev pub IsStop : State → ℕ → List Operation → Option ℕ → Type 0
IsStop s ws operations found = (meta : Meta) (w : Workspace) → s.meta ≡ Some meta → workspace_of s ws ≡ Some w
    → found ≡ option_map (λ stop. stop.at) (first_stop meta (model_of meta s.history w) (steps_all operations))

-- the workspace is there, and takes the operations: while a composite is open it takes one
abbrev pub takes_in : Option Workspace → List Operation → Bool
takes_in None operations = false
takes_in (Some w) operations = takes w.composite operations
