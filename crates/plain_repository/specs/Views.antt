-- What is shown and changes nothing: the commands `changes`, `show`, `validate`, `cat`, `package` and `log`.
use Rattle.std.specs.Prelude.{ℕ, List, [], ◌∷◌, ◌++◌, Option, Some, None, Result, Ok, Err, if◌then◌else◌}
use Rattle.ecore_meta.specs.Meta.{Meta}
use Rattle.model_state.specs.declared.operation.Operation.{Operation}
use Rattle.history_tree.specs.declared.found.Found.{Found}
use Rattle.history_tree.specs.declared.found.FindFault.{FindFault}
use Rattle.history_tree.specs.History.{History}
use Rattle.history_tree.specs.States.{state_of, package_of_version}
use Rattle.op_form.specs.Formed.{is_package}
use Rattle.model_texts.specs.Tree.{text}
use Rattle.shown_lines.specs.Lines.{operation_lines, open_lines}
use Rattle.shown_lines.specs.Validation.{validate_lines}
use Rattle.shown_lines.specs.Versions.{log_lines, package_lines}
use Rattle.script_lang.specs.declared.command.Spec.{Spec}
use Rattle.script_lang.specs.declared.reply.Refusal.TheVariants as refusals
use Rattle.plain_repository.specs.State.{State, Workspace, Composite, workspace_of, model_of}
use Rattle.plain_repository.specs.Answers.{Decision, refused, told}
use Rattle.plain_repository.specs.Specs.{found_by_spec, unknown}

-- the lines of the open composite, none where none is open
abbrev pub lines_of_open : Meta → Option Composite → List (List ℕ)
lines_of_open meta None = []
lines_of_open meta (Some composite) = open_lines meta composite.name composite.steps

-- the lines of a workspace
abbrev pub changes_in : Meta → Option Workspace → Decision
changes_in meta None = refused refusals.NoWorkspace
changes_in meta (Some w) = told (operation_lines meta w.operations ++ lines_of_open meta w.composite) []

-- `changes WS`: the operations and the open composite, line by line
unfoldable pub decide_changes : State → Meta → ℕ → Decision
decide_changes s meta ws = changes_in meta (workspace_of s ws)

-- the text of its working model
abbrev pub show_in : Meta → History → Option Workspace → Decision
show_in meta h None = refused refusals.NoWorkspace
show_in meta h (Some w) = told (text meta (model_of meta h w) ∷ []) []

-- `show WS`: the text of the working model
unfoldable pub decide_show : State → Meta → ℕ → Decision
decide_show s meta ws = show_in meta s.history (workspace_of s ws)

-- the lines of what its working model lacks
abbrev pub validate_in : Meta → History → Option Workspace → Decision
validate_in meta h None = refused refusals.NoWorkspace
validate_in meta h (Some w) = told (validate_lines meta (model_of meta h w)) []

-- `validate WS`: the features of the working model that are below their lower bounds
unfoldable pub decide_validate : State → Meta → ℕ → Decision
decide_validate s meta ws = validate_in meta s.history (workspace_of s ws)

-- the text of the version that was found
abbrev pub cat_found : Meta → History → Result Found FindFault → Decision
cat_found meta h (Err fault) = refused (unknown fault)
cat_found meta h (Ok found) = told (text meta (state_of meta h found.version) ∷ []) []

-- `cat SPEC`: the text of the version
unfoldable pub decide_cat : State → Meta → Spec → Decision
decide_cat s meta spec = cat_found meta s.history (found_by_spec s.history spec)

-- the lines of operations, where they have an encoding
abbrev pub package_told : Meta → List Operation → Decision
package_told meta operations = if is_package operations then told (package_lines meta operations) [] else refused refusals.TooLarge

-- the lines of the package of the version that was found
abbrev pub package_found : Meta → History → Result Found FindFault → Decision
package_found meta h (Err fault) = refused (unknown fault)
package_found meta h (Ok found) = package_told meta (package_of_version h.versions found.version)

-- `package SPEC`: the operations of the version, and their bytes
unfoldable pub decide_package : State → Meta → Spec → Decision
decide_package s meta spec = package_found meta s.history (found_by_spec s.history spec)

-- `log`: the versions
unfoldable pub decide_log : State → Decision
decide_log s = told (log_lines s.history) []
