-- A workspace in memory, and the model that it may keep beside what is recorded in it.
use Rattle.std.specs.Prelude.{◌≡◌, ℕ, Bool, true, false, List, All, Option, Some, None, get_or, is_some}
use Rattle.std.specs.List.{Contains}
use Rattle.std.specs.Option.{option_map}
use Rattle.ecore_meta.specs.Meta.{Meta}
use Rattle.model_state.specs.Good.{Good}
use Rattle.history_tree.specs.History.{History, no_history}
use Rattle.plain_repository.specs.State.{folded}
use Rattle.plain_repository.specs.State as plain
use Rattle.repo_state.specs.declared.repo.Begun.{Begun}
use Rattle.repo_state.specs.declared.workspace.Composite.{Composite}
use Rattle.repo_state.specs.declared.workspace.Workspace.{Workspace}
use Rattle.model_state.specs.State as models

-- an open composite as the plain repository has it
abbrev pub plain_composite : Composite → plain.Composite
plain_composite c = record { name = c.name; steps = c.steps.items }

-- a workspace as the plain repository has it, without its model
abbrev pub plain_of : Workspace → plain.Workspace
plain_of w = record {
  branch = w.branch;
  base = w.base;
  operations = w.operations.items;
  composite = option_map plain_composite w.composite;
  pending =
      w.pending;
}

-- the same, where the workspace is there
abbrev pub plain_any : Option Workspace → Option plain.Workspace
plain_any w = option_map plain_of w

-- the model that is kept, where one is, is the working model, and good
abbrev pub ModelFits : Meta → History → Workspace → Type 0
ModelFits meta h w = (m : models.State) → w.model ≡ Some m → (folded meta h (plain_of w) ≡ Some m) × Good meta m

-- so it is, where the workspace is there
abbrev pub FitsAny : Meta → History → Option Workspace → Type 0
FitsAny meta h None = Unit {0}
FitsAny meta h (Some w) = ModelFits meta h w

-- the metamodel, where there is one
abbrev pub meta_of : Option Begun → Option Meta
meta_of None = None
meta_of (Some begun) = Some begun.meta

-- the history, which has no version before there is a metamodel
abbrev pub history_of : Option Begun → History
history_of None = no_history
history_of (Some begun) = begun.history.history

-- whether each new version is signed
abbrev pub upgraded_of : Option Begun → Bool
upgraded_of None = false
upgraded_of (Some begun) = begun.upgraded

-- each model that is kept is its workspace's
abbrev pub AllFit : Option Begun → List (Option Workspace) → Type 0
AllFit None workspaces = Unit {0}
AllFit (Some begun) workspaces = All (FitsAny begun.meta begun.history.history) workspaces

-- a workspace is there, and keeps its model
abbrev pub keeps_model : Option Workspace → Bool
keeps_model None = false
keeps_model (Some w) = is_some w.model

-- each workspace that keeps its model stands at one of these positions
abbrev pub KeepersAmong : List ℕ → List (Option Workspace) → Type 0
KeepersAmong places workspaces = (at : ℕ) → keeps_model (get_or workspaces at None) ≡ true → Contains places at
