-- What the repository holds: the metamodel, the history, and the workspaces with what is recorded in them.
use Rattle.std.specs.Prelude.{ℕ, zero, suc, ◌||◌, List, [], ◌∷◌, ◌++◌, Bool, false, nat_lt, not, length, slice_get, Option, Some, None, is_some}
use Rattle.std.specs.Prelude.{unwrap_or, option_map}
use Rattle.commit_journal.specs.Journal.{first_gate}
use Rattle.ecore_meta.specs.Meta.{Meta}
use Rattle.model_state.specs.State as models
use Rattle.model_state.specs.State.{nothing}
use Rattle.model_state.specs.Steps.{fold}
use Rattle.model_state.specs.Packages.{steps_all}
use Rattle.model_state.specs.declared.step.Step.{Step}
use Rattle.model_state.specs.declared.operation.Operation.{Operation}
use Rattle.history_tree.specs.History.{History, no_history}
use Rattle.history_tree.specs.States.{state_of}

-- a composite that is open: its name, and the steps recorded in it so far
pub record Composite : Type 0 where
  pub name : List ℕ
  pub steps : List Step

-- A workspace: its branch, and the version that it stands at, its base. Then the operations recorded in it, in their order, and
-- the composite that is open, where one is. Last the versions that were merged into it and that no commit has listed yet.
pub record Workspace : Type 0 where
  pub branch : ℕ
  pub base : ℕ
  pub operations : List Operation
  pub composite : Option Composite
  pub pending : List ℕ

-- The metamodel, once there is one, and the history, which has no version before. The workspaces, the one of the number n at the
-- place n - 1, None where it was dropped. Whether the store is upgraded, so that each new version is signed. How many events were
-- played, and the offset of the journal's end after them.
pub record State : Type 0 where
  pub meta : Option Meta
  pub history : History
  pub workspaces : List (Option Workspace)
  pub upgraded : Bool
  pub events : ℕ
  pub end : ℕ

-- the repository before its first event
abbrev pub empty : State
empty = record { meta = None; history = no_history; workspaces = []; upgraded = false; events = 0; end = first_gate }

-- the one of these, where it is there
abbrev pub there : Option (Option Workspace) → Option Workspace
there None = None
there (Some workspace) = workspace

-- workspaces are numbered from 1; None where none was made of that number, or where it was dropped
abbrev pub workspace_of : State → ℕ → Option Workspace
workspace_of s zero = None
workspace_of s (suc n) = there (slice_get s.workspaces n)

-- a workspace on a branch, at a version
abbrev pub untouched : ℕ → ℕ → Workspace
untouched branch base = record { branch = branch; base = base; operations = []; composite = None; pending = [] }

-- the steps of the open composite, none where none is open
abbrev pub open_steps : Option Composite → List Step
open_steps None = []
open_steps (Some composite) = composite.steps

-- all steps recorded in a workspace: those of its operations, and then those of the open composite
abbrev pub recorded_steps : Workspace → List Step
recorded_steps w = steps_all w.operations ++ open_steps w.composite

-- What the recorded steps lead to from the state of the base, one by one. None where one of them can't be taken, which comes of
-- no event that could be made.
abbrev pub folded : Meta → History → Workspace → Option models.State
folded meta h workspace = fold meta (state_of meta h workspace.base) (recorded_steps workspace)

-- the working model
abbrev pub model_of : Meta → History → Workspace → models.State
model_of meta h workspace = unwrap_or (folded meta h workspace) nothing

-- the workspaces with what is at a place changed
abbrev pub changed_at : (Option Workspace → Option Workspace) → List (Option Workspace) → ℕ → List (Option Workspace)
changed_at change [] n = []
changed_at change (w ∷ ws) zero = change w ∷ ws
changed_at change (w ∷ ws) (suc n) = w ∷ changed_at change ws n

-- the same, by the number of a workspace
abbrev pub changed_by_number : (Option Workspace → Option Workspace) → List (Option Workspace) → ℕ → List (Option Workspace)
changed_by_number change ws zero = ws
changed_by_number change ws (suc n) = changed_at change ws n

-- the workspace of a number is changed, where it is there
abbrev pub with_changed : (Workspace → Workspace) → ℕ → State → State
with_changed change ws s = record s { workspaces = changed_by_number (option_map change) s.workspaces ws }

-- the workspace is there, and no composite is open in it
abbrev pub is_closed : Option Workspace → Bool
is_closed (Some workspace) = not (is_some workspace.composite)
is_closed None = false

-- the workspace is there, and a composite is open in it
abbrev pub is_open : Option Workspace → Bool
is_open (Some workspace) = is_some workspace.composite
is_open None = false

-- the workspace is there, and has operations
abbrev pub has_operations : Option Workspace → Bool
has_operations (Some workspace) = nat_lt 0 (length workspace.operations)
has_operations None = false

-- the workspace is there, and versions were merged into it
abbrev pub has_pending : Option Workspace → Bool
has_pending (Some workspace) = nat_lt 0 (length workspace.pending)
has_pending None = false

-- the workspace is there, and has something for a version
abbrev pub has_local : Option Workspace → Bool
has_local workspace = has_operations workspace || has_pending workspace
