-- What each event makes of the working models and of the history.
use Rattle.std.specs.Prelude.{codes, Ok, ◌≡◌, ℕ, suc, ◌<◌, List, Option, Some, None, IsTrue, length}
use Rattle.ecore_meta.specs.Meta.{Meta}
use Rattle.ecore_json.specs.Metamodel.{metamodel_of}
use Rattle.model_state.specs.Packages.{fold_package}
use Rattle.model_state.specs.State as models
use Rattle.model_state.specs.State.{nothing}
use Rattle.model_state.specs.declared.operation.Operation.{Operation}
use Rattle.history_tree.specs.History.{head}
use Rattle.history_tree.specs.Found.{branch_named}
use Rattle.history_tree.specs.States.{state_of}
use Rattle.op_form.specs.declared.event.Event.{Event}
use Rattle.op_form.specs.declared.event.Event.TheVariants.{Init, Checkout, Edit, Begin, End, Undo, Discard, Branch, Tag, Drop}
use Rattle.script_lang.specs.declared.command.Spec.TheVariants as specs
use Rattle.plain_repository.specs.State.{State, Composite, Workspace, workspace_of, model_of}
use Rattle.history_tree.specs.declared.version.Signature.{Signature}
use Rattle.plain_repository.specs.Commits.{version_event}
use Rattle.plain_repository.specs.Specs.{found_by_spec}
use Rattle.plain_repository.specs.Events.{play, playable}
use Rattle.plain_repository.specs.Laws.{HasMetamodel}

-- ---- working models
-- the workspace of that number is there, and its working model is this one
pub record HasModel (s : State) (meta : Meta) (ws : ℕ) (model : models.State) : Type 0 where
  pub workspace : Workspace
  pub there : workspace_of s ws ≡ Some workspace
  pub model_is : model_of meta s.history workspace ≡ model

-- an event that could be made, of a workspace that is there
pub record CouldBeIn (s : State) (meta : Meta) (ws : ℕ) (workspace : Workspace) (event : Event) : Type 0 where
  pub in_state : HasMetamodel s meta
  pub there : workspace_of s ws ≡ Some workspace
  pub could : IsTrue (playable s event)

-- such an event leaves the working model
abbrev pub KeepsModels : (ℕ → Event) → Type 0
KeepsModels event_of = (s : State) (meta : Meta) (ws : ℕ) (workspace : Workspace) → CouldBeIn s meta ws workspace (event_of ws)
    → HasModel (play s (event_of ws)) meta ws (model_of meta s.history workspace)

-- the first event brings the metamodel of its text, and version 0, the empty project, on `trunk`
pub record IsBegun (s : State) (meta : Meta) : Type 0 where
  pub begun : s.meta ≡ Some meta
  pub state : state_of meta s.history 0 ≡ nothing
  pub trunk : found_by_spec s.history (specs.Branch (codes "trunk")) ≡ Ok (record { version = 0; branch = 0 })

-- so does each Init of a text that reads as a metamodel
abbrev pub InitsBegin : Type 0
InitsBegin = (s : State) (text : List ℕ) (meta : Meta) → metamodel_of text ≡ Ok meta → IsBegun (play s (Init text)) meta

-- an edit leads to the model that its operations lead to, one by one, from the working model
abbrev pub EditsLead : Type 0
EditsLead = (s : State) (meta : Meta) (ws : ℕ) (operations : List Operation) (workspace : Workspace) → CouldBeIn s meta ws workspace (Edit ws operations)
    → (model : models.State) × (fold_package meta (model_of meta s.history workspace) operations ≡ Some model)
    × HasModel (play s (Edit ws operations)) meta ws model

-- a checkout makes the workspace of the next number, whose working model is the state of the version
abbrev pub CheckoutsShowVersions : Type 0
CheckoutsShowVersions = (s : State) (meta : Meta) → HasMetamodel s meta → (version branch : ℕ) → IsTrue (playable s (Checkout version branch))
    → HasModel (play s (Checkout version branch)) meta (suc (length s.workspaces)) (state_of meta s.history version)

-- the beginning of a composite leaves the working model
abbrev pub BeginsKeepModels : Type 0
BeginsKeepModels = (name : List ℕ) → KeepsModels (λ ws. Begin ws name)

-- so does the end of one
abbrev pub EndsKeepModels : Type 0
EndsKeepModels = KeepsModels (λ ws. End ws)

-- The steps of a composite are one operation: after its end, one undo leaves the workspace as it was before the beginning.
abbrev pub EndsAreUndone : Type 0
EndsAreUndone = (s : State) (ws : ℕ) (workspace : Workspace) (composite : Composite) → workspace_of s ws ≡ Some workspace
    → workspace.composite ≡ Some composite → 0 < length composite.steps
    → workspace_of (play (play s (End ws)) (Undo ws)) ws ≡ Some (record workspace { composite = None })

-- a discard leaves the state of the base
abbrev pub DiscardsGoBack : Type 0
DiscardsGoBack = (s : State) (meta : Meta) (ws : ℕ) (workspace : Workspace) → CouldBeIn s meta ws workspace (Discard ws)
    → HasModel (play s (Discard ws)) meta ws (state_of meta s.history workspace.base)

-- a workspace that is dropped is there no more
abbrev pub DropsTakeAway : Type 0
DropsTakeAway = (s : State) (ws : ℕ) → workspace_of (play s (Drop ws)) ws ≡ None

-- ---- the history
-- the working model is the state of the new version
abbrev pub CommitsKeepStates : Type 0
CommitsKeepStates = (s : State) (meta : Meta) (ws : ℕ) (signature : Option Signature) (message : List ℕ) (workspace : Workspace)
    → CouldBeIn s meta ws workspace (version_event ws signature message)
    → state_of meta (play s (version_event ws signature message)).history (length s.history.versions) ≡ model_of meta s.history workspace

-- a new branch leaves the working model
abbrev pub BranchesKeepModels : Type 0
BranchesKeepModels = (name : List ℕ) → KeepsModels (λ ws. Branch ws name)

-- the workspace is on the branch of that name, whose head is the version
pub record IsOnBranch (s : State) (ws : ℕ) (name : List ℕ) (version : ℕ) : Type 0 where
  pub workspace : Workspace
  pub there : workspace_of s ws ≡ Some workspace
  pub is_named : branch_named s.history name ≡ Some workspace.branch
  pub head_is : head s.history workspace.branch ≡ version

-- so it is on a new branch, whose head is the workspace's base
abbrev pub BranchesStartAtBases : Type 0
BranchesStartAtBases = (s : State) (meta : Meta) (ws : ℕ) (name : List ℕ) (workspace : Workspace) → CouldBeIn s meta ws workspace (Branch ws name)
    → IsOnBranch (play s (Branch ws name)) ws name workspace.base

-- a new tag's name, after `@`, names what the version's number names
abbrev pub TagsNameVersions : Type 0
TagsNameVersions = (s : State) (meta : Meta) → HasMetamodel s meta → (name : List ℕ) (version : ℕ) → IsTrue (playable s (Tag name version))
    → found_by_spec (play s (Tag name version)).history (specs.Tag name) ≡ found_by_spec s.history (specs.Number version)
