-- What every event keeps: a history that is whole, names that differ, and steps that can be taken, of each version and in each
-- workspace.
use Rattle.std.specs.Prelude.{◌≡◌, ℕ, nat_eq, ◌<◌, List, [], ◌++◌, Bool, true, false, Option, None, Some, All, Contains, length, slice_get}
use Rattle.std.specs.Cmp.Lexicographic.{pointwise}
use Rattle.std.specs.List.{AllByRecursion, position}
use Rattle.ecore_meta.specs.Meta.{Meta}
use Rattle.ecore_meta.specs.Promised.{IsMetamodel}
use Rattle.model_state.specs.Names.{is_name}
use Rattle.model_state.specs.State as models
use Rattle.model_state.specs.State.{nothing}
use Rattle.model_state.specs.Steps.{fold}
use Rattle.model_state.specs.Packages.{steps_all}
use Rattle.model_state.specs.declared.step.Step.{Step}
use Rattle.op_form.specs.Formed.{IsStep}
use Rattle.history_tree.specs.declared.version.Branch.{Branch}
use Rattle.history_tree.specs.declared.version.Tag.{Tag}
use Rattle.history_tree.specs.declared.version.Version.{Version}
use Rattle.history_tree.specs.History.{History, no_history, path, head}
use Rattle.history_tree.specs.States.{operations_to}
use Rattle.history_tree.specs.Whole.{IsWhole}
use Rattle.plain_repository.specs.State.{State, Workspace, recorded_steps}

-- steps that have an encoding and lead to a model, one by one from the empty project
pub record IsRun (meta : Meta) (steps : List Step) : Type 0 where
  pub model : models.State
  pub run : fold meta nothing steps ≡ Some model
  pub spelled : AllByRecursion IsStep steps

-- the steps up to a version
abbrev pub steps_to : History → ℕ → List Step
steps_to h v = steps_all (operations_to h v)

-- they are a run
abbrev pub RunsTo : Meta → History → ℕ → Type 0
RunsTo meta h v = IsRun meta (steps_to h v)

-- the steps up to a workspace's base and all that is recorded after it are a run
abbrev pub Runs : Meta → History → Workspace → Type 0
Runs meta h w = IsRun meta (steps_to h w.base ++ recorded_steps w)

-- the base of a workspace is on the path of its branch's head, and all that its numbers name is there
pub record StandsInHistory (h : History) (workspace : Workspace) : Type 0 where
  pub branch : workspace.branch < length h.branches
  pub base : workspace.base < length h.versions
  pub on_path : Contains (path h (head h workspace.branch)) workspace.base
  pub pending : All (λ v. v < length h.versions) workspace.pending

-- a workspace that stands in the history, and whose steps are a run
pub record IsOrderlyWorkspace (meta : Meta) (h : History) (w : Workspace) : Type 0 where
  pub stands : StandsInHistory h w
  pub runs : Runs meta h w

-- each version is on the path of its branch's head
abbrev pub HeadsLead : History → Type 0
HeadsLead h = (v : ℕ) (version : Version) → slice_get h.versions v ≡ Some version → Contains (path h (head h version.branch)) v

-- the item has that name
abbrev pub has_that_name : {X : Type 0} → (X → List ℕ) → List ℕ → X → Bool
has_that_name name_of name x = pointwise nat_eq (name_of x) name

-- the name of each item has the form of a name, and the item is the first that has it, so no two have one
abbrev pub AreNamed : {X : Type 0} → (X → List ℕ) → List X → Type 0
AreNamed name_of xs = (k : ℕ) (x : _) → slice_get xs k ≡ Some x → (is_name (name_of x) ≡ true) × (position (has_that_name name_of (name_of x)) xs ≡ Some k)

-- so it is with branches, and with tags
pub record HasNames (h : History) : Type 0 where
  pub branches : AreNamed (λ (b : Branch). b.name) h.branches
  pub tags : AreNamed (λ (t : Tag). t.name) h.tags

-- what holds of a workspace, where it is there
abbrev pub IfThere : (Workspace → Type 0) → Option Workspace → Type 0
IfThere P None = Unit {0}
IfThere P (Some w) = P w

-- so it is where there is a metamodel, of which what holds of every metamodel does
pub record Orderly (meta : Meta) (s : State) : Type 0 where
  pub metamodel : IsMetamodel meta
  pub whole : IsWhole s.history
  pub heads : HeadsLead s.history
  pub names : HasNames s.history
  pub versions : (v : ℕ) → v < length s.history.versions → RunsTo meta s.history v
  pub workspaces : AllByRecursion (IfThere (IsOrderlyWorkspace meta s.history)) s.workspaces

-- before there is one, there is no workspace and no version, and the store is not upgraded
abbrev pub AllOrderly : Option Meta → State → Type 0
AllOrderly None s = (s.workspaces ≡ []) × (s.history ≡ no_history) × (s.upgraded ≡ false)
AllOrderly (Some meta) s = Orderly meta s

-- a state in which all is in order
abbrev pub IsOrderly : State → Type 0
IsOrderly s = AllOrderly s.meta s
