-- What is as it was, between two states.
use Rattle.std.specs.Prelude.{◌≡◌, ◌≢◌, ◌⊎◌, ℕ, ◌<◌, ◌≤◌, List, ◌++◌, length, Option, Some, slice_get}
use Rattle.std.specs.List.{AllByRecursion}
use Rattle.history_tree.specs.declared.version.Branch.{Branch}
use Rattle.history_tree.specs.declared.version.Version.{Version}
use Rattle.history_tree.specs.History.{History, head}
use Rattle.history_tree.specs.Found.{branch_name}
use Rattle.plain_repository.specs.State.{State, Workspace, untouched, workspace_of}
use Rattle.plain_repository.specs.Laws.{IsPrefix}

-- what all workspaces have in common: the metamodel, the signing of versions, and the tags
pub record KeepsCommon (s t : State) : Type 0 where
  pub meta : t.meta ≡ s.meta
  pub upgraded : t.upgraded ≡ s.upgraded
  pub tags : t.history.tags ≡ s.history.tags

-- a workspace with nothing in it
pub record IsFresh (workspace : Option Workspace) : Type 0 where
  pub branch : ℕ
  pub base : ℕ
  pub is : workspace ≡ Some (untouched branch base)

-- all is as it was, but that workspaces were opened
pub record OnlyOpens (s t : State) : Type 0 where
  pub meta : t.meta ≡ s.meta
  pub history : t.history ≡ s.history
  pub upgraded : t.upgraded ≡ s.upgraded
  pub opened : List (Option Workspace)
  pub workspaces : t.workspaces ≡ s.workspaces ++ opened
  pub fresh : AllByRecursion IsFresh opened

-- a workspace that was opened since, and has nothing in it
pub record IsNew (s : State) (ws : ℕ) (workspace : Workspace) : Type 0 where
  pub number : length s.workspaces < ws
  pub is : workspace ≡ untouched workspace.branch workspace.base

-- a branch, by number: its head, and each workspace that was on it, are as they were, and no other is on it but new ones
pub record BranchStays (s t : State) (k : ℕ) : Type 0 where
  pub head_is : head t.history k ≡ head s.history k
  pub workspaces : (ws : ℕ) (w : Workspace) → workspace_of s ws ≡ Some w → w.branch ≡ k → workspace_of t ws ≡ Some w
  pub no_others : (ws : ℕ) (w : Workspace) → workspace_of t ws ≡ Some w → w.branch ≡ k → (workspace_of s ws ≡ Some w) ⊎ IsNew s ws w

-- a version of the branch of that name
abbrev pub IsOn : History → List ℕ → Version → Type 0
IsOn h name version = branch_name h version.branch ≡ name

-- All is as it was, but what concerns the branch of that name. Each new version is on it. Branches may be added to those that there
-- were, and each of these that has another name stays.
pub record OnlyOn (name : List ℕ) (s t : State) : Type 0 where
  pub common : KeepsCommon s t
  pub branches : IsPrefix s.history.branches t.history.branches
  pub made : List Version
  pub versions : t.history.versions ≡ s.history.versions ++ made
  pub on : AllByRecursion (IsOn t.history name) made
  pub numbers : length s.workspaces ≤ length t.workspaces
  pub others : (k : ℕ) (branch : Branch) → slice_get s.history.branches k ≡ Some branch → branch.name ≢ name → BranchStays s t k
