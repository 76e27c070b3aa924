-- The plans of an update and of a merge, and what they make of what is local.
use Rattle.std.specs.Prelude.{◌≡◌, ℕ, ◌<◌, ◌-◌, ◌^◌, List, [], ◌∷◌, ◌++◌, All, Some}
use Rattle.ecore_meta.specs.Meta.{Meta}
use Rattle.model_state.specs.Packages.{fold_package}
use Rattle.model_state.specs.declared.operation.Operation.{Operation}
use Rattle.footprint.specs.declared.bucket.Bucket.{Bucket}
use Rattle.history_tree.specs.History.{History}
use Rattle.history_tree.specs.States.{state_of}
use Rattle.merge_plans.specs.declared.plan.Plan.{Plan}
use Rattle.merge_laws.specs.Plans.{theirs_of_update}
use Rattle.plain_repository.specs.State.{State, Workspace, folded, workspace_of}
use Rattle.plain_repository.specs.Merging.{update_buckets, merge_buckets, merge_theirs, merge_mine}

-- the positions of operations have numbers of 64 bits, counted from 1 too
abbrev pub AllHaveNumbers : List Bucket → Type 0
AllHaveNumbers rows = All (λ b. All (λ i. i < 2 ^ 64 - 1) b.theirs × All (λ i. i < 2 ^ 64 - 1) b.mine) rows

-- the plan is that of an update of the workspace
pub record IsUpdatePlan (meta : Meta) (h : History) (w : Workspace) (p : Plan) : Type 0 where
  pub theirs : p.theirs ≡ theirs_of_update h w.branch w.base
  pub mine : p.mine ≡ w.operations
  pub buckets : p.buckets.rows ≡ update_buckets meta h w
  pub places : AllHaveNumbers p.buckets.rows

-- the plan is that of a merge of the version into the workspace
pub record IsMergePlan (meta : Meta) (h : History) (w : Workspace) (other : ℕ) (p : Plan) : Type 0 where
  pub theirs : p.theirs ≡ merge_theirs h w other
  pub mine : p.mine ≡ merge_mine meta h w other
  pub buckets : p.buckets.rows ≡ merge_buckets meta h w other
  pub places : AllHaveNumbers p.buckets.rows

-- the operations are these
abbrev pub replaced : List Operation → Workspace → Workspace
replaced operations w = record w { operations = operations }

-- the workspace stands at the version, with those operations
abbrev pub restarted : ℕ → List Operation → Workspace → Workspace
restarted base operations w = record w { base = base; operations = operations }

-- further operations are added last, and the version is pending
abbrev pub taken_up : List Operation → ℕ → Workspace → Workspace
taken_up more version w = record w { operations = w.operations ++ more; pending = w.pending ++ version ∷ [] }

-- the operations lead to the working model of the workspace of that number, as its own do
abbrev pub KeepModel : State → ℕ → List Operation → Type 0
KeepModel s ws operations = (meta : Meta) (w : Workspace) → s.meta ≡ Some meta → workspace_of s ws ≡ Some w
    → folded meta s.history (replaced operations w) ≡ folded meta s.history w

-- the operations lead from the state of the base of the workspace of that number to the state of the version
abbrev pub AreTheirs : State → ℕ → ℕ → List Operation → Type 0
AreTheirs s ws version theirs = (meta : Meta) (w : Workspace) → s.meta ≡ Some meta → workspace_of s ws ≡ Some w
    → fold_package meta (state_of meta s.history w.base) theirs ≡ Some (state_of meta s.history version)
