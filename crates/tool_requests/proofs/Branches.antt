-- Where the workspace of a command stands.
use Rattle.std.proofs.Common.{◌≡◌, ℕ, zero, suc, ◌<◌, length, refl, ap, subst}
use Rattle.std.specs.Prelude.{Option, None, Some, slice_get}
use Rattle.ecore_meta.specs.Meta.{Meta}
use Rattle.plain_repository.specs.State.{State, Workspace, there, workspace_of}
use Rattle.plain_repository.specs.Orderly.{AllOrderly, IsOrderly}
use Rattle.plain_repository.proofs.Reached.{workspaces_stand}
use Rattle.repo_state.proofs.Ordered.{is_there}

-- before there is a metamodel, no workspace is there
pub none_is_there : (s : State) → IsOrderly s → s.meta ≡ None → (ws : ℕ) → workspace_of s ws ≡ None
none_is_there s orderly none zero = refl
none_is_there s orderly none (suc n) =
    let all = subst (λ (m : Option Meta). AllOrderly m s) none orderly in
    ap (λ l. there (slice_get l n)) all.0

-- the branch of a workspace is one of the history
pub branch_stands : (s : State) (meta : Meta) (ws : ℕ) (w : Workspace) → IsOrderly s → s.meta ≡ Some meta → workspace_of s ws ≡ Some w
    → w.branch < length s.history.branches
branch_stands s meta ws w orderly begun found = (workspaces_stand s meta w (is_there s meta ws w orderly begun found)).branch
