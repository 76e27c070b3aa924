-- The reversal of a version's package could be recorded where nothing later interferes with it.
use Rattle.std.proofs.Common.{◌≡◌, ◌≢◌, ℕ, true, false, List, [], ◌∷◌, length, None, Some, is_some, refl, sym, ap}
use Rattle.std.specs.Prelude.{not, ◌&&◌}
use Rattle.ecore_meta.specs.Meta.{Meta}
use Rattle.model_state.specs.Packages.{fold_package, rev_package}
use Rattle.model_state.specs.declared.operation.Operation.{Operation}
use Rattle.history_tree.specs.History.{path}
use Rattle.history_tree.specs.MergeBase.{is_among}
use Rattle.history_tree.specs.Since.{path_after}
use Rattle.history_tree.specs.States.{package_of_version}
use Rattle.history_tree.proofs.Greatest.{of_among}
use Rattle.merge_laws.specs.Pairs.{first_interfering, have_pair}
use Rattle.op_form.specs.declared.event.Event.TheVariants.{Edit}
use Rattle.plain_repository.specs.State.{State, Workspace, model_of, workspace_of, is_open}
use Rattle.plain_repository.specs.Edits.{can_follow}
use Rattle.plain_repository.specs.Events.{playable_with}
use Rattle.plain_repository.specs.Orderly.{IsOrderly, Orderly, IsOrderlyWorkspace}
use Rattle.plain_repository.proofs.Reached.{in_order, kept}
use Rattle.plain_repository.proofs.Reverting.{revert_follows}
use Rattle.repo_state.proofs.Ordered.{is_there}
use Rattle.repo_answers.proofs.Playable.{takes_closed}

-- operations that can follow could be recorded
pub edit_by : (s : State) (meta : Meta) (ws : ℕ) (w : Workspace) (os : List Operation) → s.meta ≡ Some meta → workspace_of s ws ≡ Some w
    → can_follow meta s.history (Some w) os ≡ true → playable_with s s.meta (Edit ws os) ≡ true
edit_by s meta ws w os begun there can = rw (begun, there) can

pub revert_could : (s : State) (meta : Meta) (ws v : ℕ) (w : Workspace) → IsOrderly s → s.meta ≡ Some meta → workspace_of s ws ≡ Some w
    → is_open (Some w) ≡ false → is_among (path s.history w.base) v ≡ true
    → first_interfering meta s.history.versions (package_of_version s.history.versions v) (path_after s.history v w.base) ≡ None
    → have_pair meta (package_of_version s.history.versions v) w.operations ≡ false
    → (os : List Operation) → os ≡ rev_package (package_of_version s.history.versions v) → length os ≢ 0 → playable_with s s.meta (Edit ws os) ≡ true
revert_could s meta ws v w orderly begun there shut on free apart [] is some = absurd (some refl)
revert_could s meta ws v w orderly begun there shut on free apart (o ∷ os) is some =
    let t = is_there s meta ws w orderly begun there in
    let k : Orderly meta s = kept s meta t.in_state in
    let q : IsOrderlyWorkspace meta s.history w = in_order s meta w t in
    edit_by s meta ws w (o ∷ os) begun there
    (revert_follows meta k.metamodel.sound s.history k.whole k.versions w q (ap not shut) v
    (of_among (path s.history w.base) v on) free apart o os (sym is))
