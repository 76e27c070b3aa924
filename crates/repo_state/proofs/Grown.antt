-- What a version, a branch or a tag more makes of a repository, and of the models that its workspaces keep.
use Rattle.std.proofs.Common.{◌≡◌, ◌∙◌, ◌<◌, ℕ, List, Bool, true, false, length, map, Option, Some, None, is_some, refl, sym, ap, subst}
use Rattle.std.specs.Prelude.{All, ◌&&◌, nat_lt, nat_eq, not}
use Rattle.std.specs.List.{AllByRecursion}
use Rattle.std.proofs.Math.ListN.{set}
use Rattle.std.proofs.lemmas.Bool.{eqb-true, ltb-true}
use Rattle.std.proofs.lemmas.List.Elements.{All-set}
use Rattle.ecore_meta.specs.Meta.{Meta}
use Rattle.model_state.specs.Names.{is_name}
use Rattle.history_tree.specs.declared.version.Signature.{Signature}
use Rattle.history_tree.specs.History.{History, head, with_branch, with_tag, with_version}
use Rattle.history_tree.specs.Found.{branch_named, has_tag}
use Rattle.history_tree.proofs.Steady.{operations_kept}
use Rattle.op_form.specs.declared.event.Event.TheVariants.{Branch, Tag}
use Rattle.plain_repository.specs.State.{State, Workspace, folded, is_closed, has_local, with_changed, workspace_of}
use Rattle.plain_repository.specs.Commits.{can_commit, committed, is_new_branch, moved_onto, version_event, version_of, with_commit, with_new_branch}
use Rattle.plain_repository.specs.Events.{effect, playable_with}
use Rattle.plain_repository.specs.Orderly.{IsOrderlyWorkspace, IfThere, IsOrderly, StandsInHistory}
use Rattle.plain_repository.proofs.Commits.{version_asked, version_effect}
use Rattle.plain_repository.proofs.Encodings.{and_left, and_right}
use Rattle.plain_repository.proofs.Reached.{kept, workspaces_stand}
use Rattle.repo_state.specs.declared.repo.Begun.{Begun}
use Rattle.repo_state.specs.declared.workspace.Workspace.{Workspace as Kept}
use Rattle.repo_state.specs.Keeping.{AllFit, ModelFits, FitsAny, plain_any, plain_of}
use Rattle.repo_state.proofs.Changing.{held}
use Rattle.repo_state.proofs.Effects.{Placed, begun_is, changed_view, could_with, fit_before, grown, grown_fit, history_is, placed_there, unchanged_view}
use Rattle.repo_state.proofs.Models.{all_fit, commit_folded, fits_same}
use Rattle.repo_state.proofs.Ordered.{is_there}

-- ---- what was tested
pub stands_in : (s : State) (meta : Meta) (h : History) (ws : ℕ) (w : Workspace) → IsOrderly s → s.meta ≡ Some meta → s.history ≡ h
    → workspace_of s ws ≡ Some w → StandsInHistory h w
stands_in s meta h ws w orderly begun hist there =
    subst (λ (g : History). StandsInHistory g w) hist (workspaces_stand s meta w (is_there s meta ws w orderly begun there))

pub commit_can : (s : State) (meta : Meta) (ws : ℕ) (w : Workspace) (signature : Option Signature) (message : List ℕ) → s.meta ≡ Some meta
    → workspace_of s ws ≡ Some w → playable_with s s.meta (version_event ws signature message) ≡ true
    → can_commit s.history (Some w) ≡ true
commit_can s meta ws w signature message begun there could =
    subst (λ (o : Option Workspace). can_commit s.history o ≡ true) there
    (version_asked s meta ws signature message (could_with s meta (version_event ws signature message) begun could))

pub commit_at_head : (s : State) (meta : Meta) (h : History) (ws : ℕ) (w : Workspace) (signature : Option Signature) (message : List ℕ)
    → s.meta ≡ Some meta → s.history ≡ h → workspace_of s ws ≡ Some w
    → playable_with s s.meta (version_event ws signature message) ≡ true → w.base ≡ head h w.branch
commit_at_head s meta h ws w signature message begun hist there could =
    eqb-true w.base (head s.history w.branch)
    (and_left (nat_eq w.base (head s.history w.branch)) (is_closed (Some w))
    (and_left _ (has_local (Some w)) (commit_can s meta ws w signature message begun there could)))
    ∙ ap (λ (g : History). head g w.branch) hist

not_there : (o : Option ℕ) → not (is_some o) ≡ true → o ≡ None
not_there None is = refl
not_there (Some n) is = absurd cc

pub branch_new : (s : State) (meta : Meta) (h : History) (ws : ℕ) (name : List ℕ) → s.meta ≡ Some meta → s.history ≡ h
    → playable_with s s.meta (Branch ws name) ≡ true → branch_named h name ≡ None
branch_new s meta h ws name begun hist could =
    subst (λ (g : History). branch_named g name ≡ None) hist
    (not_there (branch_named s.history name)
    (and_right (is_name name) (is_new_branch s.history name)
    (and_left (is_name name && is_new_branch s.history name) (is_closed (workspace_of s ws)) (could_with s meta (Branch ws name) begun could))))

is_false : (b : Bool) → not b ≡ true → b ≡ false
is_false false is = refl
is_false true is = absurd cc

pub tag_new : (s : State) (meta : Meta) (h : History) (name : List ℕ) (version : ℕ) → s.meta ≡ Some meta → s.history ≡ h
    → playable_with s s.meta (Tag name version) ≡ true → has_tag h name ≡ false
tag_new s meta h name version begun hist could =
    subst (λ (g : History). has_tag g name ≡ false) hist
    (is_false (has_tag s.history name)
    (and_right (is_name name) (not (has_tag s.history name))
    (and_left (is_name name && not (has_tag s.history name)) (nat_lt version (length s.history.versions))
    (could_with s meta (Tag name version) begun could))))

pub tag_version : (s : State) (meta : Meta) (h : History) (name : List ℕ) (version : ℕ) → s.meta ≡ Some meta → s.history ≡ h
    → playable_with s s.meta (Tag name version) ≡ true → version < length h.versions
tag_version s meta h name version begun hist could =
    subst (λ (g : History). version < length g.versions) hist
    (ltb-true version (length s.history.versions)
    (and_right (is_name name && not (has_tag s.history name)) (nat_lt version (length s.history.versions))
    (could_with s meta (Tag name version) begun could)))

-- ---- all workspaces, over a longer history
module _ (b : Option Begun) (begun new : Begun) (ws : List (Option Kept)) (events end : ℕ) (s : State)
    (view : held b (map plain_any ws) events end ≡ s) (is : b ≡ Some begun) (meta_same : new.meta ≡ begun.meta)
    (form_same : new.upgraded ≡ begun.upgraded) (orderly : IsOrderly s) (fit : AllFit b ws) where
  hist : s.history ≡ begun.history.history
  hist = history_is b begun (map plain_any ws) events end s view is

  is_begun : s.meta ≡ Some begun.meta
  is_begun = begun_is b begun (map plain_any ws) events end s view is

  in_order : AllByRecursion (IfThere (IsOrderlyWorkspace begun.meta s.history)) (map plain_any ws)
  in_order = subst (AllByRecursion (IfThere (IsOrderlyWorkspace begun.meta s.history))) (sym (ap (λ (t : State). t.workspaces) view))
      (kept s begun.meta (record { orderly = orderly; begun = is_begun })).workspaces

  fits : All (FitsAny begun.meta s.history) ws
  fits = subst (λ (h : History). All (FitsAny begun.meta h) ws) (sym hist) (subst (λ (o : Option Begun). AllFit o ws) is fit)

  -- a tag more
  pub tag_done : (name : List ℕ) (version : ℕ) → new.history.history ≡ with_tag begun.history.history name version
      → held (Some new) (map plain_any ws) events end ≡ effect s (Tag name version)
  tag_done name version grew =
      grown b begun new (with_tag s.history name version) (map plain_any ws) events end s is meta_same form_same
      (grew ∙ ap (λ (h : History). with_tag h name version) (sym hist)) view

  pub tag_same : new.history.history ≡ begun.history.history → held (Some new) (map plain_any ws) events end ≡ s
  tag_same same = grown b begun new s.history (map plain_any ws) events end s is meta_same form_same (same ∙ sym hist) view

  pub tag_fit : (name : List ℕ) (version : ℕ) → new.history.history ≡ with_tag begun.history.history name version → AllFit (Some new) ws
  tag_fit name version grew =
      grown_fit begun new (with_tag s.history name version) ws meta_same (grew ∙ ap (λ (h : History). with_tag h name version) (sym hist))
      (all_fit begun.meta s.history (with_tag s.history name version) (λ v below. refl) ws in_order fits)

  pub same_fit : new.history.history ≡ begun.history.history → AllFit (Some new) ws
  same_fit same = grown_fit begun new s.history ws meta_same (same ∙ sym hist) fits

  -- a version or a branch more, and one workspace changed
  module _ {k i : ℕ} {d : Option Kept} {w : Kept} (p : Placed b ws events end s k i d w) (w' : Kept) (model : w'.model ≡ w.model) where
    before : ModelFits begun.meta s.history w
    before = subst (λ (h : History). ModelFits begun.meta h w) (sym hist) (fit_before p begun is fit)

    pub commit_done : (signature : Option Signature) (message : List ℕ)
        → new.history.history ≡ with_version begun.history.history (version_of (plain_of w) signature message)
        → plain_of w' ≡ committed (length begun.history.history.versions) (plain_of w)
        → held (Some new) (map plain_any (set ws i (Some w'))) events end ≡ effect s (version_event k signature message)
    commit_done signature message grew at =
        grown b begun new (with_version s.history (version_of (plain_of w) signature message)) (map plain_any (set ws i (Some w'))) events end
        (with_changed (committed (length s.history.versions)) k s) is meta_same form_same
        (grew ∙ ap (λ (h : History). with_version h (version_of (plain_of w) signature message)) (sym hist))
        (changed_view p (committed (length s.history.versions)) w' (at ∙ ap (λ (h : History). committed (length h.versions) (plain_of w)) (sym hist)))
        ∙ ap (λ (o : Option Workspace). with_commit k signature message o s) (sym (placed_there p))
        ∙ sym (version_effect s k signature message)

    pub commit_fit : (signature : Option Signature) (message : List ℕ) → playable_with s s.meta (version_event k signature message) ≡ true
        → new.history.history ≡ with_version begun.history.history (version_of (plain_of w) signature message)
        → plain_of w' ≡ committed (length begun.history.history.versions) (plain_of w)
        → AllFit (Some new) (set ws i (Some w'))
    commit_fit signature message could grew at =
        let v = version_of (plain_of w) signature message in
        let more = with_version s.history v in
        let can = commit_can s begun.meta k (plain_of w) signature message is_begun (placed_there p) could in
        let same : folded begun.meta more (plain_of w') ≡ folded begun.meta s.history (plain_of w) =
        ap (folded begun.meta more) (at ∙ ap (λ (h : History). committed (length h.versions) (plain_of w)) (sym hist))
        ∙ commit_folded s begun.meta (kept s begun.meta (record { orderly = orderly; begun = is_begun })) k (plain_of w) signature message
        (placed_there p) can in
        grown_fit begun new more (set ws i (Some w')) meta_same (grew ∙ ap (λ (h : History). with_version h v) (sym hist))
        (All-set (FitsAny begun.meta more) ws i (Some w') (fits_same begun.meta s.history more w w' same model before)
        (all_fit begun.meta s.history more (λ u below. operations_kept s.history v u below) ws in_order fits))

    pub branch_done : (name : List ℕ) → new.history.history ≡ with_branch begun.history.history name w.base
        → plain_of w' ≡ moved_onto (length begun.history.history.branches) (plain_of w)
        → held (Some new) (map plain_any (set ws i (Some w'))) events end ≡ effect s (Branch k name)
    branch_done name grew at =
        grown b begun new (with_branch s.history name w.base) (map plain_any (set ws i (Some w'))) events end
        (with_changed (moved_onto (length s.history.branches)) k s) is meta_same form_same
        (grew ∙ ap (λ (h : History). with_branch h name w.base) (sym hist))
        (changed_view p (moved_onto (length s.history.branches)) w' (at ∙ ap (λ (h : History). moved_onto (length h.branches) (plain_of w)) (sym hist)))
        ∙ ap (λ (o : Option Workspace). with_new_branch k name o s) (sym (placed_there p))

    pub branch_fit : (name : List ℕ) → new.history.history ≡ with_branch begun.history.history name w.base
        → plain_of w' ≡ moved_onto (length begun.history.history.branches) (plain_of w) → AllFit (Some new) (set ws i (Some w'))
    branch_fit name grew at =
        let more = with_branch s.history name w.base in
        grown_fit begun new more (set ws i (Some w')) meta_same (grew ∙ ap (λ (h : History). with_branch h name w.base) (sym hist))
        (All-set (FitsAny begun.meta more) ws i (Some w') (fits_same begun.meta s.history more w w' (ap (folded begun.meta more) at) model before)
        (all_fit begun.meta s.history more (λ u below. refl) ws in_order fits))

    pub grown_same : new.history.history ≡ begun.history.history → plain_of w' ≡ plain_of w
        → held (Some new) (map plain_any (set ws i (Some w'))) events end ≡ s
    grown_same same at = grown b begun new s.history (map plain_any (set ws i (Some w'))) events end s is meta_same form_same (same ∙ sym hist)
        (unchanged_view p w' at)

    pub grown_same_fit : new.history.history ≡ begun.history.history → plain_of w' ≡ plain_of w → AllFit (Some new) (set ws i (Some w'))
    grown_same_fit same at =
        grown_fit begun new s.history (set ws i (Some w')) meta_same (same ∙ sym hist)
        (All-set (FitsAny begun.meta s.history) ws i (Some w')
        (fits_same begun.meta s.history s.history w w' (ap (folded begun.meta s.history) at) model before) fits)
