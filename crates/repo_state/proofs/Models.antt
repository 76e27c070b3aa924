-- What becomes of the model that a workspace keeps, by each change of the workspace and of the history.
use Rattle.std.proofs.Common.{◌≡◌, ◌<◌, ℕ, List, [], ◌∷◌, ◌++◌, true, length, map, Option, Some, None, refl, sym, ◌∙◌, ap, subst, append-nil}
use Rattle.std.specs.Prelude.{All, IfSome, unwrap_or}
use Rattle.std.specs.List.{AllByRecursion}
use Rattle.std.proofs.lemmas.List.Elements.{All-from_recursion, recursion_from_All}
use Rattle.std.proofs.lemmas.Option.{same_Some}
use Rattle.ecore_meta.specs.Meta.{Meta}
use Rattle.ecore_meta.specs.Sound.{Sound}
use Rattle.model_state.specs.State as models
use Rattle.model_state.specs.State.{nothing}
use Rattle.model_state.specs.Good.{Good}
use Rattle.model_state.specs.Steps.{fold}
use Rattle.model_state.specs.Packages.{fold_package, steps_of, steps_all}
use Rattle.model_state.specs.declared.step.Step.{Step}
use Rattle.model_state.specs.declared.operation.Operation.{Operation}
use Rattle.model_laws.proofs.Runs.{fold_append, steps_keep_good}
use Rattle.history_tree.specs.declared.version.Signature.{Signature}
use Rattle.history_tree.specs.History.{History, with_version}
use Rattle.history_tree.specs.States.{operations_to, state_of}
use Rattle.version_states.specs.Taking.{LedTo}
use Rattle.version_states.proofs.Taking.{one_start}
use Rattle.plain_repository.specs.State.{State, Workspace, Composite, folded, recorded_steps, has_operations, is_closed, workspace_of}
use Rattle.plain_repository.specs.Commits.{version_of, committed, can_commit}
use Rattle.plain_repository.specs.Composites.{with_open, with_closed}
use Rattle.plain_repository.specs.Edits.{added, with_more}
use Rattle.plain_repository.specs.Local.{can_undo}
use Rattle.plain_repository.proofs.Encodings.{and_left}
use Rattle.plain_repository.specs.Orderly.{Orderly, IsOrderlyWorkspace, IfThere}
use Rattle.plain_repository.proofs.Commits as commits
use Rattle.plain_repository.proofs.Kept.{commit_itself}
use Rattle.plain_repository.proofs.Recorded.{ByWay, by_way, steps_append, more_steps, opened_steps, closed_steps}
use Rattle.plain_repository.proofs.Runs.{closed_steps_are, not_open, workspace_folded, workspace_model}
use Rattle.repo_state.specs.declared.workspace.Workspace.{Workspace as Kept}
use Rattle.repo_state.specs.Keeping.{ModelFits, FitsAny, plain_any, plain_of}

-- a model that is kept stays the working model where the same is folded
pub fits_same : (meta : Meta) (h g : History) (w new : Kept) → folded meta g (plain_of new) ≡ folded meta h (plain_of w) → new.model ≡ w.model
    → ModelFits meta h w → ModelFits meta g new
fits_same meta h g w new same model fits m is = let old = fits m (sym model ∙ is) in (same ∙ old.0, old.1)

-- a model that is put into the workspace
pub fits_now : (meta : Meta) (h : History) (new : Kept) (m : models.State) → new.model ≡ Some m → folded meta h (plain_of new) ≡ Some m → Good meta m
    → ModelFits meta h new
fits_now meta h new m kept folds good n is =
    subst (λ (x : models.State). (folded meta h (plain_of new) ≡ Some x) × Good meta x) (same_Some m n (sym kept ∙ is)) (folds, good)

-- ---- Edit
more_folded : (meta : Meta) (h : History) (os : List Operation) (w : Workspace) (c : Option Composite) → w.composite ≡ c
    → folded meta h (added os c w) ≡ fold meta (state_of meta h w.base) (recorded_steps w ++ steps_all os)
more_folded meta h os w None is = ap (λ (l : List Step). fold meta (state_of meta h w.base) l) (more_steps os None w is)
more_folded meta h os w (Some c) is = ap (λ (l : List Step). fold meta (state_of meta h w.base) l) (more_steps os (Some c) w is)

-- further operations lead on from the working model
pub more_leads : (meta : Meta) (h : History) (os : List Operation) (w : Workspace) (m n : models.State) → folded meta h w ≡ Some m
    → fold_package meta m os ≡ Some n → folded meta h (with_more os w) ≡ Some n
more_leads meta h os w m n folds leads =
    more_folded meta h os w w.composite refl ∙ fold_append meta (state_of meta h w.base) m (recorded_steps w) (steps_all os) folds ∙ leads

-- ---- Begin and End
pub open_folded : (meta : Meta) (h : History) (name : List ℕ) (w : Workspace) → is_closed (Some w) ≡ true → folded meta h (with_open name w) ≡ folded meta h w
open_folded meta h name w closed =
    ap (λ (l : List Step). fold meta (state_of meta h w.base) l) (opened_steps w.operations w.composite (not_open w.composite closed))

pub closed_folded : (meta : Meta) (h : History) (w : Workspace) → folded meta h (with_closed w) ≡ folded meta h w
closed_folded meta h w = ap (λ (l : List Step). fold meta (state_of meta h w.base) l) (closed_steps w.operations w.composite)

-- ---- Undo
steps_of_one : (o : Operation) → steps_all (o ∷ []) ≡ steps_of o
steps_of_one o = append-nil (steps_of o)

module _ (meta : Meta) (sound : Sound meta) (h : History) (w : Workspace) (front : List Operation) (o : Operation) (m : models.State)
    (closed : is_closed (Some w) ≡ true) (is : w.operations ≡ front ++ o ∷ []) (good : Good meta (state_of meta h w.base))
    (folds : folded meta h w ≡ Some m) where
  abbrev base : models.State
  base = state_of meta h w.base

  all_steps : recorded_steps w ≡ steps_all front ++ steps_of o
  all_steps = closed_steps_are w w.composite refl closed ∙ ap steps_all is ∙ steps_append front (o ∷ [])
      ∙ ap (λ (l : List Step). steps_all front ++ l) (steps_of_one o)

  before_last : ByWay meta base m (steps_all front) (steps_of o)
  before_last = by_way meta base m (steps_all front) (steps_of o) (ap (λ (l : List Step). fold meta base l) (sym all_steps) ∙ folds)

  way_good : Good meta before_last.way
  way_good = steps_keep_good meta sound base before_last.way good (steps_all front) before_last.first

  last_run : fold_package meta before_last.way (o ∷ []) ≡ Some m
  last_run = ap (λ (l : List Step). fold meta before_last.way l) (steps_of_one o) ∙ before_last.rest

  -- the last operation led to the model
  pub last_led : LedTo meta (o ∷ []) m
  last_led = record { before = before_last.way; good = way_good; run = last_run }

  -- and from the one that the others lead to
  pub undone_leads : (n : models.State) → fold_package meta n (o ∷ []) ≡ Some m → Good meta n → folded meta h (record w { operations = front }) ≡ Some n
  undone_leads n back n_good =
      let same : n ≡ before_last.way = one_start meta sound n before_last.way m n_good way_good (steps_all (o ∷ [])) back last_run in
      ap (λ (l : List Step). fold meta base l) (closed_steps_are (record w { operations = front }) w.composite refl closed) ∙ before_last.first
      ∙ ap Some (sym same)

-- what the workspace keeps then
pub undone_fits : (meta : Meta) → Sound meta
    → (h : History) (w : Kept) (front : List Operation) (o : Operation) (m : models.State) (r : Option models.State) (n : models.State) → r ≡ Some n
    → IfSome r (λ n. fold_package meta n (o ∷ []) ≡ Some m)
    → IfSome r (λ n. Good meta n) → can_undo (Some (plain_of w)) ≡ true → w.operations.items ≡ front ++ o ∷ [] → Good meta (state_of meta h w.base)
    → ModelFits meta h w → w.model ≡ Some m
    → (folded meta h (record (plain_of w) { operations = front }) ≡ Some n) × Good meta n
undone_fits meta sound h w front o m None n is back good can items base_good fits model = absurd cc
undone_fits meta sound h w front o m (Some x) n is back good can items base_good fits model =
    subst (λ (x : models.State). (folded meta h (record (plain_of w) { operations = front }) ≡ Some x) × Good meta x) (same_Some x n is) (
      undone_leads meta sound h (plain_of w) front o m
          (and_left (is_closed (Some (plain_of w))) (has_operations (Some (plain_of w))) can) items base_good (fits m model).0 x back good,
      good,
    )

-- ---- Commit
-- a commit that could be made leaves what is folded
pub commit_folded : (s : State) (meta : Meta) (k : Orderly meta s) (ws : ℕ) (w : Workspace) (signature : Option Signature) (message : List ℕ)
    (there : workspace_of s ws ≡ Some w) (can : can_commit s.history (Some w) ≡ true)
    → folded meta (with_version s.history (version_of w signature message)) (committed (length s.history.versions) w) ≡ folded meta s.history w
commit_folded s meta k ws w signature message there can =
    let order = commits.order s meta k ws w signature message there can in
    let more = with_version s.history (version_of w signature message) in
    let n = length s.history.versions in
    let after : IsOrderlyWorkspace meta more (committed n w) =
    commit_itself meta s k signature message w order (commits.at_head s meta k ws w signature message there can)
    (commits.closed s meta k ws w signature message there can) w.composite refl in
    workspace_folded meta more (committed n w) after.runs
    ∙ ap Some (sym (workspace_model meta more (committed n w) after.runs) ∙ commits.commit_model s meta k ws w signature message there can
    ∙ workspace_model meta s.history w order.runs)
    ∙ sym (workspace_folded meta s.history w order.runs)

-- ---- the other workspaces
-- a history with the same operations up to a base leads to the same
pub same_folded : (meta : Meta) (g h : History) (w : Workspace) → operations_to g w.base ≡ operations_to h w.base → folded meta g w ≡ folded meta h w
same_folded meta g h w same = ap (λ (os : List Operation). fold meta (unwrap_or (fold_package meta nothing os) nothing) (recorded_steps w)) same

module _ (meta : Meta) (h g : History) (same : (v : ℕ) → v < length h.versions → operations_to g v ≡ operations_to h v) where
  each_fits : (ws : List (Option Kept)) → AllByRecursion (IfThere (IsOrderlyWorkspace meta h)) (map plain_any ws) → AllByRecursion (FitsAny meta h) ws
      → AllByRecursion (FitsAny meta g) ws
  each_fits [] order fits = tt
  each_fits (None ∷ ws) order fits = (tt, each_fits ws order.1 fits.1)
  each_fits (Some w ∷ ws) order fits =
      (fits_same meta h g w w (same_folded meta g h (plain_of w) (same w.base order.0.stands.base)) refl fits.0, each_fits ws order.1 fits.1)

  -- each model that is kept stays its workspace's in such a history
  pub all_fit : (ws : List (Option Kept)) → AllByRecursion (IfThere (IsOrderlyWorkspace meta h)) (map plain_any ws) → All (FitsAny meta h) ws
      → All (FitsAny meta g) ws
  all_fit ws order fits = All-from_recursion (FitsAny meta g) ws (each_fits ws order (recursion_from_All (FitsAny meta h) ws fits))
