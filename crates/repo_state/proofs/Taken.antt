-- The model that a workspace keeps, by a tidying, an update, a merge and a discard.
use Rattle.std.proofs.Common.{◌≡◌, ℕ, List, [], ◌∷◌, ◌++◌, true, Option, Some, None, is_some, refl, sym, ◌∙◌, ap, subst}
use Rattle.std.specs.Prelude.{IfSome}
use Rattle.std.proofs.lemmas.Option.{same_Some}
use Rattle.ecore_meta.specs.Meta.{Meta}
use Rattle.ecore_meta.specs.Sound.{Sound}
use Rattle.model_state.specs.State as models
use Rattle.model_state.specs.Good.{Good}
use Rattle.model_state.specs.Steps.{fold}
use Rattle.model_state.specs.Packages.{fold_package, steps_all}
use Rattle.model_state.specs.declared.step.Step.{Step}
use Rattle.model_state.specs.declared.operation.Operation.{Operation}
use Rattle.model_laws.proofs.Packages.{steps_append}
use Rattle.model_laws.proofs.Runs.{fold_append}
use Rattle.history_tree.specs.History.{History}
use Rattle.history_tree.specs.States.{state_of}
use Rattle.version_states.specs.Taking.{LedTo}
use Rattle.version_states.proofs.Taking.{one_start}
use Rattle.plain_repository.specs.State.{State, Workspace, folded, is_closed, recorded_steps, with_changed, workspace_of}
use Rattle.plain_repository.specs.Orderly.{IsOrderly}
use Rattle.plain_repository.proofs.Places.{is_of_number, same_number}
use Rattle.plain_repository.proofs.Runs.{closed_steps_are}
use Rattle.repo_state.specs.declared.workspace.Workspace.{Workspace as Kept}
use Rattle.repo_state.specs.Keeping.{ModelFits, plain_of}
use Rattle.repo_state.specs.Planning.{AreTheirs, KeepModel, replaced, restarted, taken_up}
use Rattle.repo_state.proofs.Models.{fits_same}
use Rattle.repo_state.proofs.Ordered.{is_there, model_leads}

-- what is folded where no composite is open
pub closed_folded_is : (meta : Meta) (h : History) (w : Workspace) → is_closed (Some w) ≡ true
    → folded meta h w ≡ fold_package meta (state_of meta h w.base) w.operations
closed_folded_is meta h w closed = ap (λ (l : List Step). fold meta (state_of meta h w.base) l) (closed_steps_are w w.composite refl closed)

-- ---- what is recorded is taken back
pub closed_led : (meta : Meta) (h : History) (w : Workspace) (m : models.State) → is_closed (Some w) ≡ true → Good meta (state_of meta h w.base)
    → folded meta h w ≡ Some m → LedTo meta w.operations m
closed_led meta h w m closed good folds = record { before = state_of meta h w.base; good = good; run = sym (closed_folded_is meta h w closed) ∙ folds }

-- and leads to where it began
pub started : (meta : Meta) → Sound meta → (a m : models.State) (os : List Operation) (r : Option models.State) → Good meta a
    → fold_package meta a os ≡ Some m → IfSome r (λ n. fold_package meta n os ≡ Some m) → IfSome r (λ n. Good meta n) → IfSome r (λ n. n ≡ a)
started meta sound a m os None good run back goods = tt
started meta sound a m os (Some n) good run back goods = one_start meta sound n a m goods good (steps_all os) back run

-- ---- an update
-- theirs lead from where mine were taken back to the head
module _ (meta : Meta) (sound : Sound meta) (base before model head : models.State) (mine theirs xs : List Operation) (good : Good meta base)
    (before_good : Good meta before) (mine_lead : fold_package meta base mine ≡ Some model)
    (back : fold_package meta before mine ≡ Some model) (are : xs ≡ theirs) (theirs_lead : fold_package meta base theirs ≡ Some head) where
  pub theirs_follow : fold_package meta before xs ≡ Some head
  theirs_follow =
      ap (λ (m : models.State). fold_package meta m xs) (one_start meta sound before base model before_good good (steps_all mine) back mine_lead)
      ∙ ap (fold_package meta base) are ∙ theirs_lead

  pub head_is : (n : models.State) → fold_package meta before xs ≡ Some n → n ≡ head
  head_is n is = same_Some n head (sym is ∙ theirs_follow)

-- and the operations from there
pub then_lead : (meta : Meta) (n head : models.State) (ys os : List Operation) → n ≡ head → ys ≡ os → is_some (fold_package meta head os) ≡ true
    → is_some (fold_package meta n ys) ≡ true
then_lead meta n head ys os at are leads = ap is_some (ap (λ (m : models.State). fold_package meta m ys) at ∙ ap (fold_package meta head) are) ∙ leads

pub then_after : (meta : Meta) (n head : models.State) (ys os : List Operation) (r : Option models.State) → n ≡ head → ys ≡ os
    → IfSome r (λ m. fold_package meta n ys ≡ Some m) → IfSome r (λ m. fold_package meta head os ≡ Some m)
then_after meta n head ys os r at are after =
    subst (λ (l : List Operation). IfSome r (λ m. fold_package meta head l ≡ Some m)) are
    (subst (λ (x : models.State). IfSome r (λ m. fold_package meta x ys ≡ Some m)) at after)

-- ---- what is kept then
-- after an update
pub updated_fits : (meta : Meta) (h : History) (w : Workspace) (base : ℕ) (os : List Operation) (r : Option models.State) (m : models.State)
    → r ≡ Some m → IfSome r (λ m. fold_package meta (state_of meta h base) os ≡ Some m) → IfSome r (λ m. Good meta m)
    → is_closed (Some w) ≡ true → (folded meta h (restarted base os w) ≡ Some m) × Good meta m
updated_fits meta h w base os None m is after good closed = absurd cc
updated_fits meta h w base os (Some x) m is after good closed =
    subst (λ (y : models.State). (folded meta h (restarted base os w) ≡ Some y) × Good meta y) (same_Some x m is)
    (closed_folded_is meta h (restarted base os w) closed ∙ after, good)

-- after a merge
pub taken_folded : (meta : Meta) (h : History) (w : Workspace) (more : List Operation) (version : ℕ) (m : models.State) → is_closed (Some w) ≡ true
    → folded meta h w ≡ Some m → folded meta h (taken_up more version w) ≡ fold_package meta m more
taken_folded meta h w more version m closed folds =
    let base = state_of meta h w.base in
    closed_folded_is meta h (taken_up more version w) closed ∙ ap (fold meta base) (steps_append w.operations more)
    ∙ fold_append meta base m (steps_all w.operations) (steps_all more) (sym (closed_folded_is meta h w closed) ∙ folds)

pub merged_fits : (meta : Meta) (h : History) (w : Workspace) (more xs : List Operation) (version : ℕ) (m : models.State) (r : Option models.State)
    (n : models.State) → r ≡ Some n → IfSome r (λ n. fold_package meta m xs ≡ Some n) → IfSome r (λ n. Good meta n)
    → xs ≡ more → is_closed (Some w) ≡ true → folded meta h w ≡ Some m → (folded meta h (taken_up more version w) ≡ Some n) × Good meta n
merged_fits meta h w more xs version m None n is after good are closed folds = absurd cc
merged_fits meta h w more xs version m (Some x) n is after good are closed folds =
    subst (λ (y : models.State). (folded meta h (taken_up more version w) ≡ Some y) × Good meta y) (same_Some x n is)
    (taken_folded meta h w more version m closed folds ∙ ap (fold_package meta m) (sym are) ∙ after, good)

-- after a tidying
pub replaced_fits : (s : State) (meta : Meta) (h : History) (ws : ℕ) (w new : Kept) (os : List Operation) → s.meta ≡ Some meta → s.history ≡ h
    → workspace_of s ws ≡ Some (plain_of w) → KeepModel s ws os
    → plain_of new ≡ replaced os (plain_of w) → new.model ≡ w.model → ModelFits meta h w → ModelFits meta h new
replaced_fits s meta h ws w new os begun hist there keep is model fits =
    let same = subst (λ (g : History). folded meta g (replaced os (plain_of w)) ≡ folded meta g (plain_of w)) hist (keep meta (plain_of w) begun there) in
    fits_same meta h h w new (ap (λ (v : Workspace). folded meta h v) is ∙ same) model fits

-- ---- a change that leaves all in order
-- the workspace is there then
changed_there : (change : Workspace → Workspace) (s : State) (ws : ℕ) (w : Workspace) → workspace_of s ws ≡ Some w
    → workspace_of (with_changed change ws s) ws ≡ Some (change w)
changed_there change s ws w there = is_of_number (with_changed change ws s) ws ∙ same_number change s.workspaces ws w (sym (is_of_number s ws) ∙ there)

-- and what is recorded in it can be taken
pub changed_leads : (change : Workspace → Workspace) (s : State) (meta : Meta) (h : History) (ws : ℕ) (w : Workspace) → s.meta ≡ Some meta
    → s.history ≡ h → workspace_of s ws ≡ Some w → IsOrderly (with_changed change ws s)
    → is_some (folded meta h (change w)) ≡ true
changed_leads change s meta h ws w begun hist there orderly =
    let t = with_changed change ws s in
    subst (λ (g : History). is_some (folded meta g (change w)) ≡ true) hist
    (model_leads t meta (change w) (is_there t meta ws (change w) orderly begun (changed_there change s ws w there)))

pub restarted_leads : (s : State) (meta : Meta) (h : History) (ws : ℕ) (w : Workspace) (base : ℕ) (os : List Operation) → s.meta ≡ Some meta
    → s.history ≡ h → workspace_of s ws ≡ Some w → is_closed (Some w) ≡ true → IsOrderly (with_changed (restarted base os) ws s)
    → is_some (fold_package meta (state_of meta h base) os) ≡ true
restarted_leads s meta h ws w base os begun hist there closed orderly =
    ap is_some (sym (closed_folded_is meta h (restarted base os w) closed)) ∙ changed_leads (restarted base os) s meta h ws w begun hist there orderly

pub theirs_of_base : (s : State) (meta : Meta) (h : History) (ws : ℕ) (w : Workspace) (base : ℕ) (theirs : List Operation) → s.meta ≡ Some meta
    → s.history ≡ h → workspace_of s ws ≡ Some w → AreTheirs s ws base theirs
    → fold_package meta (state_of meta h w.base) theirs ≡ Some (state_of meta h base)
theirs_of_base s meta h ws w base theirs begun hist there are =
    subst (λ (g : History). fold_package meta (state_of meta g w.base) theirs ≡ Some (state_of meta g base)) hist (are meta w begun there)

pub there_closed : (s : State) (ws : ℕ) (w : Workspace) → workspace_of s ws ≡ Some w → is_closed (workspace_of s ws) ≡ true → is_closed (Some w) ≡ true
there_closed s ws w there closed = subst (λ (o : Option Workspace). is_closed o ≡ true) there closed
