-- What an event that could be made says of its workspace.
use Rattle.std.proofs.Common.{◌≡◌, ◌∙◌, refl, ℕ, Bool, true, false, List, [], ◌∷◌, Option, Some, None, is_some, sym, ap, subst}
use Rattle.ecore_meta.specs.Meta.{Meta}
use Rattle.ecore_meta.specs.Sound.{Sound}
use Rattle.model_state.specs.Good.{Good}
use Rattle.model_state.specs.Names.{is_name}
use Rattle.model_state.specs.Packages.{fold_package}
use Rattle.model_state.specs.declared.operation.Operation.{Operation}
use Rattle.history_tree.specs.History.{History}
use Rattle.history_tree.specs.States.{state_of}
use Rattle.op_form.specs.declared.event.Event.TheVariants.{Begin, Edit, Undo}
use Rattle.plain_repository.specs.State.{State, Workspace, folded, is_closed, model_of, workspace_of}
use Rattle.plain_repository.specs.Edits.{can_follow, takes, with_more}
use Rattle.plain_repository.specs.Events.{playable_with}
use Rattle.plain_repository.specs.Local.{can_undo}
use Rattle.plain_repository.specs.Orderly.{IsOrderly}
use Rattle.plain_repository.proofs.Encodings.{and_left, and_right}
use Rattle.plain_repository.proofs.Reached.{models_are_defined, versions_are_good, workspaces_stand}
use Rattle.repo_state.specs.declared.workspace.Workspace.{Workspace as Kept}
use Rattle.repo_state.specs.Keeping.{ModelFits, plain_of}
use Rattle.repo_state.specs.Making.{LeadTo}
use Rattle.repo_state.proofs.Effects.{could_with}
use Rattle.repo_state.proofs.Models.{fits_now, more_leads}
use Rattle.repo_state.proofs.Ordered.{is_there}
use Rattle.model_state.specs.State as models

pub begin_closed : (s : State) (meta : Meta) (ws : ℕ) (name : List ℕ) (w : Workspace) → s.meta ≡ Some meta → workspace_of s ws ≡ Some w
    → playable_with s s.meta (Begin ws name) ≡ true → is_closed (Some w) ≡ true
begin_closed s meta ws name w begun there could =
    subst (λ (o : Option Workspace). is_closed o ≡ true) there
    (and_right (is_name name) (is_closed (workspace_of s ws)) (could_with s meta (Begin ws name) begun could))

pub undo_can : (s : State) (meta : Meta) (ws : ℕ) (w : Workspace) → s.meta ≡ Some meta → workspace_of s ws ≡ Some w
    → playable_with s s.meta (Undo ws) ≡ true → can_undo (Some w) ≡ true
undo_can s meta ws w begun there could = subst (λ (o : Option Workspace). can_undo o ≡ true) there (could_with s meta (Undo ws) begun could)

follow_takes : (meta : Meta) (h : History) (w : Workspace) (os : List Operation) → can_follow meta h (Some w) os ≡ true → takes w.composite os ≡ true
follow_takes meta h w [] could = absurd cc
follow_takes meta h w (x ∷ xs) could = and_left (takes w.composite (x ∷ xs)) (is_some (fold_package meta (model_of meta h w) (x ∷ xs))) could

pub edit_takes : (s : State) (meta : Meta) (ws : ℕ) (w : Workspace) (os : List Operation) → s.meta ≡ Some meta → workspace_of s ws ≡ Some w
    → playable_with s s.meta (Edit ws os) ≡ true → takes w.composite os ≡ true
edit_takes s meta ws w os begun there could =
    follow_takes meta s.history w os
    (subst (λ (o : Option Workspace). can_follow meta s.history o os ≡ true) there (could_with s meta (Edit ws os) begun could))

-- the state of a workspace's base is good
pub base_good : (s : State) (meta : Meta) (h : History) (ws : ℕ) (w : Workspace) → s.meta ≡ Some meta → s.history ≡ h → workspace_of s ws ≡ Some w
    → IsOrderly s → Sound meta → Good meta (state_of meta h w.base)
base_good s meta h ws w begun hist there orderly sound =
    subst (λ (g : History). Good meta (state_of meta g w.base)) hist
    (versions_are_good s meta (record { orderly = orderly; begun = begun }) w.base
    (workspaces_stand s meta w (is_there s meta ws w orderly begun there)).base)

-- the model after operations that are recorded fits
pub installed_fits : (s : State) (meta : Meta) (h : History) (ws : ℕ) (w new : Kept) (os : List Operation) (m : models.State) → s.meta ≡ Some meta
    → s.history ≡ h → workspace_of s ws ≡ Some (plain_of w) → IsOrderly s → LeadTo s ws os m
    → plain_of new ≡ with_more os (plain_of w) → new.model ≡ Some m → ModelFits meta h new
installed_fits s meta h ws w new os m begun hist there orderly leads is kept =
    let lead = leads meta (plain_of w) begun there in
    subst (λ (g : History). ModelFits meta g new) hist
    (fits_now meta s.history new m kept
    (ap (folded meta s.history) is
    ∙ more_leads meta s.history os (plain_of w) (model_of meta s.history (plain_of w)) m
    (models_are_defined s meta (plain_of w) (is_there s meta ws (plain_of w) orderly begun there)) lead.0) lead.1)

-- ---- the workspace of an event that could be made is there
pub tested : (test : Option Workspace → Bool) → test None ≡ false → (o : Option Workspace) → test o ≡ true → is_some o ≡ true
tested test none None is = absurd (by (sym none ∙ is))
  where
    by : false ≡ true → ⊥
    by e = cc
tested test none (Some w) is = refl
