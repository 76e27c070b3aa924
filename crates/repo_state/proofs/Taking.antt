-- Operations that a workspace takes, and what they lead to.
use Rattle.std.proofs.Common.{◌≡◌, ◌∙◌, ℕ, List, [], ◌∷◌, Bool, true, false, Option, Some, None, is_some, refl, sym, ap, subst}
use Rattle.std.specs.Prelude.{◌&&◌}
use Rattle.std.proofs.lemmas.Option.{same_Some}
use Rattle.ecore_meta.specs.Meta.{Meta}
use Rattle.model_state.specs.State as models
use Rattle.model_state.specs.Good.{Good}
use Rattle.model_state.specs.Packages.{fold_package}
use Rattle.model_state.specs.declared.operation.Operation.{Operation}
use Rattle.op_form.specs.declared.event.Event.TheVariants.{Edit}
use Rattle.plain_repository.specs.State.{State, Workspace, model_of, workspace_of}
use Rattle.plain_repository.specs.Edits.{can_follow}
use Rattle.plain_repository.specs.Events.{playable_with}
use Rattle.repo_state.specs.Making.{LeadTo, can_take}
use Rattle.repo_state.specs.Working.{IsWorkingModel}

-- the workspace that takes operations, and what is left to test of them
pub record Taker (s : State) (meta : Meta) (ws : ℕ) (os : List Operation) : Type 0 where
  pub workspace : Workspace
  pub there : workspace_of s ws ≡ Some workspace
  pub tests : playable_with s s.meta (Edit ws os) ≡ is_some (fold_package meta (model_of meta s.history workspace) os)

taker_by : (s : State) (meta : Meta) (ws : ℕ) (os : List Operation) (o : Option Workspace) → s.meta ≡ Some meta → workspace_of s ws ≡ o
    → can_take (Some meta) o os ≡ true → Taker s meta ws os
taker_by s meta ws os None begun there can = absurd cc
taker_by s meta ws [] (Some w) begun there can = absurd cc
taker_by s meta ws (x ∷ xs) (Some w) begun there can = record {
  workspace = w;
  there = there;
  tests = ap (λ (m : Option Meta). playable_with s m (Edit ws (x ∷ xs))) begun
      ∙ ap (λ (o : Option Workspace). can_follow meta s.history o (x ∷ xs)) there
      ∙ ap (λ (b : Bool). b && is_some (fold_package meta (model_of meta s.history w) (x ∷ xs))) can;
}

pub taker : (s : State) (meta : Meta) (ws : ℕ) (os : List Operation) → s.meta ≡ Some meta → can_take s.meta (workspace_of s ws) os ≡ true → Taker s meta ws os
taker s meta ws os begun can =
    taker_by s meta ws os (workspace_of s ws) begun refl (subst (λ (m : Option Meta). can_take m (workspace_of s ws) os ≡ true) begun can)

-- one that takes operations is there
pub taker_there : (m : Option Meta) (o : Option Workspace) (os : List Operation) → can_take m o os ≡ true → is_some o ≡ true
taker_there None o os can = absurd cc
taker_there (Some meta) None os can = absurd cc
taker_there (Some meta) (Some w) os can = refl

-- operations that it doesn't take are no event that could be made
pub not_taken : (s : State) (ws : ℕ) (os : List Operation) (m : Option Meta) (o : Option Workspace) → s.meta ≡ m → workspace_of s ws ≡ o
    → can_take m o os ≡ false → playable_with s s.meta (Edit ws os) ≡ false
not_taken s ws os None o begun there can = ap (λ (m : Option Meta). playable_with s m (Edit ws os)) begun
not_taken s ws os (Some meta) None begun there can =
    ap (λ (m : Option Meta). playable_with s m (Edit ws os)) begun ∙ ap (λ (o : Option Workspace). can_follow meta s.history o os) there
not_taken s ws [] (Some meta) (Some w) begun there can =
    ap (λ (m : Option Meta). playable_with s m (Edit ws [])) begun ∙ ap (λ (o : Option Workspace). can_follow meta s.history o []) there
not_taken s ws (x ∷ xs) (Some meta) (Some w) begun there can =
    ap (λ (m : Option Meta). playable_with s m (Edit ws (x ∷ xs))) begun ∙ ap (λ (o : Option Workspace). can_follow meta s.history o (x ∷ xs)) there
    ∙ ap (λ (b : Bool). b && is_some (fold_package meta (model_of meta s.history w) (x ∷ xs))) can

module _ (s : State) (meta : Meta) (ws : ℕ) (os : List Operation) (begun : s.meta ≡ Some meta) (t : Taker s meta ws os) (m : models.State)
    (is : IsWorkingModel s ws m) where
  at : m ≡ model_of meta s.history t.workspace
  at = (is meta t.workspace begun t.there).0

  pub model_good : Good meta m
  model_good = (is meta t.workspace begun t.there).1

  pub taken_could : (n : models.State) → fold_package meta m os ≡ Some n → playable_with s s.meta (Edit ws os) ≡ true
  taken_could n done = t.tests ∙ ap (λ (x : models.State). is_some (fold_package meta x os)) (sym at) ∙ ap is_some done

  pub taken_cannot : fold_package meta m os ≡ None → playable_with s s.meta (Edit ws os) ≡ false
  taken_cannot none = t.tests ∙ ap (λ (x : models.State). is_some (fold_package meta x os)) (sym at) ∙ ap is_some none

  pub taken_lead : (n : models.State) → fold_package meta m os ≡ Some n → Good meta n → LeadTo s ws os n
  taken_lead n done good meta' w' begun' there' =
      let both = subst (λ (x : Meta). (fold_package x m os ≡ Some n) × Good x n) (same_Some meta meta' (sym begun ∙ begun')) (done, good) in
      (subst (λ (x : models.State). fold_package meta' x os ≡ Some n) (is meta' w' begun' there').0 both.0, both.1)
