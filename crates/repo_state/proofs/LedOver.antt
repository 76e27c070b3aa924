-- A working model that is led to be that of another workspace.
use Rattle.std.proofs.Common.{◌≡◌, ℕ, ◌<◌, ◌++◌, true, length, List, Option, Some, None, Result, Ok, Err, is_some, refl, sym, ap, ap₂, subst, ◌∙◌}
use Rattle.std.specs.Prelude.{IfOk, OnOk}
use Rattle.ecore_meta.specs.Meta.{Meta}
use Rattle.ecore_meta.specs.Sound.{Sound}
use Rattle.model_state.specs.State as models
use Rattle.model_state.specs.Good.{Good}
use Rattle.model_state.specs.Steps.{fold}
use Rattle.model_state.specs.Packages.{steps_all}
use Rattle.model_state.specs.declared.step.Step.{Step}
use Rattle.model_state.specs.declared.operation.Operation.{Operation}
use Rattle.history_tree.specs.History.{History}
use Rattle.history_tree.specs.States.{state_folded, state_of}
use Rattle.version_states.specs.Taking.{StepsLedTo}
use Rattle.version_states.proofs.Taking.{one_start}
use Rattle.plain_repository.specs.State.{State, Workspace, folded, model_of, open_steps, workspace_of}
use Rattle.plain_repository.specs.Orderly.{IsOrderly}
use Rattle.plain_repository.proofs.Reached.{models_are_defined, workspaces_stand}
use Rattle.repo_state.specs.Working.{IsWorkingModel}
use Rattle.repo_state.proofs.Ordered.{base_leads, is_there, model_leads}

-- ---- what is recorded is taken back
module _ (meta : Meta) (h : History) (w : Workspace) (os : List Operation) (ss : List Step) (m : models.State) (operations : os ≡ w.operations)
    (steps : ss ≡ open_steps w.composite) (good : Good meta (state_of meta h w.base)) (folds : folded meta h w ≡ Some m) where
  run : fold meta (state_of meta h w.base) (steps_all os ++ ss) ≡ Some m
  run = ap₂ (λ (l : List Operation) (k : List Step). fold meta (state_of meta h w.base) (steps_all l ++ k)) operations steps ∙ folds

  pub recorded_led : StepsLedTo meta (steps_all os ++ ss) m
  recorded_led = record { before = state_of meta h w.base; good = good; run = run }

  -- and leads to the state of the base
  pub base_again : Sound meta → (n : models.State) → Good meta n → fold meta n (steps_all os ++ ss) ≡ Some m → n ≡ state_of meta h w.base
  base_again sound n n_good back = one_start meta sound n (state_of meta h w.base) m n_good good (steps_all os ++ ss) back run

-- ---- of a workspace that is there
module _ (s : State) (meta : Meta) (h : History) (k : ℕ) (w : Workspace) (orderly : IsOrderly s) (begun : s.meta ≡ Some meta) (hist : s.history ≡ h)
    (there : workspace_of s k ≡ Some w) where
  pub base_below : w.base < length h.versions
  base_below = subst (λ (g : History). w.base < length g.versions) hist (workspaces_stand s meta w (is_there s meta k w orderly begun there)).base

  pub base_led : is_some (state_folded meta h w.base) ≡ true
  base_led = subst (λ (g : History). is_some (state_folded meta g w.base) ≡ true) hist (base_leads s meta w (is_there s meta k w orderly begun there))

  pub model_led : is_some (folded meta h w) ≡ true
  model_led = subst (λ (g : History). is_some (folded meta g w) ≡ true) hist (model_leads s meta w (is_there s meta k w orderly begun there))

  pub model_folded : (m : models.State) → IsWorkingModel s k m → folded meta h w ≡ Some m
  model_folded m is =
      subst (λ (g : History). folded meta g w ≡ Some m) hist
      (models_are_defined s meta w (is_there s meta k w orderly begun there) ∙ ap (λ (x : models.State). Some x) (sym (is meta w begun there).0))
