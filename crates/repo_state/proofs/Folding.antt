-- What is recorded in a workspace, taken one operation after another.
use Rattle.std.proofs.Common.{◌≡◌, ◌≢◌, List, ◌++◌, Some, None, Result, Ok, Err, ⊎_elim, ◌∙◌, ap}
use Rattle.std.specs.Prelude.{IfErr, OnOk}
use Rattle.std.specs.Result.{IsErr, IsErrAnd}
use Rattle.model_state.specs.declared.step.StepFault.TheVariants.{Memory}
use Rattle.model_state.specs.Faults.{IsFault}
use Rattle.ecore_meta.specs.Meta.{Meta}
use Rattle.model_state.specs.State.{State}
use Rattle.model_state.specs.declared.step.Step.{Step}
use Rattle.model_state.specs.declared.step.StepFault.{StepFault}
use Rattle.model_state.specs.Steps.{fold, fault_along}
use Rattle.model_state.specs.declared.operation.Operation.{Operation}
use Rattle.model_state.specs.Packages.{steps_all, fold_package}
use Rattle.model_laws.proofs.Runs.{fold_append}
use Rattle.version_states.proofs.Folding.{fold_append_none, fold_none}

-- ---- workspaces
-- operations that can't all be taken lead nowhere, with steps after them too
pub first_none : (meta : Meta) (m : State) (os : List Operation) (ss : List Step) (e : StepFault) (r : Result (Unit {0}) StepFault) → IsErr r
    → IsErrAnd r (λ f. f ≡ e) → (e ≢ Memory → fold_package meta m os ≡ None)
    → IfErr r (λ f. f ≢ Memory → fold meta m (steps_all os ++ ss) ≡ None)
first_none meta m os ss e (Ok x) is_err is cannot = absurd cc
first_none meta m os ss e (Err f) is_err is cannot = λ not_memory. fold_append_none meta m (steps_all os) ss (cannot (λ memory. not_memory (is ∙ memory)))

-- steps after operations that were taken
pub both_done : (meta : Meta) (m n k : State) (os : List Operation) (ss ts : List Step) (r : Result (Unit {0}) StepFault) → ss ≡ ts
    → fold_package meta m os ≡ Some n → OnOk r (fold meta n ts ≡ Some k) → OnOk r (fold meta m (steps_all os ++ ss) ≡ Some k)
both_done meta m n k os ss ts (Ok x) same first done =
    ap (λ (l : List Step). fold meta m (steps_all os ++ l)) same ∙ fold_append meta m n (steps_all os) ts first ∙ done
both_done meta m n k os ss ts (Err f) same first done = tt

pub second_none : (meta : Meta) (m n : State) (os : List Operation) (ss ts : List Step) (r : Result (Unit {0}) StepFault) → ss ≡ ts
    → fold_package meta m os ≡ Some n → IfErr r (λ e. IsFault (fault_along meta n ts) e)
    → IfErr r (λ e. e ≢ Memory → fold meta m (steps_all os ++ ss) ≡ None)
second_none meta m n os ss ts (Ok x) same first cannot = tt
second_none meta m n os ss ts (Err f) same first cannot = λ not_memory. ⊎_elim
    (λ memory. absurd (not_memory memory))
    (λ at. ap (λ (l : List Step). fold meta m (steps_all os ++ l)) same ∙ fold_append meta m n (steps_all os) ts first ∙ fold_none meta n ts f at) cannot
