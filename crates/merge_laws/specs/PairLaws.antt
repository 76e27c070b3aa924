-- What is promised of pairs of steps.
use Rattle.std.specs.Prelude.{◌≡◌, true, false, Some}
use Rattle.ecore_meta.specs.Meta.{Meta}
use Rattle.model_state.specs.declared.step.Step.{Step}
use Rattle.model_state.specs.State.{State}
use Rattle.model_state.specs.Steps.{Can, apply, rev}
use Rattle.merge_laws.specs.Joins.{step_eq, joined}

-- the test holds of equal steps, and of no others
abbrev pub StepTestIsExact : Type 0
StepTestIsExact = (s t : Step) → (step_eq s t ≡ true → s ≡ t) × (s ≡ t → step_eq s t ≡ true)

-- the one step can be taken where the two can one after the other, and does what they do
abbrev pub JoinDoesBoth : Type 0
JoinDoesBoth = (meta : Meta) (m : State) (s t u : Step) → Can meta m s → Can meta (apply meta m s) t → step_eq t (rev s) ≡ false → joined s t ≡ Some u
    → Can meta m u × (apply meta m u ≡ apply meta (apply meta m s) t)
