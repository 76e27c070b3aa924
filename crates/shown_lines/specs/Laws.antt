-- Steps that were taken are of the metamodel.
use Rattle.std.specs.Prelude.{◌≡◌, List, Some}
use Rattle.ecore_meta.specs.Meta.{Meta}
use Rattle.model_state.specs.Good.{Good, Sound}
use Rattle.model_state.specs.Packages.{fold_package}
use Rattle.model_state.specs.State.{State}
use Rattle.model_state.specs.Steps.{fold}
use Rattle.model_state.specs.declared.operation.Operation.{Operation}
use Rattle.model_state.specs.declared.step.Step.{Step}
use Rattle.shown_lines.specs.Typed.{AreTyped, IsTypedPackage}

-- steps that can be taken one by one from a good state
abbrev pub TakenStepsAreTyped : Type 0
TakenStepsAreTyped = (meta : Meta) → Sound meta → (m n : State) → Good meta m → (steps : List Step) → fold meta m steps ≡ Some n → AreTyped meta steps

-- a package whose steps can
abbrev pub TakenPackagesAreTyped : Type 0
TakenPackagesAreTyped = (meta : Meta) → Sound meta → (m n : State) → Good meta m → (p : List Operation) → fold_package meta m p ≡ Some n → IsTypedPackage meta p
