-- What holds of spelled states and of their packages.
use Rattle.std.specs.Prelude.{◌≡◌, ◌<◌, ◌≤◌, ◌^◌, List, All, length, Some}
use Rattle.ecore_meta.specs.Meta.{Meta}
use Rattle.model_state.specs.Good.{Good, Sound}
use Rattle.model_state.specs.Packages.{fold_package, steps_all}
use Rattle.model_state.specs.State.{State, nothing}
use Rattle.model_state.specs.Steps.{fold}
use Rattle.model_state.specs.declared.operation.Operation.{Operation}
use Rattle.model_state.specs.declared.step.Step.{Step}
use Rattle.op_form.specs.Formed.{IsStep, IsPackage}
use Rattle.op_form.specs.Packages.{package_encoding}
use Rattle.state_steps.specs.Whole.{as_steps}
use Rattle.state_form.specs.Form.{whole_package}
use Rattle.state_form.specs.Spelled.{IsSpelled}

-- the empty state is spelled
abbrev pub NothingIsSpelled : Type 0
NothingIsSpelled = (meta : Meta) → IsSpelled meta nothing

-- steps that have an encoding lead from a spelled state to one
abbrev pub StepsKeepSpelled : Type 0
StepsKeepSpelled = (meta : Meta) → Sound meta → (m n : State) → IsSpelled meta m → (steps : List Step) → All IsStep steps → fold meta m steps ≡ Some n
    → IsSpelled meta n

-- and so do packages
abbrev pub PackagesKeepSpelled : Type 0
PackagesKeepSpelled = (meta : Meta) → Sound meta → (m n : State) → IsSpelled meta m → (operations : List Operation) → IsPackage operations
    → fold_package meta m operations ≡ Some n → IsSpelled meta n

-- each step that builds a spelled state has an encoding
abbrev pub WholeStepsAreSpelled : Type 0
WholeStepsAreSpelled = (meta : Meta) (m : State) → Good meta m → IsSpelled meta m → All IsStep (as_steps meta m)

-- the package that builds a spelled state has one, where it has fewer than 2 ^ 32 steps
abbrev pub WholeIsSpelled : Type 0
WholeIsSpelled = (meta : Meta) (m : State) → Good meta m → IsSpelled meta m → length (as_steps meta m) < 2 ^ 32 → IsPackage (whole_package meta m)

-- the package of a state leads to it from the empty project
abbrev pub WholeLeads : Type 0
WholeLeads = (meta : Meta) → Sound meta → (m : State) → Good meta m → fold_package meta nothing (whole_package meta m) ≡ Some m

-- a package has at least a byte for each step
abbrev pub StepsTakeBytes : Type 0
StepsTakeBytes = (operations : List Operation) → length (steps_all operations) ≤ length (package_encoding operations)
