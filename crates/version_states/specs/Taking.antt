-- A model that operations, or steps, led to from a good one.
use Rattle.std.specs.Prelude.{◌≡◌, List, Some}
use Rattle.ecore_meta.specs.Meta.{Meta}
use Rattle.model_state.specs.Good.{Good}
use Rattle.model_state.specs.Packages.{steps_all}
use Rattle.model_state.specs.State.{State}
use Rattle.model_state.specs.Steps.{fold}
use Rattle.model_state.specs.declared.operation.Operation.{Operation}
use Rattle.model_state.specs.declared.step.Step.{Step}

-- the steps led to the model, from a good one
pub record StepsLedTo (meta : Meta) (steps : List Step) (m : State) : Type 0 where
  pub before : State
  pub good : Good meta before
  pub run : fold meta before steps ≡ Some m

-- the operations did
abbrev pub LedTo : Meta → List Operation → State → Type 0
LedTo meta operations m = StepsLedTo meta (steps_all operations) m
