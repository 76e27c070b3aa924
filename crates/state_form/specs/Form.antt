-- The package that builds a state from the empty project, and its bytes.
use Rattle.std.specs.Prelude.{◌≡◌, ℕ, List, [], ◌∷◌, length, Some}
use Rattle.ecore_meta.specs.Meta.{Meta}
use Rattle.model_state.specs.Packages.{fold_package}
use Rattle.model_state.specs.State.{State, nothing}
use Rattle.model_state.specs.declared.operation.OpKind.TheVariants.{Create}
use Rattle.model_state.specs.declared.operation.Operation.{Operation}
use Rattle.model_state.specs.declared.operation.Operation.TheVariants.{Simple}
use Rattle.model_state.specs.declared.step.Step.{Step}
use Rattle.op_form.specs.Formed.{IsPackage}
use Rattle.op_form.specs.Packages.{package_encoding}
use Rattle.state_steps.specs.Whole.{as_steps}

-- one operation with all steps; none where there is no step
abbrev pub as_package : List Step → List Operation
as_package [] = []
as_package (s ∷ ss) = Simple Create (s ∷ ss) ∷ []

-- the package that builds a state
abbrev pub whole_package : Meta → State → List Operation
whole_package meta m = as_package (as_steps meta m)

-- the bytes of that package
abbrev pub state_encoding : Meta → State → List ℕ
state_encoding meta m = package_encoding (whole_package meta m)

-- and how many they are
abbrev pub state_size : Meta → State → ℕ
state_size meta m = length (state_encoding meta m)

-- the bytes are a package's, whose operations lead to the state from the empty project
pub record IsStateEncoding (meta : Meta) (m : State) (bytes : List ℕ) : Type 0 where
  pub operations : List Operation
  pub spelled : IsPackage operations
  pub is : bytes ≡ package_encoding operations
  pub leads : fold_package meta nothing operations ≡ Some m
