-- The state of a version: what the operations on its path lead to.
use Rattle.std.specs.Prelude.{ℕ, List, [], ◌∷◌, ◌++◌, Option, slice_get}
use Rattle.std.specs.Option.{option_map_or, unwrap_or}
use Rattle.ecore_meta.specs.Meta.{Meta}
use Rattle.model_state.specs.State.{State, nothing}
use Rattle.model_state.specs.Packages.{fold_package}
use Rattle.model_state.specs.declared.operation.Operation.{Operation}
use Rattle.history_tree.specs.declared.version.Version.{Version}
use Rattle.history_tree.specs.History.{History, path}

-- the package of the version of that number in a list
abbrev pub package_of_version : List Version → ℕ → List Operation
package_of_version versions v = option_map_or (λ version. version.«package») (slice_get versions v) []

-- the operations of versions, one version after another
abbrev pub operations_of : List Version → List ℕ → List Operation
operations_of versions [] = []
operations_of versions (v ∷ vs) = package_of_version versions v ++ operations_of versions vs

-- the operations of the versions on a version's path
abbrev pub operations_to : History → ℕ → List Operation
operations_to h v = operations_of h.versions (path h v)

-- What they lead to from the empty project, one by one. None where one of them can't be taken, which comes of no event that could
-- be made.
abbrev pub state_folded : Meta → History → ℕ → Option State
state_folded meta h v = fold_package meta nothing (operations_to h v)

-- the state of a version
abbrev pub state_of : Meta → History → ℕ → State
state_of meta h v = unwrap_or (state_folded meta h v) nothing
