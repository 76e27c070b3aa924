-- What came after a version: the versions on another's path that follow it, and their operations.
use Rattle.std.specs.Prelude.{ℕ, nat_lt, List}
use Rattle.std.specs.List.{filter}
use Rattle.model_state.specs.declared.operation.Operation.{Operation}
use Rattle.history_tree.specs.History.{History, path}
use Rattle.history_tree.specs.States.{operations_of}

-- the versions on a version's path that come after another
abbrev pub path_after : History → ℕ → ℕ → List ℕ
path_after h v last = filter (λ u. nat_lt v u) (path h last)

-- their operations, one version after another
abbrev pub operations_after : History → ℕ → ℕ → List Operation
operations_after h v last = operations_of h.versions (path_after h v last)
