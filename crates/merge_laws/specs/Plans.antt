-- The two packages of an update and of a merge.
use Rattle.std.specs.Prelude.{ℕ, List, ◌++◌}
use Rattle.model_state.specs.Packages.{rev_package}
use Rattle.model_state.specs.declared.operation.Operation.{Operation}
use Rattle.history_tree.specs.History.{History, head}
use Rattle.history_tree.specs.MergeBase.{last_common, merge_base}
use Rattle.history_tree.specs.Since.{operations_after}

-- theirs of an update: the operations of a branch's versions after the base
abbrev pub theirs_of_update : History → ℕ → ℕ → List Operation
theirs_of_update h branch base = operations_after h base (head h branch)

-- theirs of a merge: the operations on the other version's path after the one where the merge begins
abbrev pub theirs_of_merge : History → ℕ → List ℕ → ℕ → List Operation
theirs_of_merge h base pending other = operations_after h (merge_base h base pending other) other

-- The operations that lead from where a merge begins to a working model. They go back to the last version that both paths have,
-- and from there to the base. Then come the local ones.
abbrev pub mine_of_merge : History → ℕ → List ℕ → List Operation → ℕ → List Operation
mine_of_merge h base pending local other =
    let common = last_common h base other in
    rev_package (operations_after h common (merge_base h base pending other)) ++ (operations_after h common base ++ local)
