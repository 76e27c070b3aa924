-- the steps of those gone over
use Rattle.std.proofs.Common.{◌≡◌, take}
use Rattle.model_state.specs.Packages.{steps_all}
use Rattle.version_states.proofs.states.copy_steps.Given as goal

abbrev pub invariant-loop-operation : goal.invariant-loop-operation
invariant-loop-operation l = l.steps ≡ steps_all (take l.operation-index l.operations)
