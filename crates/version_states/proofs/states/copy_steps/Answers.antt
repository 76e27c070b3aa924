use Rattle.std.proofs.Common.{ap, ◌∙◌}
use Rattle.model_state.specs.Packages.{steps_of}
use Rattle.version_states.proofs.Taking.{steps_more}
use Rattle.version_states.proofs.states.copy_steps.Goals as goal

pub loop-operation-preserved : goal.loop-operation-preserved
loop-operation-preserved c =
    steps_more c.args.operations.now c.loop-operation.steps c.push_copies.new.out c.steps.result.now c.loop-operation.operation-index
    c.operation-item.result c.loop-operation-test.true c.loop-operation.invariant c.in_ok-push_copies.ensures
    (c.steps.ensures ∙ ap steps_of c.operation-item.is)
