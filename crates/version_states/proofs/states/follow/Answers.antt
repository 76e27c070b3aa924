use Rattle.std.proofs.Common.{◌≡◌, List, Some, ◌∙◌, ap, subst}
use Rattle.model_state.specs.declared.step.Step.{Step}
use Rattle.model_state.specs.Faults.{IsFault}
use Rattle.model_state.specs.Steps.{fold, fault_along}
use Rattle.model_state.specs.Packages.{steps_of}
use Rattle.version_states.proofs.Folding.{operation_on, cannot_fold}
use Rattle.version_states.proofs.states.follow.Goals as goal

pub returns-in_err-take_steps-clause-cannot : goal.returns-in_err-take_steps-clause-cannot
returns-in_err-take_steps-clause-cannot c =
    cannot_fold c.args.meta.now c.args.model.now c.loop-operation.model c.args.operations.now c.loop-operation.operation-index c.operation-item.result
    c.in_err-take_steps.field-0.0 c.from_residual.result c.from_residual.ensures.0 c.from_residual.ensures.1
    c.loop-operation-test.true c.loop-operation.invariant.same
    (subst (λ (l : List Step). IsFault (fault_along c.args.meta.now c.loop-operation.model l) c.in_err-take_steps.field-0.0)
    (c.steps.ensures ∙ ap steps_of c.operation-item.is) c.in_err-take_steps.ensures.cannot)

pub loop-operation-preserved : goal.loop-operation-preserved
loop-operation-preserved c = record {
  same = c.loop-operation.invariant.same
      ∙ operation_on c.args.meta.now c.loop-operation.model c.take_steps.new.model c.args.operations.now c.loop-operation.operation-index
      c.operation-item.result c.loop-operation-test.true
      (subst (λ (l : List Step). fold c.args.meta.now c.loop-operation.model l ≡ Some c.take_steps.new.model)
      (c.steps.ensures ∙ ap steps_of c.operation-item.is) c.in_ok-take_steps.ensures.done);
  good = c.take_steps.ensures.good;
}
