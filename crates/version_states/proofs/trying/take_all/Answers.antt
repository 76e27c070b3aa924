use Rattle.std.proofs.Common.{◌≡◌, ◌++◌, ◌∙◌, List, Some, take, ap, refl, subst}
use Rattle.model_state.specs.declared.operation.Operation.{Operation}
use Rattle.model_state.specs.declared.step.Step.{Step}
use Rattle.model_state.specs.Faults.{IsApplyFault}
use Rattle.model_state.specs.Packages.{steps_all, steps_of}
use Rattle.model_state.specs.Steps.{first_stop, fold}
use Rattle.version_states.proofs.Folding.{operation_on, stop_folds_none}
use Rattle.version_states.proofs.Taking.{folds_further, led_further, put_back, taken_more}
use Rattle.version_states.proofs.trying.take_all.Goals as goal

pub untake_all-requires : goal.untake_all-requires
untake_all-requires c = record {
  led = led_further c.args.meta.now c.args.model.now c.loop-i.model c.take_in_order.new.self (take c.loop-i.i c.args.operations.now)
      (take c.in-Err.stop.at c.steps-steps.result.now) c.requires.good c.loop-i.invariant.taken c.in-Err.ensures.taken;
}

pub returns-in-Ok-untake_all : goal.returns-in-Ok-untake_all
returns-in-Ok-untake_all c =
    let before = take c.loop-i.i c.args.operations.now in
    let steps = take c.in-Err.stop.at c.steps-steps.result.now in
    record {
      done = λ is. absurd cc;
      cannot = λ _. stop_folds_none c.args.meta.now c.args.model.now c.loop-i.model c.args.operations.now c.loop-i.i c.index-operations-i.result
          c.in-Err.stop c.loop-i-test.true c.in_default.not-Memory c.loop-i.invariant.same
          (subst (λ (l : List Step). IsApplyFault (first_stop c.args.meta.now c.loop-i.model l) c.in-Err.stop)
          (c.steps-steps.ensures ∙ ap steps_of c.index-operations-i.is) c.in-Err.ensures.cannot);
      fault = tt;
      same = λ _. put_back c.args.meta.now c.recall_soundness.ensures c.args.model.now c.untake_all.new.model c.take_in_order.new.self
          (steps_all before ++ steps) (steps_all before ++ steps) c.requires.good c.in-Ok-untake_all.ensures.good
          (folds_further c.args.meta.now c.args.model.now c.loop-i.model c.take_in_order.new.self before steps c.loop-i.invariant.taken
          c.in-Err.ensures.taken)
          refl c.in-Ok-untake_all.ensures.back;
      good = c.in-Ok-untake_all.ensures.good;
    }

pub returns-in-Err-untake_all : goal.returns-in-Err-untake_all
returns-in-Err-untake_all c = record {
  done = tt;
  cannot = tt;
  fault = λ _. stop_folds_none c.args.meta.now c.args.model.now c.loop-i.model c.args.operations.now c.loop-i.i c.index-operations-i.result
      c.in-Err.stop c.loop-i-test.true c.in_default.not-Memory c.loop-i.invariant.same
      (subst (λ (l : List Step). IsApplyFault (first_stop c.args.meta.now c.loop-i.model l) c.in-Err.stop)
      (c.steps-steps.ensures ∙ ap steps_of c.index-operations-i.is) c.in-Err.ensures.cannot);
  same = tt;
  good = tt;
}

pub loop-i-preserved : goal.loop-i-preserved
loop-i-preserved c =
    let taken : fold c.args.meta.now c.loop-i.model (steps_of c.index-operations-i.result) ≡ Some c.take_in_order.new.self =
    subst (λ (l : List Step). fold c.args.meta.now c.loop-i.model l ≡ Some c.take_in_order.new.self) c.steps-steps.ensures c.in-Ok.ensures.done in
    let at = subst (λ (o : Operation). fold c.args.meta.now c.loop-i.model (steps_of o) ≡ Some c.take_in_order.new.self) c.index-operations-i.is taken in
    record {
      taken = taken_more c.args.meta.now c.args.model.now c.loop-i.model c.take_in_order.new.self c.args.operations.now c.loop-i.i
          c.index-operations-i.result c.loop-i-test.true c.loop-i.invariant.taken at;
      same = c.loop-i.invariant.same
          ∙ operation_on c.args.meta.now c.loop-i.model c.take_in_order.new.self c.args.operations.now c.loop-i.i c.index-operations-i.result
          c.loop-i-test.true at;
      good = c.take_in_order.ensures.good;
    }
