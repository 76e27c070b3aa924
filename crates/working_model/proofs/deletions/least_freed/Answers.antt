use Rattle.std.proofs.Common.{◌++◌, arith, sym, ap, ◌∙◌}
use Rattle.std.specs.Fmt.{decimal}
use Rattle.std.specs.List.{list_any}
use Rattle.std.proofs.lemmas.List.{take_all}
use Rattle.working_model.specs.Taken.{deletes}
use Rattle.working_model.proofs.Freed.{none_more}
use Rattle.working_model.proofs.deletions.least_freed.Goals as goal

pub loop-step-preserved : goal.loop-step-preserved
loop-step-preserved c = record {
  below = omega arith;
  kept = λ j low.
      none_more (deletes (c.args.prefix.now ++ decimal j)) c.args.steps.now c.loop-step.step-index c.step-item.result c.loop-step-test.true c.step-item.is
      (c.loop-step.invariant.kept j (omega (arith, low, c.least_of-least.ensures.below))) (c.least_of-least.ensures.kept j low);
}

pub returns-clause-kept : goal.returns-clause-kept
returns-clause-kept c = λ j low.
    ap (list_any (deletes (c.args.prefix.now ++ decimal j))) (sym (take_all c.loop-step.step-index c.args.steps.now c.loop-step-test.false))
    ∙ c.loop-step.invariant.kept j low
