-- one step more, from the end
use Rattle.std.proofs.Common.{◌++◌, ap, ◌∙◌}
use Rattle.model_state.specs.Steps.{rev, rev_all}
use Rattle.reversals.proofs.Ends.{step_more}
use Rattle.reversals.proofs.reversal.reverse_steps.Goals as goal

pub loop-step-preserved : goal.loop-step-preserved
loop-step-preserved c =
    ap (λ l. l ++ rev_all c.next.new.self.iter.rest.now) c.in_ok-push.ensures.ok
    ∙ step_more c.loop-step.reversals c.loop-step.step-iterator.iter.rest.now c.next.new.self.iter.rest.now
    (rev_all c.args.steps.now) c.in-Some.step.now c.reversed.result c.loop-step.invariant c.in-Some.ensures.steps
    (c.reversed.ensures ∙ ap rev c.in_ok-copy.ensures)
