use Rattle.std.proofs.Common.{sym, ◌∙◌, append-nil}
use Rattle.version_states.proofs.Taking.{copied_more}
use Rattle.version_states.proofs.states.push_copies.Goals as goal

pub loop-step-init : goal.loop-step-init
loop-step-init c = sym (append-nil c.args.out.now)

pub loop-step-preserved : goal.loop-step-preserved
loop-step-preserved c =
    copied_more c.args.out.now c.loop-step.out c.push.new.self c.args.steps.now c.loop-step.step-index c.step-item.result c.in_ok-copy.field-0
    c.loop-step-test.true c.loop-step.invariant c.in_ok-push.ensures.ok (c.in_ok-copy.ensures ∙ c.step-item.is)
