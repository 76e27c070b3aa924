-- one operation more, from the end
use Rattle.std.proofs.Common.{◌++◌, ap, ◌∙◌}
use Rattle.model_state.specs.Packages.{rev_package}
use Rattle.reversals.proofs.Ends.{op_more}
use Rattle.reversals.proofs.reversal.reverse.Goals as goal

pub loop-op-preserved : goal.loop-op-preserved
loop-op-preserved c =
    ap (λ l. l ++ rev_package c.next.new.self.iter.rest.now) c.in_ok-push.ensures.ok
    ∙ op_more c.loop-op.reversals c.loop-op.op-iterator.iter.rest.now c.next.new.self.iter.rest.now
    (rev_package c.args.«package».now) c.in-Some.op.now c.in_ok-reverse_op.field-0 c.loop-op.invariant c.in-Some.ensures.steps
    c.in_ok-reverse_op.ensures.reversed
