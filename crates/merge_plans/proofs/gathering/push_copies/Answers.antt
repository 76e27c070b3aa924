use Rattle.std.proofs.Common.{sym, ◌∙◌, append-nil}
use Rattle.merge_plans.proofs.Gathered.{copied_more}
use Rattle.merge_plans.proofs.gathering.push_copies.Goals as goal

pub loop-operation-init : goal.loop-operation-init
loop-operation-init c = sym (append-nil c.args.out.now)

pub loop-operation-preserved : goal.loop-operation-preserved
loop-operation-preserved c =
    copied_more c.args.out.now c.loop-operation.out c.push.new.self c.args.operations.now c.loop-operation.operation-index c.operation-item.result
    c.in_ok-copy.field-0 c.loop-operation-test.true c.loop-operation.invariant c.in_ok-push.ensures.ok (c.in_ok-copy.ensures ∙ c.operation-item.is)
