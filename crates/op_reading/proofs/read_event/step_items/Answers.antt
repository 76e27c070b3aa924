use Rattle.op_reading.specs.Steps.{step_at}
use Rattle.op_reading.proofs.Items.{behind_turn}
use Rattle.op_reading.proofs.read_event.step_items.Goals as goal

pub loop-index-preserved : goal.loop-index-preserved
loop-index-preserved c =
    behind_turn step_at c.loop-index.steps c.push.new.self c.args.count c.loop-index.index c.loop-index.reader c.in_ok-take_step.field-0
    c.take_step.new.reader _
    c.loop-index-test.true c.in_ok-take_step.ensures c.in_ok-push.ensures.ok c.loop-index.invariant
