use Rattle.op_reading.specs.Packages.{operation_at}
use Rattle.op_reading.proofs.Items.{behind_turn}
use Rattle.op_reading.proofs.read_event.operation_items.Goals as goal

pub loop-index-preserved : goal.loop-index-preserved
loop-index-preserved c =
    behind_turn operation_at c.loop-index.operations c.push.new.self c.args.count c.loop-index.index c.loop-index.reader
    c.in_ok-take_operation.field-0 c.take_operation.new.reader _
    c.loop-index-test.true c.in_ok-take_operation.ensures c.in_ok-push.ensures.ok c.loop-index.invariant
