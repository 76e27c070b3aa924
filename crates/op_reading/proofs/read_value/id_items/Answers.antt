use Rattle.op_reading.specs.Values.{id_at}
use Rattle.op_reading.proofs.Items.{behind_turn}
use Rattle.op_reading.proofs.read_value.id_items.Goals as goal

pub loop-index-preserved : goal.loop-index-preserved
loop-index-preserved c =
    behind_turn id_at c.loop-index.ids c.push.new.self c.args.count c.loop-index.index c.loop-index.reader c.in_ok-take_id.field-0 c.take_id.new.reader _
    c.loop-index-test.true c.in_ok-take_id.ensures c.in_ok-push.ensures.ok c.loop-index.invariant
