-- By one print more.
use Rattle.std.proofs.Common.{◌++◌}
use Rattle.footprint.specs.Prints.{shown, printed}
use Rattle.footprint.proofs.Printed.{prints_turn, prints_end}
use Rattle.footprint.proofs.printing.put_prints.Goals as goal

pub loop-op-preserved : goal.loop-op-preserved
loop-op-preserved c =
    prints_turn c.args.meta.now c.args.ops.now c.loop-op.op-index c.loop-op.prints.items c.push.new.self.items c.op-item.result
    c.in_ok-print_of.field-0 (shown c.args.prints.now.items ++ printed c.args.meta.now c.args.ops.now)
    c.loop-op-test.true c.op-item.is c.in_ok-print_of.ensures.writes c.in_ok-print_of.ensures.reads c.in_ok-push.ensures.items c.loop-op.invariant

pub returns : goal.returns
returns c = prints_end c.args.meta.now c.args.ops.now c.loop-op.op-index c.loop-op.prints.items
    (shown c.args.prints.now.items ++ printed c.args.meta.now c.args.ops.now) c.loop-op-test.false c.loop-op.invariant
