-- None stands at first.
use Rattle.footprint.proofs.Printed.{prints_begin}
use Rattle.footprint.proofs.printing.prints_of.Goals as goal

pub returns : goal.returns
returns c = prints_begin c.args.meta.now c.args.ops.now c.new-prints.result.items c.put_prints.new.prints.items c.new-prints.ensures.items
    c.in_ok-put_prints.ensures
