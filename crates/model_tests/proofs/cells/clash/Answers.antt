-- by the cells of the two
use Rattle.std.proofs.Common.{◌∙◌}
use Rattle.footprint.proofs.Held.{prints_tell}
use Rattle.model_tests.proofs.cells.clash.Goals as goal

pub returns : goal.returns
returns c = c.interferes.ensures
    ∙ prints_tell c.args.meta.now c.args.first.now c.args.second.now c.in_ok-a.a c.in_ok-b.b c.in_ok-a.ensures.writes c.in_ok-a.ensures.reads
    c.in_ok-b.ensures.writes c.in_ok-b.ensures.reads
