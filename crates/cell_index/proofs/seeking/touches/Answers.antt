-- by how many cells are written
use Rattle.cell_index.proofs.Touching.{touch_both, touch_not}
use Rattle.cell_index.proofs.seeking.touches.Goals as goal

pub returns-then-len-eq0 : goal.returns-then-len-eq0
returns-then-len-eq0 c =
    touch_both c.args.a.now c.args.b.now c.interferes.result c.len.result c.interferes.ensures c.if-interferes.false c.len.ensures
    c.len-then-len-eq0.result c.if-len-eq0.true c.len-then-len-eq0.ensures

pub returns-else-len-eq0 : goal.returns-else-len-eq0
returns-else-len-eq0 c =
    touch_not c.args.a.now c.args.b.now c.interferes.result c.len.result c.interferes.ensures c.if-interferes.false c.len.ensures c.if-len-eq0.false
