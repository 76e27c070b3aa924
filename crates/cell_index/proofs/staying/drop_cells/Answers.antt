-- one cell more
use Rattle.cell_index.proofs.Rises.{without_on}
use Rattle.cell_index.proofs.staying.drop_cells.Goals as goal

pub loop-cell-preserved : goal.loop-cell-preserved
loop-cell-preserved c =
    without_on c.args.table.now.items c.loop-cell.table.items c.drop_place.new.table.items c.args.place c.loop-cell.invariant c.drop_place.ensures
