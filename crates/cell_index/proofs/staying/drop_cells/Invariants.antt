-- the lists so far
use Rattle.cell_index.specs.Standing.{Without}
use Rattle.cell_index.proofs.staying.drop_cells.Given as goal

abbrev pub invariant-loop-cell : goal.invariant-loop-cell
invariant-loop-cell l = Without l.fn.table.items l.table.items l.place
