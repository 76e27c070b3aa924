-- the cells so far are put
use Rattle.std.proofs.Common.{take}
use Rattle.footprint.specs.Prints.{cells}
use Rattle.change_index.specs.Written.{has_of}
use Rattle.change_index.specs.Table.{Puts}
use Rattle.change_index.proofs.table.put_cells.Given as goal

abbrev pub invariant-loop-cell : goal.invariant-loop-cell
invariant-loop-cell l = Puts l.fn.table l.table l.version (λ e f. has_of e f (cells (take l.cell-index l.cells)))
