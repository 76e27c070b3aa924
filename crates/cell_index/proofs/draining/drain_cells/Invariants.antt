-- the lists of the cells so far
use Rattle.std.proofs.Common.{take}
use Rattle.cell_index.specs.Draining.{IsDrained, HasMet}
use Rattle.cell_index.proofs.draining.drain_cells.Given as goal

abbrev pub invariant-loop-cell : goal.invariant-loop-cell
invariant-loop-cell l = record {
  drained : IsDrained l.prints l.print l.flags l.fn.table.items l.table.items l.fn.met.items l.met.items;
  found : HasMet l.prints l.print l.flags l.fn.table.items (take l.cell-index l.cells) l.met.items;
}
