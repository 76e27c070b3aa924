-- the lists so far
use Rattle.std.proofs.Common.{take}
use Rattle.cell_index.specs.Near.{Wider, Listed}
use Rattle.cell_index.specs.Standing.{Rising}
use Rattle.cell_index.proofs.listing.put_cells.Given as goal

abbrev pub invariant-loop-cell : goal.invariant-loop-cell
invariant-loop-cell l = record {
  wider : Wider l.fn.table.items l.table.items;
  listed : Listed l.table.items (take l.cell-index l.cells) l.place;
  rising : Rising l.fn.table.items l.place → Rising l.table.items l.place;
}
