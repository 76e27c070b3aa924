-- one cell more
use Rattle.std.proofs.Common.{◌∙◌}
use Rattle.cell_index.proofs.Rows.{wider_on, row_more, whole}
use Rattle.cell_index.proofs.listing.put_cells.Goals as goal

pub loop-cell-preserved : goal.loop-cell-preserved
loop-cell-preserved c = record {
  wider = wider_on c.args.table.now.items c.loop-cell.table.items c.put_place.new.table.items c.loop-cell.invariant.wider c.in_ok-put_place.ensures.wider;
  listed = λ h more. row_more c.loop-cell.table.items c.put_place.new.table.items c.args.cells.now c.loop-cell.cell-index c.args.place
      c.slot_of-slot.result c.len.result c.cell-item.result h
      c.loop-cell-test.true c.cell-item.is c.in_ok-put_place.ensures.wider c.in_ok-put_place.ensures.listed c.slot_of-slot.ensures.slot
      (c.len.ensures ∙ c.loop-cell.table.ok.0) c.loop-cell.invariant.listed more;
  rising = λ h. c.in_ok-put_place.ensures.rising (c.loop-cell.invariant.rising h);
}

pub returns-clause-listed : goal.returns-clause-listed
returns-clause-listed c = λ h in_h. c.loop-cell.invariant.listed h (whole c.args.cells.now c.loop-cell.cell-index h c.loop-cell-test.false in_h)
