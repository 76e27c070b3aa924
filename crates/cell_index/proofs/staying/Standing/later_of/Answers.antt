-- one cell more
use Rattle.std.proofs.Common.{inl, inr, sym, subst, arith, ◌∙◌}
use Rattle.std.specs.List.{Contains}
use Rattle.cell_index.specs.Standing.{Hit, Rise}
use Rattle.cell_index.proofs.Rows.{taken, whole, row_is, list_here}
use Rattle.cell_index.proofs.Touching.{hit_on}
use Rattle.cell_index.proofs.staying.Standing.later_of.Goals as goal

pub later-end-requires-clause-rise : goal.later-end-requires-clause-rise
later-end-requires-clause-rise c = (
  c.requires.rising.0,
  subst (Rise 0 c.requires.rising.0)
      (list_here c.args.table.now c.slot_of-slot.result c.index-table-slot.result c.slot_of-slot.ensures.low c.index-table-slot.is
      ∙ sym c.deref.ensures.value) (c.requires.rising.1 c.slot_of-slot.result),
)

pub loop-cell-preserved : goal.loop-cell-preserved
loop-cell-preserved c = record {
  further = let before = c.loop-cell.invariant.further in let up = c.later-end.ensures.further in omega (arith, before, up);
  hit = hit_on (Hit c.args.self.now.stands.items c.args.prints.now c.args.print.now c.args.below) c.args.floor c.loop-cell.end c.later-end.result
      c.later-end.ensures.further c.later-end.ensures.hit c.loop-cell.invariant.hit;
  clear = λ h more k in_row far hit. elim (taken c.args.cells.now c.loop-cell.cell-index h c.cell-item.result c.loop-cell-test.true c.cell-item.is more) [
    | inl before ↦ let up = c.later-end.ensures.further in c.loop-cell.invariant.clear h before k in_row (omega (arith, up, far)) hit
    | inr e ↦
        c.later-end.ensures.clear k
        (subst (λ l. Contains l k)
        (row_is c.args.table.now c.cell-item.result h c.slot_of-slot.result c.index-table-slot.result c.slot_of-slot.ensures.low
        c.index-table-slot.is c.slot_of-slot.ensures.slot e ∙ sym c.deref.ensures.value) in_row) far hit
  ];
}

pub returns-clause-clear : goal.returns-clause-clear
returns-clause-clear c = λ h in_h. c.loop-cell.invariant.clear h (whole c.args.cells.now c.loop-cell.cell-index h c.loop-cell-test.false in_h)
