-- one cell more
use Rattle.std.proofs.Common.{inl, inr, sym, subst, ◌∙◌}
use Rattle.std.specs.List.{Contains}
use Rattle.cell_index.proofs.Rows.{taken, whole, row_is}
use Rattle.cell_index.proofs.meeting.any_met_of.Goals as goal

pub loop-cell-preserved : goal.loop-cell-preserved
loop-cell-preserved c =
    λ h more k in_row met. elim (taken c.args.cells.now c.loop-cell.cell-index h c.cell-item.result c.loop-cell-test.true c.cell-item.is more) [
      | inl before ↦ c.loop-cell.invariant h before k in_row met
      | inr e ↦
          c.any_met.ensures.none c.if-any_met.false k
          (subst (λ l. Contains l k)
          (row_is c.args.table.now c.cell-item.result h c.slot_of-slot.result c.index-table-slot.result c.slot_of-slot.ensures.low
          c.index-table-slot.is c.slot_of-slot.ensures.slot e ∙ sym c.deref.ensures.value) in_row) met
    ]

pub returns-clause-none : goal.returns-clause-none
returns-clause-none c = λ off h in_h. c.loop-cell.invariant h (whole c.args.cells.now c.loop-cell.cell-index h c.loop-cell-test.false in_h)
