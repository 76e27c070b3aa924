-- one cell more
use Rattle.std.proofs.Common.{◌<◌, inl, inr, subst, ◌∙◌}
use Rattle.cell_index.proofs.Drained.{drain_on, drain_row}
use Rattle.cell_index.proofs.Rows.{taken, whole}
use Rattle.cell_index.proofs.draining.drain_cells.Goals as goal

pub drain-requires : goal.drain-requires
drain-requires c = subst (λ n. c.slot_of-slot.result < n) (c.len.ensures ∙ c.loop-cell.table.ok.0) c.slot_of-slot.ensures.low

pub loop-cell-preserved : goal.loop-cell-preserved
loop-cell-preserved c =
    let prints = c.args.prints.now in
    let p = c.args.print.now in
    let flags = c.args.flags.now in
    let t = c.args.table.now.items in
    let u = c.loop-cell.table.items in
    let made = c.in_ok-drain.ensures in
    let so_far = c.loop-cell.invariant in
    record {
      drained = drain_on prints p flags t u c.drain.new.table.items c.args.met.now.items c.loop-cell.met.items c.drain.new.met.items
          so_far.drained made.drained;
      found = λ h more k in_row off met. elim (taken c.args.cells.now c.loop-cell.cell-index h c.cell-item.result c.loop-cell-test.true c.cell-item.is more) [
        | inl before ↦ made.drained.met_kept k (so_far.found h before k in_row off met)
        | inr e ↦
            elim (so_far.drained.lists c.slot_of-slot.result k
            (drain_row t c.cell-item.result h c.slot_of-slot.result c.len.result k c.slot_of-slot.ensures.slot
            (c.len.ensures ∙ c.loop-cell.table.ok.0 ∙ so_far.drained.size) e in_row) off) [
              | inl on ↦ made.drained.met_kept k on
              | inr left ↦ made.found k left off met
            ]
      ];
    }

pub returns-clause-found : goal.returns-clause-found
returns-clause-found c = λ h in_h. c.loop-cell.invariant.found h (whole c.args.cells.now c.loop-cell.cell-index h c.loop-cell-test.false in_h)
