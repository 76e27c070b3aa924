-- one row more
use Rattle.std.proofs.Common.{◌<◌, sym, subst, ◌∙◌}
use Rattle.cell_index.specs.Near.{list_at}
use Rattle.cell_index.proofs.Rows.{list_here}
use Rattle.conflict_buckets.proofs.Tables.{row_on}
use Rattle.conflict_buckets.proofs.grouping.rows_of.Goals as goal

pub loop-n-preserved : goal.loop-n-preserved
loop-n-preserved c =
    let ts = c.args.theirs.now in
    let ms = c.args.mine.now in
    let n = c.loop-n.n in
    let left = c.in_ok-left.left.items in
    let right = c.in_ok-right.right.items in
    let low = c.loop-n-test.true in
    let l = c.deref.ensures.value ∙ sym (list_here left n c.index.result.now (subst (λ k. n < k) (sym c.in_ok-left.ensures.size) low) c.index.ensures) in
    let r = c.deref-in-loop-n.ensures.value
    ∙ sym (list_here right n c.index-in-loop-n.result.now (subst (λ k. n < k) (sym c.in_ok-right.ensures.size) low) c.index-in-loop-n.ensures) in
    row_on ts ms n c.loop-n.found c.put_row.new.found c.deref.result.now c.deref-in-loop-n.result.now (list_at left n)
    (list_at right n) c.loop-n.invariant c.in_ok-put_row.ensures l r (c.in_ok-left.ensures.places n low) (c.in_ok-right.ensures.places n low)
