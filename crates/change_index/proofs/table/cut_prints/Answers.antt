-- one print more
use Rattle.std.proofs.Common.{take, sym, subst}
use Rattle.footprint.specs.Prints.{cells, shown}
use Rattle.change_index.specs.Written.{has_of, wrote_by}
use Rattle.change_index.specs.Table.{below, Cuts}
use Rattle.change_index.proofs.Lists.{below_twice}
use Rattle.change_index.proofs.Tables.{did_more, did_none, did_as, by-none, by-more, by-all}
use Rattle.change_index.proofs.table.cut_prints.Goals as goal

pub loop-print-init : goal.loop-print-init
loop-print-init c = did_none (below c.args.version) c.args.table.now (λ e f. wrote_by (shown (take 0 c.args.prints.now)) e f)
    (λ e f. by-none e f c.args.prints.now)

pub loop-print-preserved : goal.loop-print-preserved
loop-print-preserved c =
    did_more (below c.args.version) (below_twice c.args.version) c.args.table.now c.loop-print.table c.cut_cells.new.table
    (λ e f. wrote_by (shown (take c.loop-print.print-index c.args.prints.now)) e f) (λ e f. has_of e f (cells c.print-item.result.writes)) _
    c.loop-print.invariant
    (subst (λ l. Cuts c.loop-print.table c.cut_cells.new.table c.args.version (λ e f. has_of e f (cells l))) c.as_slice.ensures c.cut_cells.ensures)
    (λ e f. by-more e f c.args.prints.now c.loop-print.print-index c.print-item.result c.loop-print-test.true c.print-item.is)

pub returns : goal.returns
returns c =
    did_as (below c.args.version) c.args.table.now c.loop-print.table (λ e f. wrote_by (shown (take c.loop-print.print-index c.args.prints.now)) e f)
    (λ e f. wrote_by (shown c.args.prints.now) e f)
    (λ e f. sym (by-all e f c.args.prints.now c.loop-print.print-index c.loop-print-test.false)) c.loop-print.invariant
