-- one print more
use Rattle.std.proofs.Common.{take, sym, subst}
use Rattle.footprint.specs.Prints.{cells, shown}
use Rattle.change_index.specs.Written.{has_of, wrote_by}
use Rattle.change_index.specs.Table.{pushed, Puts, Keeps}
use Rattle.change_index.proofs.Lists.{pushed_twice}
use Rattle.change_index.proofs.Tables.{did_more, did_none, did_as, keeps_put, keeps_more, by-none, by-more, by-all, by-weaker, by-item}
use Rattle.change_index.proofs.table.put_prints.Goals as goal

pub loop-print-init : goal.loop-print-init
loop-print-init c = did_none (pushed c.args.version) c.args.table.now (λ e f. wrote_by (shown (take 0 c.args.prints.now)) e f)
    (λ e f. by-none e f c.args.prints.now)

pub loop-print-preserved : goal.loop-print-preserved
loop-print-preserved c =
    did_more (pushed c.args.version) (pushed_twice c.args.version) c.args.table.now c.loop-print.table c.put_cells.new.table
    (λ e f. wrote_by (shown (take c.loop-print.print-index c.args.prints.now)) e f) (λ e f. has_of e f (cells c.print-item.result.writes)) _
    c.loop-print.invariant
    (subst (λ l. Puts c.loop-print.table c.put_cells.new.table c.args.version (λ e f. has_of e f (cells l))) c.as_slice.ensures
    c.in_ok-put_cells.ensures.ok)
    (λ e f. by-more e f c.args.prints.now c.loop-print.print-index c.print-item.result c.loop-print-test.true c.print-item.is)

pub returns-in_err-put_cells-clause-keeps : goal.returns-in_err-put_cells-clause-keeps
returns-in_err-put_cells-clause-keeps c =
    keeps_more c.args.version c.args.table.now c.loop-print.table c.put_cells.new.table
    (λ e f. wrote_by (shown (take c.loop-print.print-index c.args.prints.now)) e f) (λ e f. has_of e f (cells c.print-item.result.writes))
    (keeps_put c.args.version c.args.table.now c.loop-print.table (λ e f. wrote_by (shown (take c.loop-print.print-index c.args.prints.now)) e f)
    (λ e f. wrote_by (shown (take c.loop-print.print-index c.args.prints.now)) e f) c.loop-print.invariant (λ e f none. none))
    (subst (λ l. Keeps c.loop-print.table c.put_cells.new.table c.args.version (λ e f. has_of e f (cells l))) c.as_slice.ensures
    c.in_err-put_cells.ensures.keeps)
    (λ e f. wrote_by (shown c.args.prints.now) e f)
    (λ e f none. (
      by-weaker e f c.args.prints.now c.loop-print.print-index none,
      by-item e f c.args.prints.now c.loop-print.print-index c.print-item.result c.loop-print-test.true c.print-item.is none,
    ))

pub returns-clause-keeps : goal.returns-clause-keeps
returns-clause-keeps c =
    keeps_put c.args.version c.args.table.now c.loop-print.table (λ e f. wrote_by (shown (take c.loop-print.print-index c.args.prints.now)) e f)
    (λ e f. wrote_by (shown c.args.prints.now) e f) c.loop-print.invariant
    (λ e f none. by-weaker e f c.args.prints.now c.loop-print.print-index none)

pub returns-clause-ok : goal.returns-clause-ok
returns-clause-ok c =
    did_as (pushed c.args.version) c.args.table.now c.loop-print.table (λ e f. wrote_by (shown (take c.loop-print.print-index c.args.prints.now)) e f)
    (λ e f. wrote_by (shown c.args.prints.now) e f)
    (λ e f. sym (by-all e f c.args.prints.now c.loop-print.print-index c.loop-print-test.false)) c.loop-print.invariant
