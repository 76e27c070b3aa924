-- one cell more
use Rattle.std.proofs.Common.{take, sym}
use Rattle.footprint.specs.Prints.{seen, cells}
use Rattle.change_index.specs.Written.{is_of, has_of}
use Rattle.change_index.specs.Table.{pushed}
use Rattle.change_index.proofs.Lists.{pushed_twice}
use Rattle.change_index.proofs.Tables.{did_more, did_none, did_as, keeps_put, keeps_more, keeps_same, has_of-none, has_of-more, has_of-all, has_of-weaker}
use Rattle.change_index.proofs.table.put_cells.Goals as goal

pub loop-cell-init : goal.loop-cell-init
loop-cell-init c = did_none (pushed c.args.version) c.args.table.now (λ e f. has_of e f (cells (take 0 c.args.cells.now)))
    (λ e f. has_of-none e f c.args.cells.now)

pub loop-cell-preserved : goal.loop-cell-preserved
loop-cell-preserved c =
    did_more (pushed c.args.version) (pushed_twice c.args.version) c.args.table.now c.loop-cell.table c.put_cell.new.table
    (λ e f. has_of e f (cells (take c.loop-cell.cell-index c.args.cells.now))) (λ e f. is_of e f (seen c.cell-item.result)) _
    c.loop-cell.invariant c.in_ok-put_cell.ensures.ok
    (λ e f. has_of-more e f c.args.cells.now c.loop-cell.cell-index c.cell-item.result c.loop-cell-test.true c.cell-item.is)

pub returns-in_err-put_cell-clause-keeps : goal.returns-in_err-put_cell-clause-keeps
returns-in_err-put_cell-clause-keeps c =
    keeps_more c.args.version c.args.table.now c.loop-cell.table c.put_cell.new.table
    (λ e f. has_of e f (cells (take c.loop-cell.cell-index c.args.cells.now))) (λ e f. has_of e f (cells c.args.cells.now))
    (keeps_put c.args.version c.args.table.now c.loop-cell.table (λ e f. has_of e f (cells (take c.loop-cell.cell-index c.args.cells.now)))
    (λ e f. has_of e f (cells (take c.loop-cell.cell-index c.args.cells.now))) c.loop-cell.invariant (λ e f none. none))
    (keeps_same c.args.version c.loop-cell.table c.put_cell.new.table (λ e f. has_of e f (cells c.args.cells.now)) c.in_err-put_cell.ensures.err)
    (λ e f. has_of e f (cells c.args.cells.now)) (λ e f none. (has_of-weaker e f c.args.cells.now c.loop-cell.cell-index none, none))

pub returns-clause-keeps : goal.returns-clause-keeps
returns-clause-keeps c =
    keeps_put c.args.version c.args.table.now c.loop-cell.table (λ e f. has_of e f (cells (take c.loop-cell.cell-index c.args.cells.now)))
    (λ e f. has_of e f (cells c.args.cells.now)) c.loop-cell.invariant
    (λ e f none. has_of-weaker e f c.args.cells.now c.loop-cell.cell-index none)

pub returns-clause-ok : goal.returns-clause-ok
returns-clause-ok c =
    did_as (pushed c.args.version) c.args.table.now c.loop-cell.table (λ e f. has_of e f (cells (take c.loop-cell.cell-index c.args.cells.now)))
    (λ e f. has_of e f (cells c.args.cells.now))
    (λ e f. sym (has_of-all e f c.args.cells.now c.loop-cell.cell-index c.loop-cell-test.false)) c.loop-cell.invariant
