-- one cell more
use Rattle.std.proofs.Common.{take, sym}
use Rattle.footprint.specs.Prints.{seen, cells}
use Rattle.change_index.specs.Written.{is_of, has_of}
use Rattle.change_index.specs.Table.{below}
use Rattle.change_index.proofs.Lists.{below_twice}
use Rattle.change_index.proofs.Tables.{did_more, did_none, did_as, has_of-none, has_of-more, has_of-all}
use Rattle.change_index.proofs.table.cut_cells.Goals as goal

pub loop-cell-init : goal.loop-cell-init
loop-cell-init c = did_none (below c.args.version) c.args.table.now (λ e f. has_of e f (cells (take 0 c.args.cells.now)))
    (λ e f. has_of-none e f c.args.cells.now)

pub loop-cell-preserved : goal.loop-cell-preserved
loop-cell-preserved c =
    did_more (below c.args.version) (below_twice c.args.version) c.args.table.now c.loop-cell.table c.cut_cell.new.table
    (λ e f. has_of e f (cells (take c.loop-cell.cell-index c.args.cells.now))) (λ e f. is_of e f (seen c.cell-item.result)) _
    c.loop-cell.invariant c.cut_cell.ensures
    (λ e f. has_of-more e f c.args.cells.now c.loop-cell.cell-index c.cell-item.result c.loop-cell-test.true c.cell-item.is)

pub returns : goal.returns
returns c =
    did_as (below c.args.version) c.args.table.now c.loop-cell.table (λ e f. has_of e f (cells (take c.loop-cell.cell-index c.args.cells.now)))
    (λ e f. has_of e f (cells c.args.cells.now))
    (λ e f. sym (has_of-all e f c.args.cells.now c.loop-cell.cell-index c.loop-cell-test.false)) c.loop-cell.invariant
