-- what was put, and what was cut again
use Rattle.std.proofs.Common.{ap, ◌∙◌}
use Rattle.footprint.specs.Prints.{shown}
use Rattle.change_index.specs.Written.{wrote_by}
use Rattle.change_index.proofs.Adding.{rows_added, pairs_added, rows_left, pairs_left}
use Rattle.change_index.proofs.index.add_to.Goals as goal

pub returns-in-Ok-clause-rows : goal.returns-in-Ok-clause-rows
returns-in-Ok-clause-rows c rows =
    rows_added c.args.table.now c.put_prints.new.table c.args.version c.as_slice-written.result.now c.args.meta.now c.args.ops.now
    (ap shown c.as_slice-written.ensures.value ∙ c.in_ok-prints.ensures) c.in-Ok.ensures.ok rows

pub returns-in-Ok-clause-pairs : goal.returns-in-Ok-clause-pairs
returns-in-Ok-clause-pairs c rows =
    pairs_added c.args.table.now c.put_prints.new.table c.args.version c.as_slice-written.result.now c.args.meta.now c.args.ops.now
    (ap shown c.as_slice-written.ensures.value ∙ c.in_ok-prints.ensures) c.in-Ok.ensures.ok rows

pub returns-clause-same_rows : goal.returns-clause-same_rows
returns-clause-same_rows c rows =
    rows_left c.args.table.now c.put_prints.new.table c.cut_prints.new.table c.args.version
    (λ e f. wrote_by (shown c.as_slice-written.result.now) e f) c.in-Err.ensures.keeps c.cut_prints.ensures rows

pub returns-clause-same_pairs : goal.returns-clause-same_pairs
returns-clause-same_pairs c rows =
    pairs_left c.args.table.now c.put_prints.new.table c.cut_prints.new.table c.args.version
    (λ e f. wrote_by (shown c.as_slice-written.result.now) e f) c.in-Err.ensures.keeps c.cut_prints.ensures rows
