use Rattle.std.proofs.Common.{sym, ◌∙◌}
use Rattle.conflict_buckets.proofs.Empty.{no_theirs, no_mine}
use Rattle.conflict_buckets.proofs.grouping.rows_between.Goals as goal
use Rattle.conflict_buckets.proofs.grouping.rows_between.Goals.{then-len-eq0-via-then-len-eq0, then-len-eq0-via-else-len-eq0+then-len-eq0-2}

pub returns-then-len-eq0 : goal.returns-then-len-eq0
returns-then-len-eq0 c =
    let ts = c.args.theirs.now in
    let ms = c.args.mine.now in
    let meta = c.args.meta.now in
    elim c.then-len-eq0.branch [
      | then-len-eq0-via-then-len-eq0 w ↦ c.new.ensures ∙ no_theirs meta ts ms (sym c.len.ensures ∙ w.if-len-eq0.true)
      | then-len-eq0-via-else-len-eq0+then-len-eq0-2 w ↦ c.new.ensures ∙ sym (no_mine meta ts ms (sym w.len-else-len-eq0.ensures ∙ w.if-len-eq0-2.true))
    ]
