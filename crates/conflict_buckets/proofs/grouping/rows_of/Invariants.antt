-- the rows so far
use Rattle.std.proofs.Common.{◌≡◌}
use Rattle.footprint.specs.Buckets.{buckets_below}
use Rattle.conflict_buckets.proofs.grouping.rows_of.Given as goal

abbrev pub invariant-loop-n : goal.invariant-loop-n
invariant-loop-n l = l.found ≡ buckets_below l.theirs l.mine l.n
