use Rattle.std.proofs.Common.{◌≡◌, ◌++◌, ◌+◌, drop}
use Rattle.shown_lines.specs.Buckets.{bucket_lines_from}
use Rattle.data_lines.proofs.buckets.bucket_lines.Given as goal

abbrev pub invariant-loop-n : goal.invariant-loop-n
invariant-loop-n l = l.lines ++ bucket_lines_from (l.n + 1) (drop l.n l.buckets.rows) ≡ bucket_lines_from 1 l.buckets.rows
