use Rattle.std.proofs.Common.{◌≡◌, ◌++◌, ◌+◌, drop}
use Rattle.shown_lines.specs.Lines.{lines_from}
use Rattle.data_lines.proofs.operation.operation_lines.Given as goal

abbrev pub invariant-loop-n : goal.invariant-loop-n
invariant-loop-n l = l.lines ++ lines_from l.meta (l.n + 1) (drop l.n l.package) ≡ lines_from l.meta 1 l.package
