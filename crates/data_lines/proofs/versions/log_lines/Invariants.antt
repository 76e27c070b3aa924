use Rattle.std.proofs.Common.{◌≡◌, ◌++◌, drop}
use Rattle.shown_lines.specs.Versions.{version_lines}
use Rattle.data_lines.proofs.versions.log_lines.Given as goal

abbrev pub invariant-loop-n : goal.invariant-loop-n
invariant-loop-n l = let h = l.history.history in l.lines ++ version_lines h l.n (drop l.n h.versions) ≡ version_lines h 0 h.versions
