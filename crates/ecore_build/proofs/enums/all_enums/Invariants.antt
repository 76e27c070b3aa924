use Rattle.std.proofs.Common.{◌≡◌, ◌++◌, drop}
use Rattle.ecore_build.specs.Faults.{enums_in}
use Rattle.ecore_build.proofs.enums.all_enums.Given as goal

abbrev pub invariant-loop-row : goal.invariant-loop-row
invariant-loop-row l = l.enums.items ++ enums_in (drop l.row-index l.rows) ≡ enums_in l.rows
