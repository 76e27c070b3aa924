use Rattle.std.proofs.Common.{◌≡◌, map, take}
use Rattle.ecore_build.specs.Faults.{literal}
use Rattle.ecore_build.proofs.enums.all_literals.Given as goal

abbrev pub invariant-loop-row : goal.invariant-loop-row
invariant-loop-row l = l.literals.items ≡ map literal (take l.row-index l.rows)
