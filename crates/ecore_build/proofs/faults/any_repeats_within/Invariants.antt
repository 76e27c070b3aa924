use Rattle.std.proofs.Common.{◌≡◌, take, false}
use Rattle.std.specs.List.{list_any}
use Rattle.ecore_build.specs.Faults.{repeats_within}
use Rattle.ecore_build.proofs.faults.any_repeats_within.Given as goal

abbrev pub invariant-loop-row : goal.invariant-loop-row
invariant-loop-row l = list_any repeats_within (take l.row-index l.rows) ≡ false
