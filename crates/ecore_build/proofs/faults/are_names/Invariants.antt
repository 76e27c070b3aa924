use Rattle.std.proofs.Common.{◌≡◌, map, take}
use Rattle.ecore_build.proofs.faults.are_names.Given as goal

abbrev pub invariant-loop-row : goal.invariant-loop-row
invariant-loop-row l = map (λ x. x.literal) (take l.row-index l.literals) ≡ map (λ x. x.name) (take l.row-index l.literals)
