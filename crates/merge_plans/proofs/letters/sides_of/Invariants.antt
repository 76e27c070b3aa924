-- the sides of those gone over
use Rattle.std.proofs.Common.{◌≡◌, map, take}
use Rattle.merge_laws.specs.Choices.{side_of}
use Rattle.merge_plans.proofs.letters.sides_of.Given as goal

abbrev pub invariant-loop-letter : goal.invariant-loop-letter
invariant-loop-letter l = l.sides.items ≡ map side_of (take l.letter-index l.letter-items)
