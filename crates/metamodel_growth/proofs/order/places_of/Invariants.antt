use Rattle.metamodel_growth.proofs.PlaceLaws.{PlacedSoFar}
use Rattle.metamodel_growth.proofs.order.places_of.Given as goal

abbrev pub invariant-loop-i : goal.invariant-loop-i
invariant-loop-i l = PlacedSoFar l.numbers l.places.items l.i
