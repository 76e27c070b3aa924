use Rattle.std.proofs.Common.{◌≡◌, map, take}
use Rattle.metamodel_growth.specs.Order.{place_in}
use Rattle.metamodel_growth.proofs.order.placed.Given as goal

abbrev pub invariant-loop-n : goal.invariant-loop-n
invariant-loop-n l = l.places.items ≡ map (place_in l.order) (take l.n-index l.numbers)
