use Rattle.std.proofs.Common.{◌≡◌, map, take}
use Rattle.ecore_meta.specs.Meta.{is_a}
use Rattle.metamodel_growth.specs.Order.{places}
use Rattle.metamodel_growth.proofs.moved.above.Given as goal

abbrev pub invariant-loop-c : goal.invariant-loop-c
invariant-loop-c l = map (λ s. s.keys) l.moved.items ≡ map (λ c. places (is_a l.next c) l.order) (take l.c-index l.c-items)
