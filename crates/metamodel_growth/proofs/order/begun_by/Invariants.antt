use Rattle.std.proofs.Common.{◌≡◌, ◌++◌, not, nat_eq}
use Rattle.std.specs.List.{filter, list_any, range_with_len}
use Rattle.metamodel_growth.proofs.order.begun_by.Given as goal

abbrev pub invariant-loop-k : goal.invariant-loop-k
invariant-loop-k l = l.numbers.items ≡ l.fn.first.items ++ filter (λ j. not (list_any (nat_eq j) l.fn.first.items)) (range_with_len 0 l.k-counter)
