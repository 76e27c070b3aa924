use Rattle.std.proofs.Common.{◌≡◌}
use Rattle.std.specs.List.{filter_map, range_with_len}
use Rattle.metamodel_growth.specs.Extension.{enum_in}
use Rattle.metamodel_growth.proofs.found.enums_in.Given as goal

abbrev pub invariant-loop-e : goal.invariant-loop-e
invariant-loop-e l = l.numbers.items ≡ filter_map (enum_in l.old l.next) (range_with_len 0 l.e)
