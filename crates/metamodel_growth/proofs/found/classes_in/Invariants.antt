use Rattle.std.proofs.Common.{◌≡◌}
use Rattle.std.specs.List.{filter_map, range_with_len}
use Rattle.metamodel_growth.specs.Extension.{class_in}
use Rattle.metamodel_growth.proofs.found.classes_in.Given as goal

abbrev pub invariant-loop-c : goal.invariant-loop-c
invariant-loop-c l = l.numbers.items ≡ filter_map (class_in l.old l.next) (range_with_len 0 l.c)
