use Rattle.std.proofs.Common.{◌≡◌}
use Rattle.std.specs.List.{filter_map, range_with_len}
use Rattle.metamodel_growth.specs.Extension.{feature_in}
use Rattle.metamodel_growth.proofs.found.features_in.Given as goal

abbrev pub invariant-loop-f : goal.invariant-loop-f
invariant-loop-f l = l.numbers.items ≡ filter_map (feature_in l.old l.next) (range_with_len 0 l.f)
