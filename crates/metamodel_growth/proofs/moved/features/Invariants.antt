use Rattle.std.proofs.Common.{◌≡◌, take}
use Rattle.std.specs.Prelude.{slice_get}
use Rattle.std.specs.List.{filter_map}
use Rattle.std.specs.Option.{option_map}
use Rattle.metamodel_growth.specs.Renumbered.{feature_moved}
use Rattle.metamodel_growth.proofs.moved.features.Given as goal

abbrev pub invariant-loop-f : goal.invariant-loop-f
invariant-loop-f l = l.moved.items ≡ filter_map (λ k. option_map (feature_moved l.to) (slice_get l.next.features k)) (take l.f-index l.f-items)
