use Rattle.std.proofs.Common.{◌≡◌, take}
use Rattle.std.specs.Prelude.{slice_get}
use Rattle.std.specs.List.{filter_map}
use Rattle.std.specs.Option.{option_map}
use Rattle.metamodel_growth.specs.Renumbered.{class_moved}
use Rattle.metamodel_growth.proofs.moved.classes.Given as goal

abbrev pub invariant-loop-c : goal.invariant-loop-c
invariant-loop-c l = l.moved.items ≡ filter_map (λ k. option_map (class_moved l.next l.to k) (slice_get l.next.classes k)) (take l.c-index l.c-items)
