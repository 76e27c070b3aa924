use Rattle.std.proofs.Common.{◌≡◌, take}
use Rattle.std.specs.Prelude.{slice_get}
use Rattle.std.specs.List.{filter_map}
use Rattle.ecore_meta.specs.Values.{AreShort}
use Rattle.metamodel_growth.proofs.moved.enums.Given as goal

abbrev pub invariant-loop-e : goal.invariant-loop-e
invariant-loop-e l = AreShort l.moved.items × (l.moved.items ≡ filter_map (λ k. slice_get l.next.enums k) (take l.e-index l.e-items))
