use Rattle.std.proofs.Common.{◌≡◌, ◌++◌, drop, map}
use Rattle.std.specs.List.{flat_map}
use Rattle.ecore_build.specs.Faults.{own_of}
use Rattle.ecore_build.proofs.features.gathered.Given as goal

abbrev pub invariant-loop-class : goal.invariant-loop-class
invariant-loop-class l =
    l.features.items ++ flat_map (own_of (map (λ fs. fs.items) l.own)) (drop l.class-index l.classes) ≡ flat_map
    (own_of (map (λ fs. fs.items) l.own)) l.classes
