use Rattle.std.proofs.Common.{◌≡◌, take, map}
use Rattle.std.specs.List.{flat_map}
use Rattle.ecore_build.specs.Faults.{own_of}
use Rattle.ecore_build.proofs.features.all_features.Given as goal

abbrev pub invariant-loop-set : goal.invariant-loop-set
invariant-loop-set l = map (λ fs. fs.items) l.all.items ≡ map (λ s. flat_map (own_of (map (λ fs. fs.items) l.own)) s.keys) (take l.set-index l.above)
