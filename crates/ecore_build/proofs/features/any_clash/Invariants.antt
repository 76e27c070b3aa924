use Rattle.std.proofs.Common.{◌≡◌, drop, map}
use Rattle.ecore_build.specs.Faults.{clash}
use Rattle.ecore_build.proofs.features.any_clash.Given as goal

abbrev pub invariant-loop-numbers : goal.invariant-loop-numbers
invariant-loop-numbers l = clash l.drafts (map (λ fs. fs.items) (drop l.numbers-index l.features)) ≡ clash l.drafts (map (λ fs. fs.items) l.features)
