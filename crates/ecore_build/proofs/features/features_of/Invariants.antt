use Rattle.std.proofs.Common.{◌≡◌, take, map}
use Rattle.ecore_build.specs.Build.{feature_from}
use Rattle.ecore_build.proofs.features.features_of.Given as goal

abbrev pub invariant-loop-draft : goal.invariant-loop-draft
invariant-loop-draft l = l.features.items ≡ map (feature_from l.enums l.drafts) (take l.draft-index l.drafts)
