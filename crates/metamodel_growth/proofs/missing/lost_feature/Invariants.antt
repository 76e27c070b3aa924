use Rattle.std.proofs.Common.{◌≡◌, ◌<◌, ℕ, true}
use Rattle.metamodel_growth.specs.Extension.{feature_kept}
use Rattle.metamodel_growth.proofs.missing.lost_feature.Given as goal

abbrev pub invariant-loop-f : goal.invariant-loop-f
invariant-loop-f l = (k : ℕ) → k < l.f → feature_kept l.old l.next k ≡ true
