use Rattle.std.proofs.Common.{◌≡◌, ◌<◌, ℕ, true}
use Rattle.metamodel_growth.specs.Same.{feature_alike}
use Rattle.metamodel_growth.proofs.same.features_alike.Given as goal

abbrev pub invariant-loop-f : goal.invariant-loop-f
invariant-loop-f l = (k : ℕ) → k < l.f → feature_alike l.a l.b k ≡ true
