use Rattle.std.proofs.Common.{◌≡◌, ◌<◌, ℕ, true}
use Rattle.metamodel_growth.specs.Same.{enum_alike}
use Rattle.metamodel_growth.proofs.same.enums_alike.Given as goal

abbrev pub invariant-loop-e : goal.invariant-loop-e
invariant-loop-e l = (k : ℕ) → k < l.e → enum_alike l.a l.b k ≡ true
