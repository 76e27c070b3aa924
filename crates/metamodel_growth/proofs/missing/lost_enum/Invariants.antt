use Rattle.std.proofs.Common.{◌≡◌, ◌<◌, ℕ, true}
use Rattle.metamodel_growth.specs.Extension.{enum_kept}
use Rattle.metamodel_growth.proofs.missing.lost_enum.Given as goal

abbrev pub invariant-loop-e : goal.invariant-loop-e
invariant-loop-e l = (k : ℕ) → k < l.e → enum_kept l.old l.next k ≡ true
