use Rattle.std.proofs.Common.{◌≡◌, ◌<◌, ℕ, true}
use Rattle.metamodel_growth.specs.Extension.{class_kept}
use Rattle.metamodel_growth.proofs.missing.lost_class.Given as goal

abbrev pub invariant-loop-c : goal.invariant-loop-c
invariant-loop-c l = (k : ℕ) → k < l.c → class_kept l.old l.next k ≡ true
