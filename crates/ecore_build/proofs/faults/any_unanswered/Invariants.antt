use Rattle.std.proofs.Common.{◌≡◌, drop}
use Rattle.ecore_build.specs.Faults.{any_from, is_unanswered}
use Rattle.ecore_build.proofs.faults.any_unanswered.Given as goal

abbrev pub invariant-loop-n : goal.invariant-loop-n
invariant-loop-n l = any_from (is_unanswered l.drafts) l.n (drop l.n l.drafts) ≡ any_from (is_unanswered l.drafts) 0 l.drafts
