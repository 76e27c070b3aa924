use Rattle.std.proofs.Common.{◌≡◌, drop}
use Rattle.ecore_build.specs.Faults.{any_from, is_self}
use Rattle.ecore_build.proofs.faults.any_self.Given as goal

abbrev pub invariant-loop-n : goal.invariant-loop-n
invariant-loop-n l = any_from is_self l.n (drop l.n l.drafts) ≡ any_from is_self 0 l.drafts
