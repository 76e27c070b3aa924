use Rattle.std.proofs.Common.{◌≡◌, take, map}
use Rattle.ecore_build.specs.Faults.{draft_name}
use Rattle.ecore_build.proofs.features.names_of.Given as goal

abbrev pub invariant-loop-n : goal.invariant-loop-n
invariant-loop-n l = map (λ n. n.now) l.names.items ≡ map (draft_name l.drafts) (take l.n-index l.features)
