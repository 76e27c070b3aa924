use Rattle.std.proofs.Common.{◌≡◌, take, false}
use Rattle.std.specs.List.{list_any}
use Rattle.ecore_build.specs.Faults.{bad_bound}
use Rattle.ecore_build.proofs.faults.any_bad_bound.Given as goal

abbrev pub invariant-loop-draft : goal.invariant-loop-draft
invariant-loop-draft l = list_any (bad_bound l.drafts) (take l.draft-index l.drafts) ≡ false
