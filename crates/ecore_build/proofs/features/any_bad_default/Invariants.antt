use Rattle.std.proofs.Common.{◌≡◌, take, false}
use Rattle.std.specs.List.{list_any}
use Rattle.ecore_build.specs.Faults.{bad_default}
use Rattle.ecore_build.proofs.features.any_bad_default.Given as goal

abbrev pub invariant-loop-draft : goal.invariant-loop-draft
invariant-loop-draft l = list_any (bad_default l.enums) (take l.draft-index l.drafts) ≡ false
