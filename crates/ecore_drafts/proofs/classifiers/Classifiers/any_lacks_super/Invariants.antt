use Rattle.std.proofs.Common.{◌≡◌, take, false}
use Rattle.std.specs.List.{list_any}
use Rattle.ecore_drafts.specs.Document.{lacks_super}
use Rattle.ecore_drafts.proofs.classifiers.Classifiers.any_lacks_super.Given as goal

abbrev pub invariant-loop-row : goal.invariant-loop-row
invariant-loop-row l = list_any (lacks_super l.self) (take l.row-index l.rows) ≡ false
