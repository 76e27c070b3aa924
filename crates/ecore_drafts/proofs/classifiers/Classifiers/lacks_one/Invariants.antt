use Rattle.std.proofs.Common.{◌≡◌, take, false}
use Rattle.std.specs.Prelude.{not, is_some}
use Rattle.std.specs.List.{list_any}
use Rattle.ecore_drafts.specs.Document.{class_number}
use Rattle.ecore_drafts.proofs.classifiers.Classifiers.lacks_one.Given as goal

abbrev pub invariant-loop-name : goal.invariant-loop-name
invariant-loop-name l = list_any (λ t. not (is_some (class_number l.self t))) (take l.name-index l.names) ≡ false
