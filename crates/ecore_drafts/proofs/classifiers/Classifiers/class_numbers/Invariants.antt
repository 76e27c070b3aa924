use Rattle.std.proofs.Common.{◌≡◌, ◌++◌, drop}
use Rattle.std.specs.List.{filter_map}
use Rattle.ecore_drafts.specs.Document.{class_number}
use Rattle.ecore_drafts.proofs.classifiers.Classifiers.class_numbers.Given as goal

abbrev pub invariant-loop-name : goal.invariant-loop-name
invariant-loop-name l = l.numbers.items ++ filter_map (class_number l.self) (drop l.name-index l.names) ≡ filter_map (class_number l.self) l.names
