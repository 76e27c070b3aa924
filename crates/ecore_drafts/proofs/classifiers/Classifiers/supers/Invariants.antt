use Rattle.std.proofs.Common.{◌≡◌, ◌++◌, drop, map}
use Rattle.ecore_drafts.specs.Document.{supers_in}
use Rattle.ecore_drafts.proofs.classifiers.Classifiers.supers.Given as goal

abbrev pub invariant-loop-row : goal.invariant-loop-row
invariant-loop-row l = map (λ ups. ups.items) l.supers.items ++ supers_in l.self (drop l.row-index l.rows) ≡ supers_in l.self l.rows
