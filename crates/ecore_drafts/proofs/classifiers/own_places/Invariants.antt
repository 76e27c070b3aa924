use Rattle.std.proofs.Common.{take}
use Rattle.ecore_drafts.specs.Classifiers.{AllPlaced}
use Rattle.ecore_drafts.proofs.classifiers.own_places.Given as goal

abbrev pub invariant-loop-row : goal.invariant-loop-row
invariant-loop-row l = AllPlaced (take l.row-index l.rows) l.own.items
