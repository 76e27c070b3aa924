use Rattle.std.proofs.Common.{◌≡◌, map, take}
use Rattle.ecore_drafts.specs.Document.{classifier_name}
use Rattle.ecore_drafts.proofs.names.classifier_names.Given as goal

abbrev pub invariant-loop-row : goal.invariant-loop-row
invariant-loop-row l = map (λ n. n.now) l.names.items ≡ map classifier_name (take l.row-index l.rows)
