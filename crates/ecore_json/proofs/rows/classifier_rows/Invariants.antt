use Rattle.std.proofs.Common.{◌≡◌, ◌++◌, map, drop}
use Rattle.serde_json.specs.View.{view}
use Rattle.ecore_json.specs.Rows.{classifier_row}
use Rattle.ecore_json.proofs.rows.classifier_rows.Given as goal

abbrev pub invariant-loop-value : goal.invariant-loop-value
invariant-loop-value l = l.rows ++ map (classifier_row l.own) (map view (drop l.value-index l.values)) ≡ map (classifier_row l.own) (map view l.values)
