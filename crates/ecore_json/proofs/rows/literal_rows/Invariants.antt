use Rattle.std.proofs.Common.{◌≡◌, ◌++◌, map, drop}
use Rattle.serde_json.specs.View.{view}
use Rattle.ecore_json.specs.Rows.{literal_row}
use Rattle.ecore_json.proofs.rows.literal_rows.Given as goal

abbrev pub invariant-loop-value : goal.invariant-loop-value
invariant-loop-value l = l.rows ++ map (literal_row) (map view (drop l.value-index l.values)) ≡ map (literal_row) (map view l.values)
