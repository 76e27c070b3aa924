use Rattle.std.proofs.Common.{◌≡◌, ◌++◌, map, drop}
use Rattle.serde_json.specs.View.{view}
use Rattle.ecore_json.specs.Rows.{super_of}
use Rattle.ecore_json.proofs.rows.super_names.Given as goal

abbrev pub invariant-loop-value : goal.invariant-loop-value
invariant-loop-value l = l.names ++ map (super_of l.own) (map view (drop l.value-index l.values)) ≡ map (super_of l.own) (map view l.values)
