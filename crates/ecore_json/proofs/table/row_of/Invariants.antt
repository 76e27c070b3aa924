use Rattle.std.proofs.Common.{◌≡◌, map, drop}
use Rattle.ecore_json.specs.Table.{row_of}
use Rattle.ecore_json.proofs.table.row_of.Given as goal

abbrev pub invariant-loop-name : goal.invariant-loop-name
invariant-loop-name l = row_of (map (λ r. (r.0.now, r.1)) (drop l.name-index l.rows)) l.key ≡ row_of (map (λ r. (r.0.now, r.1)) l.rows) l.key
