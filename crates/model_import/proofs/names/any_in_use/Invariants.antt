use Rattle.std.proofs.Common.{◌≡◌, drop}
use Rattle.import_laws.specs.Names.{any_in_use}
use Rattle.model_import.proofs.names.any_in_use.Given as goal

abbrev pub invariant-loop-row : goal.invariant-loop-row
invariant-loop-row g l = any_in_use (g.L.Look.state l.look) (drop l.row-index l.rows) ≡ any_in_use (g.L.Look.state l.look) l.rows
