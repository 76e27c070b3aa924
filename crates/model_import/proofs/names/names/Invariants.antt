use Rattle.std.proofs.Common.{◌≡◌, ◌++◌, List, length, drop}
use Rattle.model_state.specs.Keys.{IdBytes}
use Rattle.import_laws.specs.Names.{AreNames}
use Rattle.model_import.proofs.names.names.Given as goal

abbrev pub invariant-loop-row : goal.invariant-loop-row
invariant-loop-row g l =
    let m = g.L.Look.state l.look in
    record {
      so_far : (xs : List IdBytes) → AreNames m l.rows l.ws l.from (drop l.row-index l.rows) xs → AreNames m l.rows l.ws 1 l.rows (l.names ++ xs);
      as_many : length l.names ≡ l.row-index;
    }
