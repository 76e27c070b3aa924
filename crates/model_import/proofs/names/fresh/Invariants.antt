use Rattle.std.proofs.Common.{◌≡◌, ℕ, ◌<◌, ◌≤◌, true}
use Rattle.edits.specs.FreshIds.{numbered}
use Rattle.import_laws.specs.Names.{is_taken}
use Rattle.model_import.proofs.names.fresh.Given as goal

abbrev pub invariant-loop-k : goal.invariant-loop-k
invariant-loop-k g l = (j : ℕ) → l.from ≤ j → j < l.k → is_taken (g.L.Look.state l.look) l.rows (numbered l.ws j) ≡ true
