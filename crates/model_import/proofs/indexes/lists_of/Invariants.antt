use Rattle.model_import.specs.Indexes.{TellAll}
use Rattle.model_import.proofs.indexes.lists_of.Given as goal

abbrev pub invariant-loop-b : goal.invariant-loop-b
invariant-loop-b l = TellAll l.lists l.rows
