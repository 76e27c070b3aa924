use Rattle.model_import.specs.Indexes.{TellAll}
use Rattle.model_import.proofs.indexes.add_lists.Given as goal

abbrev pub invariant-loop-r : goal.invariant-loop-r
invariant-loop-r l = TellAll l.lists l.rows
