use Rattle.std.proofs.Common.{take}
use Rattle.model_import.specs.Given.{Gives}
use Rattle.model_import.proofs.given.ids_given.Given as goal

abbrev pub invariant-loop-row : goal.invariant-loop-row
invariant-loop-row l = Gives l.ids (take l.row-index l.rows)
