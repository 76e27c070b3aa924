use Rattle.working_model.specs.Taken.{AreTaken}
use Rattle.working_model.proofs.working.free_from.Given as goal

abbrev pub invariant-loop-k : goal.invariant-loop-k
invariant-loop-k l = AreTaken l.model l.ws l.k
