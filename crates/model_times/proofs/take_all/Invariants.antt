use Rattle.model_times.specs.Models.{AreGood}
use Rattle.model_times.proofs.take_all.Given as goal

abbrev pub invariant-loop-operation : goal.invariant-loop-operation
invariant-loop-operation g l = AreGood l.meta g.M.Look.state l.models.items
