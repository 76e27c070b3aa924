use Rattle.model_times.specs.Models.{AreGood}
use Rattle.model_times.proofs.measure_batches.Given as goal

abbrev pub invariant-loop-batch : goal.invariant-loop-batch
invariant-loop-batch g l = AreGood l.meta g.M.Look.state l.models.items
