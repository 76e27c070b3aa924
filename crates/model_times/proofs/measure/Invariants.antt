use Rattle.model_times.specs.Models.{AreGood}
use Rattle.model_times.proofs.measure.Given as goal

abbrev pub invariant-loop : goal.invariant-loop
invariant-loop g l = AreGood l.meta g.M.Look.state l.models.items
