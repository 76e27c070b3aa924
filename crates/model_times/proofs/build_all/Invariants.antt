use Rattle.model_times.specs.Models.{AreGood}
use Rattle.model_times.proofs.build_all.Given as goal

abbrev pub invariant-loop-model : goal.invariant-loop-model
invariant-loop-model g l = AreGood l.meta g.M.Look.state l.models.items
