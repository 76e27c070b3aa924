use Rattle.model_times.specs.Models.{AreGood}
use Rattle.model_times.proofs.build.Given as goal

abbrev pub invariant-loop-piece : goal.invariant-loop-piece
invariant-loop-piece g l = AreGood l.meta g.M.Look.state l.models.items
