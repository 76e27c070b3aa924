use Rattle.model_times.specs.Models.{AreGood}
use Rattle.model_times.proofs.take_turns.Given as goal

abbrev pub invariant-loop-turn : goal.invariant-loop-turn
invariant-loop-turn g l = AreGood l.meta g.M.Look.state l.models.items
