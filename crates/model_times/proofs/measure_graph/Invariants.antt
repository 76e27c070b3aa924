use Rattle.model_times.specs.Models.{AreGood}
use Rattle.model_times.proofs.measure_graph.Given as goal

abbrev pub invariant-loop : goal.invariant-loop
invariant-loop l = AreGood l.meta (λ m. m) l.models
