use Rattle.step_apply.specs.View.{plain_state}
use Rattle.model_times.specs.Models.{AreGood}
use Rattle.model_times.proofs.measure_plain.Given as goal

abbrev pub invariant-loop : goal.invariant-loop
invariant-loop l = AreGood l.meta plain_state l.models
