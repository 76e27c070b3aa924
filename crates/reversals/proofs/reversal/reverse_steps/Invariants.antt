-- the reversals so far, and those of what is left
use Rattle.std.proofs.Common.{◌≡◌, ◌++◌}
use Rattle.model_state.specs.Steps.{rev_all}
use Rattle.reversals.proofs.reversal.reverse_steps.Given as goal

abbrev pub invariant-loop-step : goal.invariant-loop-step
invariant-loop-step l = l.reversals ++ rev_all l.step-iterator.iter.rest.now ≡ rev_all l.steps
