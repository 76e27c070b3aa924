-- what was there, and copies of those gone over
use Rattle.std.proofs.Common.{◌≡◌, ◌++◌, take}
use Rattle.version_states.proofs.states.push_copies.Given as goal

abbrev pub invariant-loop-step : goal.invariant-loop-step
invariant-loop-step l = l.out ≡ l.initial.out ++ take l.step-index l.steps
