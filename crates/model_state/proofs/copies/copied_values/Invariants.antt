use Rattle.std.proofs.Common.{◌≡◌, take}
use Rattle.model_state.proofs.copies.copied_values.Given as goal

abbrev pub invariant-loop-v : goal.invariant-loop-v
invariant-loop-v l = l.copy.items ≡ take l.v-index l.values
