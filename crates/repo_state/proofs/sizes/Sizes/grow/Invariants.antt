use Rattle.std.proofs.Common.{◌≡◌}
use Rattle.repo_state.specs.Sizes.{sized}
use Rattle.repo_state.proofs.sizes.Sizes.grow.Given as goal

abbrev pub invariant-loop-size : goal.invariant-loop-size
invariant-loop-size l = sized l.size-items ≡ sized l.fn.self.sizes.items
