use Rattle.std.proofs.Common.{◌≡◌, ◌<◌, take}
use Rattle.repo_state.specs.Sizes.{together}
use Rattle.repo_state.proofs.sizes.Sizes.total.Given as goal

abbrev pub invariant-loop-size : goal.invariant-loop-size
invariant-loop-size l = l.total < 18446744073709551615 → l.total ≡ together (take l.size-index l.self.sizes.items)
