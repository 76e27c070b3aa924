-- the reversals so far, and those of what is left
use Rattle.std.proofs.Common.{◌≡◌, ◌++◌}
use Rattle.model_state.specs.Packages.{rev_package}
use Rattle.reversals.proofs.reversal.reverse.Given as goal

abbrev pub invariant-loop-op : goal.invariant-loop-op
invariant-loop-op l = l.reversals ++ rev_package l.op-iterator.iter.rest.now ≡ rev_package l.«package»
