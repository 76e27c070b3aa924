use Rattle.std.proofs.Common.{◌≡◌, ◌++◌, reverse, vec_len}
use Rattle.edit_steps.proofs.walk.stack_up.Given as goal

abbrev pub invariant-loop-x : goal.invariant-loop-x
invariant-loop-x l = l.stack.items ++ reverse l.list.items ≡ l.initial.stack.items ++ reverse l.initial.list.items

abbrev pub decreases-loop-x : goal.decreases-loop-x
decreases-loop-x l = vec_len l.list
