use Rattle.std.proofs.Common.{◌≡◌, ◌++◌, take}
use Rattle.edit_steps.proofs.walk.push_ids.Given as goal
use Rattle.edit_steps.specs.Standing.{ids_of}

abbrev pub invariant-loop-x : goal.invariant-loop-x
invariant-loop-x l = l.found.items ≡ l.initial.found.items ++ ids_of (take l.x-index l.list)
