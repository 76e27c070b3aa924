use Rattle.std.proofs.Common.{◌≡◌, ◌++◌, drop}
use Rattle.edit_steps.specs.References.{without_entry}
use Rattle.edit_steps.proofs.reorder.without_entry.Given as goal

abbrev pub invariant-loop-x : goal.invariant-loop-x
invariant-loop-x l = l.others ++ without_entry l.b (drop l.x-index l.list) ≡ without_entry l.b l.list
