use Rattle.std.proofs.Common.{◌≡◌, ◌++◌, take}
use Rattle.state_steps.proofs.elements.push_all.Given as goal

abbrev pub invariant-loop-id : goal.invariant-loop-id
invariant-loop-id l = l.found ≡ l.initial.found ++ take l.id-index l.ids
