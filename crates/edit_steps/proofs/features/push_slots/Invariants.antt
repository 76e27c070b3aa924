use Rattle.std.proofs.Common.{◌≡◌, ◌++◌, map, take}
use Rattle.std.specs.List.{filter}
use Rattle.model_state.specs.Typing.{kind_of}
use Rattle.edit_steps.specs.Sorts.{passes}
use Rattle.edit_steps.proofs.features.push_slots.Given as goal

-- the slots of the features so far
abbrev pub invariant-loop-f : goal.invariant-loop-f
invariant-loop-f l = l.slots ≡ l.initial.slots ++ map (λ f. (l.e, f)) (filter (λ f. passes l.sort (kind_of l.meta f)) (take l.f-index l.features))
