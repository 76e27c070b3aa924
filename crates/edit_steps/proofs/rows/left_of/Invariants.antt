use Rattle.std.proofs.Common.{◌≡◌, ◌++◌, not, drop}
use Rattle.std.specs.List.{filter}
use Rattle.model_state.specs.declared.entry.Entry.{Entry}
use Rattle.edit_steps.specs.Reached.{is_reached}
use Rattle.edit_steps.proofs.rows.left_of.Given as goal

abbrev pub invariant-loop-x : goal.invariant-loop-x
invariant-loop-x l = l.left
    ++ filter (λ (x : Entry). not (is_reached l.meta l.before (l.slot.0, l.slot.1, x.id))) (drop l.x-index l.targets) ≡ filter
    (λ (x : Entry). not (is_reached l.meta l.before (l.slot.0, l.slot.1, x.id))) l.targets
