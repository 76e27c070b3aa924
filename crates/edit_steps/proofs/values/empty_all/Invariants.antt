use Rattle.std.proofs.Common.{◌≡◌, ◌++◌, drop}
use Rattle.edit_steps.specs.Deletes.{values_made}
use Rattle.edit_steps.proofs.values.empty_all.Given as goal

abbrev pub invariant-loop-slot : goal.invariant-loop-slot
invariant-loop-slot g l =
    let m = g.L.Look.state l.look in
    l.steps ++ values_made l.meta m (drop l.slot-index l.slots) ≡ l.initial.steps ++ values_made l.meta m l.slots
