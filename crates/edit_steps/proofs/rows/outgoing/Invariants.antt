use Rattle.std.proofs.Common.{◌≡◌, [], ◌++◌, drop, take}
use Rattle.edit_steps.specs.Deletes.{outgoing_made}
use Rattle.edit_steps.specs.Reached.{HasSlots}
use Rattle.edit_steps.proofs.rows.outgoing.Given as goal

abbrev pub invariant-loop-i : goal.invariant-loop-i
invariant-loop-i g l =
    let row = (g.L.Look.state l.look).row in
    record {
      made : l.steps ++ outgoing_made l.meta row (take l.i l.slots) (drop l.i l.slots) ≡ l.initial.steps ++ outgoing_made l.meta row [] l.slots;
      seen : HasSlots l.before (take l.i l.slots);
    }
