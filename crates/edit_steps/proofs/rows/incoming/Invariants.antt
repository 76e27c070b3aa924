use Rattle.std.proofs.Common.{◌≡◌, List, ◌++◌, drop}
use Rattle.model_state.specs.Keys.{AttrKey}
use Rattle.edit_steps.specs.Deletes.{incoming_made}
use Rattle.edit_steps.specs.Reached.{HasSlots}
use Rattle.edit_steps.proofs.rows.incoming.Given as goal

abbrev pub invariant-loop-x : goal.invariant-loop-x
invariant-loop-x g l =
    let row = (g.L.Look.state l.look).row in
    (ss : List AttrKey) → HasSlots l.slots ss
    → l.steps ++ incoming_made l.meta row ss (drop l.x-index l.elements) ≡ l.initial.steps ++ incoming_made l.meta row ss l.elements
