use Rattle.std.proofs.Common.{◌≡◌, ◌++◌, not, drop, map}
use Rattle.std.specs.List.{filter}
use Rattle.model_state.specs.declared.entry.Incoming.{Incoming}
use Rattle.edit_steps.specs.Deletes.{incoming_unlink}
use Rattle.edit_steps.specs.Reached.{is_reached}
use Rattle.edit_steps.proofs.rows.unlink_incoming.Given as goal

abbrev pub invariant-loop-row : goal.invariant-loop-row
invariant-loop-row g l =
    let row = (g.L.Look.state l.look).row in
    l.steps ++ map (incoming_unlink l.meta row l.e)
    (filter (λ (i : Incoming). not (is_reached l.meta l.slots (i.source, i.feature, l.e))) (drop l.row-index l.rows))
    ≡ l.initial.steps ++ map (incoming_unlink l.meta row l.e) (filter (λ (i : Incoming). not (is_reached l.meta l.slots (i.source, i.feature, l.e))) l.rows)
