use Rattle.std.proofs.Common.{◌++◌, not, ◌∙◌, map}
use Rattle.std.proofs.lemmas.Result.{on_ok_weaker}
use Rattle.std.specs.List.{filter}
use Rattle.model_state.specs.declared.entry.Incoming.{Incoming}
use Rattle.edit_steps.specs.Deletes.{incoming_unlink}
use Rattle.edit_steps.proofs.Reached.{reached_is}
use Rattle.edit_steps.proofs.rows.unlink_to.Goals as goal

pub returns : goal.returns
returns g c =
    let row = (g.L.Look.state c.args.look.now).row in
    let meta = c.args.meta.now in
    let e = c.args.e.now in
    on_ok_weaker c.unlink_incoming.result
    (λ made ss has. made ∙ (λ i. c.args.steps.now ++ map (incoming_unlink meta row e)
    (filter (λ (x : Incoming). not (reached_is meta c.recall_soundness.ensures x.source x.feature e c.args.slots.now ss has i))
    ((c.as_slice.ensures ∙ c.in_ok-rows.ensures) i))))
    c.unlink_incoming.ensures
