use Rattle.std.proofs.Common.{◌≡◌, ◌++◌, List, not, ◌∙◌}
use Rattle.std.proofs.lemmas.Result.{on_ok_weaker}
use Rattle.std.specs.List.{filter}
use Rattle.model_state.specs.declared.entry.Entry.{Entry}
use Rattle.model_state.specs.Keys.{AttrKey}
use Rattle.edit_steps.specs.Rows.{unlinks}
use Rattle.edit_steps.specs.Deletes.{targets_left}
use Rattle.edit_steps.specs.Reached.{HasSlots}
use Rattle.edit_steps.proofs.Reached.{reached_is}
use Rattle.edit_steps.proofs.rows.unlink_slot.Goals as goal

pub returns : goal.returns
returns g c =
    let row = (g.L.Look.state c.args.look.now).row in
    let meta = c.args.meta.now in
    let s = c.args.slot.now in
    let left : (ss : List AttrKey) → HasSlots c.args.before.now ss → c.as_slice-2.result.now ≡ targets_left meta row ss s =
    λ ss has. c.as_slice-2.ensures ∙ c.in_ok-left.ensures
    ∙ (λ i. filter (λ (x : Entry). not (reached_is meta c.recall_soundness.ensures s.0 s.1 x.id c.args.before.now ss has i))
    ((c.as_slice.ensures ∙ c.in_ok-targets.ensures) i)) in
    on_ok_weaker c.unlinks.result
    (λ made ss has. made ∙ (λ i. c.args.steps.now ++ unlinks row (c.opposite_of-opposite.ensures i) s.0 s.1 (left ss has i))) c.unlinks.ensures
