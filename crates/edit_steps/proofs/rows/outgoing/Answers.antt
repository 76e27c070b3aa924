use Rattle.std.proofs.Common.{◌≡◌, ◌+◌, ◌++◌, List, sym, ap, subst, ◌∙◌, append_assoc, drop, take}
use Rattle.model_state.specs.Keys.{AttrKey}
use Rattle.model_state.specs.Typing.{opposite_of}
use Rattle.edit_steps.specs.Rows.{unlinks}
use Rattle.edit_steps.proofs.SpotLaws.{take_more}
use Rattle.edit_steps.specs.Deletes.{outgoing_made, targets_left}
use Rattle.edit_steps.specs.Reached.{HasSlots}
use Rattle.edit_steps.proofs.Walks.{drop_more}
use Rattle.edit_steps.proofs.rows.outgoing.Goals as goal

pub loop-i-preserved : goal.loop-i-preserved
loop-i-preserved g c =
    let row = (g.L.Look.state c.args.look.now).row in
    let meta = c.args.meta.now in
    let ss = c.args.slots.now in
    let i = c.loop-i.i in
    let s = c.index-slots-i.result in
    let made = unlinks row (opposite_of meta s.1) s.0 s.1 (targets_left meta row (take i ss) s) in
    let rest = outgoing_made meta row (take (i + 1) ss) (drop (i + 1) ss) in
    let more = take_more ss i s c.loop-i-test.true c.index-slots-i.is in
    let pushed : c.unlink_slot.new.steps ≡ c.loop-i.steps ++ made = c.in_ok-unlink_slot.ensures (take i ss) c.loop-i.invariant.seen in
    let head : outgoing_made meta row (take i ss) (drop i ss) ≡ made ++ rest =
    ap (outgoing_made meta row (take i ss)) (drop_more ss i s c.loop-i-test.true c.index-slots-i.is)
    ∙ ap (λ b. made ++ outgoing_made meta row b (drop (i + 1) ss)) (sym more) in
    record {
      made = ap (λ l. l ++ rest) pushed ∙ append_assoc c.loop-i.steps made rest ∙ ap (λ l. c.loop-i.steps ++ l) (sym head) ∙ c.loop-i.invariant.made;
      seen = subst (λ (xs : List AttrKey). HasSlots c.add.new.slots xs) (sym more) (c.in_ok-add.ensures (take i ss) c.loop-i.invariant.seen);
    }
