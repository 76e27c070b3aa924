use Rattle.std.proofs.Common.{◌≡◌, ◌+◌, ◌++◌, sym, ap, ◌∙◌, append_assoc, drop, map}
use Rattle.edit_steps.specs.Deletes.{incoming_left, incoming_made, incoming_unlink}
use Rattle.edit_steps.proofs.Walks.{drop_more}
use Rattle.edit_steps.proofs.rows.incoming.Goals as goal

pub loop-x-preserved : goal.loop-x-preserved
loop-x-preserved g c = λ ss has.
    let row = (g.L.Look.state c.args.look.now).row in
    let meta = c.args.meta.now in
    let xs = c.args.elements.now in
    let i = c.loop-x.x-index in
    let x = c.x-item.result in
    let made = map (incoming_unlink meta row x) (incoming_left meta row ss x) in
    let rest = incoming_made meta row ss (drop (i + 1) xs) in
    let head : incoming_made meta row ss (drop i xs) ≡ made ++ rest = ap (incoming_made meta row ss) (drop_more xs i x c.loop-x-test.true c.x-item.is) in
    ap (λ l. l ++ rest) (c.in_ok-unlink_to.ensures ss has)
    ∙ append_assoc c.loop-x.steps made rest
    ∙ ap (λ l. c.loop-x.steps ++ l) (sym head)
    ∙ c.loop-x.invariant ss has
