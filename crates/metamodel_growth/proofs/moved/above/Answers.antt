use Rattle.std.proofs.Common.{◌++◌, ◌∷◌, [], ◌∙◌, sym, ap, get_or, map, take}
use Rattle.std.proofs.lemmas.List.{map-append, take_all, take_more}
use Rattle.ecore_meta.specs.Meta.{is_a}
use Rattle.metamodel_growth.specs.Order.{places}
use Rattle.metamodel_growth.proofs.moved.above.Goals as goal

pub loop-c-preserved : goal.loop-c-preserved
loop-c-preserved c =
    ap (map (λ s. s.keys)) c.in_ok-push.ensures.items
    ∙ map-append (λ s. s.keys) c.loop-c.moved.items (c.in_ok-above_moved.field-0 ∷ [])
    ∙ (λ i. c.loop-c.invariant i ++ c.in_ok-above_moved.ensures i ∷ [])
    ∙ sym (map-append (λ k. places (is_a c.args.next.now k) c.args.order.now) (take c.loop-c.c-index c.numbers-c-items.result.now)
    (get_or c.numbers-c-items.result.now c.loop-c.c-index 0 ∷ []))
    ∙ ap (map (λ k. places (is_a c.args.next.now k) c.args.order.now)) (sym (take_more c.numbers-c-items.result.now c.loop-c.c-index 0 c.loop-c-test.true))

pub returns : goal.returns
returns c =
    c.loop-c.invariant
    ∙ ap (map (λ k. places (is_a c.args.next.now k) c.args.order.now))
    (take_all c.loop-c.c-index c.numbers-c-items.result.now c.loop-c-test.false ∙ c.numbers-c-items.ensures)
