use Rattle.std.proofs.Common.{◌∙◌, sym, ap, arith, nat_eq}
use Rattle.std.specs.List.{list_any}
use Rattle.ecore_meta.specs.Above.{above_of}
use Rattle.ecore_meta.specs.Meta.{is_a}
use Rattle.metamodel_growth.specs.Order.{places}
use Rattle.metamodel_growth.proofs.PlaceLaws.{in_above, same_places}
use Rattle.metamodel_growth.proofs.moved.above_moved.Goals as goal

pub places-requires : goal.places-requires
places-requires c = λ k h.
    let low = c.recall_promises.ensures.above.classes c.args.c k (sym (in_above c.args.next.now c.args.c k)
    ∙ ap (λ xs. list_any (nat_eq k) xs) (sym (c.as_slice.ensures.value ∙ c.in_ok-classes.ensures)) ∙ h) in
    omega (arith, low, c.requires)

pub returns : goal.returns
returns c =
    c.in_ok-set.ensures
    ∙ ap (λ xs. places (λ k. list_any (nat_eq k) xs) c.args.order.now) (c.as_slice.ensures.value ∙ c.in_ok-classes.ensures)
    ∙ same_places (λ k. list_any (nat_eq k) (above_of c.args.next.now c.args.c)) (is_a c.args.next.now c.args.c)
    (in_above c.args.next.now c.args.c) c.args.order.now
