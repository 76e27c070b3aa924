use Rattle.std.proofs.Common.{◌∙◌, sym, ap, arith, nat_eq}
use Rattle.std.specs.List.{list_any}
use Rattle.ecore_meta.specs.Meta.{features_of}
use Rattle.ecore_meta.specs.Promised.{declared}
use Rattle.metamodel_growth.specs.Order.{places}
use Rattle.metamodel_growth.proofs.PlaceLaws.{in_features, low_declared, same_places}
use Rattle.metamodel_growth.proofs.moved.features_of.Goals as goal

pub places-requires : goal.places-requires
places-requires c = λ k h.
    let low = low_declared c.args.next.now c.args.c k (sym (in_features c.args.next.now c.recall_promises.ensures c.args.c k)
    ∙ ap (λ xs. list_any (nat_eq k) xs) (sym c.features_of.ensures) ∙ h) in
    omega (arith, low, c.requires)

pub returns : goal.returns
returns c =
    c.in_ok-numbers.ensures ∙ c.in_ok-set.ensures
    ∙ ap (λ xs. places (λ k. list_any (nat_eq k) xs) c.args.order.now) c.features_of.ensures
    ∙ same_places (λ k. list_any (nat_eq k) (features_of c.args.next.now c.args.c)) (declared c.args.next.now c.args.c)
    (in_features c.args.next.now c.recall_promises.ensures c.args.c) c.args.order.now
