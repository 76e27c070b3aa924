use Rattle.std.proofs.Common.{List, ℕ, subst, ◌∙◌}
use Rattle.metamodel_growth.specs.Order.{IsSetOf}
use Rattle.metamodel_growth.proofs.PlaceLaws.{places_are}
use Rattle.metamodel_growth.proofs.order.places.Goals as goal

pub returns : goal.returns
returns c =
    let P : List ℕ → Type 0 = λ xs. IsSetOf xs c.in_ok-set.set in
    places_are c.args.order.now c.args.numbers.now c.in_ok-set.set c.recall_order.ensures.order c.requires
    (subst P (c.as_slice.ensures.value ∙ c.in_ok-places.ensures) c.in_ok-set.ensures)
