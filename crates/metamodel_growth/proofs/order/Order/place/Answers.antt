use Rattle.std.proofs.Common.{◌≡◌, ◌∙◌, sym, ap, arith, length}
use Rattle.std.specs.Prelude.{slice_get}
use Rattle.metamodel_growth.specs.Order.{place_in}
use Rattle.metamodel_growth.proofs.PlaceLaws.{place_none, place_some}
use Rattle.metamodel_growth.proofs.order.Order.place.Goals as goal

pub returns-in-None : goal.returns-in-None
returns-in-None c =
    let v = c.self.view_is in
    let p = place_none c.self.inside.numbers.items c.self.inside.places.items c.self.invariant c.args.n
    (sym (c.item_at.ensures ∙ ap (λ xs. slice_get xs c.args.n) c.as_slice.ensures.value) ∙ c.in-None.is) in
    let q : place_in c.args.self.now c.args.n ≡ length c.self.inside.numbers.items = cc in
    omega (arith, q, c.len.ensures, c.self.inside.numbers.ok)

pub returns-in-Some : goal.returns-in-Some
returns-in-Some c =
    let v = c.self.view_is in
    let p = place_some c.self.inside.numbers.items c.self.inside.places.items c.self.invariant c.args.n c.in-Some.place
    (sym (c.item_at.ensures ∙ ap (λ xs. slice_get xs c.args.n) c.as_slice.ensures.value) ∙ c.in-Some.is) in
    cc
