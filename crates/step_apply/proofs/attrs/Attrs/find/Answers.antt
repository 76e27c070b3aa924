use Rattle.std.proofs.Common.{sym, ap, ◌∙◌, []}
use Rattle.std.specs.Prelude.{unwrap_or}
use Rattle.std.specs.Ordering.{nat_cmp}
use Rattle.std.specs.FinMap.{get}
use Rattle.std.specs.BTreeMap as tree
use Rattle.finite_maps.specs.Nested.{inner_get}
use Rattle.finite_maps.proofs.NestedLaws.{get-nested}
use Rattle.model_state.proofs.Orders.{id_order, attr_order}
use Rattle.step_apply.proofs.attrs.Attrs.find.Goals as goal

pub returns-in-None : goal.returns-in-None
returns-in-None c =
    ap (λ o. unwrap_or o []) (
    ap (inner_get (λ m. tree.get nat_cmp m c.args.f)) c.in-None.ensures.value
    ∙ sym (get-nested nat_cmp id_order attr_order c.self.inside.tree c.args.e.now c.args.f) ∙ ap (λ m. get m (c.args.e.now, c.args.f)) c.self.view_is)

pub returns-in-None-get : goal.returns-in-None-get
returns-in-None-get c =
    ap (λ o. unwrap_or o []) (
    c.in-None-get.ensures.value
    ∙ ap (inner_get (λ m. tree.get nat_cmp m c.args.f)) c.in-Some.ensures.value
    ∙ sym (get-nested nat_cmp id_order attr_order c.self.inside.tree c.args.e.now c.args.f) ∙ ap (λ m. get m (c.args.e.now, c.args.f)) c.self.view_is)

pub returns-in-Some-get : goal.returns-in-Some-get
returns-in-Some-get c =
    c.as_slice.ensures
    ∙ ap (λ o. unwrap_or o []) (
    c.in-Some-get.ensures.value
    ∙ ap (inner_get (λ m. tree.get nat_cmp m c.args.f)) c.in-Some.ensures.value
    ∙ sym (get-nested nat_cmp id_order attr_order c.self.inside.tree c.args.e.now c.args.f) ∙ ap (λ m. get m (c.args.e.now, c.args.f)) c.self.view_is)
