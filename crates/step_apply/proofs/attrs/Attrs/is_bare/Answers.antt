use Rattle.std.proofs.Common.{sym, ap, ◌∙◌}
use Rattle.std.specs.Ordering.{nat_cmp}
use Rattle.std.specs.FinMap.{get}
use Rattle.std.specs.BTreeMap as tree
use Rattle.finite_maps.specs.Nested.{inner_get}
use Rattle.finite_maps.proofs.NestedLaws.{get-nested}
use Rattle.model_state.proofs.Orders.{id_order, attr_order}
use Rattle.step_apply.proofs.Bare.{bare, bare_is}
use Rattle.step_apply.proofs.attrs.Attrs.is_bare.Goals as goal

pub returns-in-None : goal.returns-in-None
returns-in-None c = sym (bare c.args.self.now c.args.e.now (λ f.
    ap (λ m. get m (c.args.e.now, f)) (sym c.self.view_is) ∙ get-nested nat_cmp id_order attr_order c.self.inside.tree c.args.e.now f
    ∙ ap (inner_get (λ m. tree.get nat_cmp m f)) (sym c.in-None.ensures.value)))

pub returns-in-Some : goal.returns-in-Some
returns-in-Some c = bare_is c.args.self.now c.args.e.now c.in-Some.inner.now c.is_empty.result c.is_empty.ensures.0 c.is_empty.ensures.1 (λ f.
    ap (λ m. get m (c.args.e.now, f)) (sym c.self.view_is) ∙ get-nested nat_cmp id_order attr_order c.self.inside.tree c.args.e.now f
    ∙ ap (inner_get (λ m. tree.get nat_cmp m f)) (sym c.in-Some.ensures.value))
