use Rattle.std.proofs.Common.{◌≡◌, refl, sym, ap, subst, ◌∙◌, cond}
use Rattle.std.specs.Prelude.{Some, IsSome}
use Rattle.std.specs.Ordering.{nat_cmp}
use Rattle.std.specs.Map.{lookup}
use Rattle.std.specs.BTreeMap as tree
use Rattle.std.specs.BTreeMap.{is_at}
use Rattle.finite_maps.specs.Maps.{set}
use Rattle.finite_maps.specs.Nested.{nested, inner_get}
use Rattle.model_state.specs.Keys.{id_cmp}
use Rattle.finite_maps.proofs.NestedLaws.{nested_updates, nested_kept}
use Rattle.model_state.proofs.Orders.{id_order, attr_order, nat_order}
use Rattle.step_apply.proofs.Outcomes.{on_ok, on_err}
use Rattle.step_apply.proofs.attrs.Attrs.put.Goals as goal

pub returns-in-Some-clause-ok : goal.returns-in-Some-clause-ok
returns-in-Some-clause-ok c =
    let wrote = (c.get_mut.follows.holds c.write_in.new.inner).3 (subst (λ o. IsSome o) c.in-Some.ensures.value refl) in
    on_ok c.write_in.result
    (λ put.
    nested_updates nat_cmp id_order attr_order c.self.inside.tree
    (c.get_mut.follows.lender c.write_in.new.inner) c.args.e c.args.f c.write_in.new.inner (Some c.args.values) wrote.0
    (λ j. put j ∙ ap (λ o. cond (is_at (nat_cmp c.args.f) j) (Some c.args.values) (inner_get (λ m. tree.get nat_cmp m j) o)) c.in-Some.ensures.value) nat_order
    ∙ ap (λ m. set m (c.args.e, c.args.f) (Some c.args.values)) c.self.view_is)
    c.write_in.ensures.ok

pub returns-in-Some-clause-err : goal.returns-in-Some-clause-err
returns-in-Some-clause-err c =
    let wrote = (c.get_mut.follows.holds c.write_in.new.inner).3 (subst (λ o. IsSome o) c.in-Some.ensures.value refl) in
    on_err c.write_in.result
    (λ same.
    nested_kept nat_cmp id_order attr_order c.self.inside.tree (c.get_mut.follows.lender c.write_in.new.inner) c.args.e c.write_in.new.inner wrote.0
    (λ j. ap (λ es. lookup (is_at (nat_cmp j)) es) same ∙ ap (inner_get (λ m. tree.get nat_cmp m j)) c.in-Some.ensures.value)
    ∙ c.self.view_is)
    c.write_in.ensures.err

pub returns-in_ok-insert-in-None-clause-ok : goal.returns-in_ok-insert-in-None-clause-ok
returns-in_ok-insert-in-None-clause-ok c =
    let still : c.get_mut.follows.lender-at-none ≡ c.self.inside.tree = c.get_mut.follows.holds-at-none in
    nested_updates nat_cmp id_order attr_order c.get_mut.follows.lender-at-none c.insert.new.self c.args.e c.args.f c.write_in-in-None.new.inner
    (Some c.args.values) c.in_ok-insert-in-None.ensures.updates.0
    (λ j. c.in_ok-write_in-in-None.ensures.ok j
    ∙ ap (cond (is_at (nat_cmp c.args.f) j) (Some c.args.values))
    (ap (λ es. lookup (is_at (nat_cmp j)) es) c.new-inner.ensures.empty ∙ ap (inner_get (λ m. tree.get nat_cmp m j)) c.in-None.ensures.value
    ∙ ap (λ t. inner_get (λ m. tree.get nat_cmp m j) (tree.get id_cmp t c.args.e)) (sym still))) nat_order
    ∙ ap (λ t. set (nested id_cmp nat_cmp t) (c.args.e, c.args.f) (Some c.args.values)) still
    ∙ ap (λ m. set m (c.args.e, c.args.f) (Some c.args.values)) c.self.view_is
