use Rattle.std.proofs.Common.{◌≡◌, refl, sym, ap, subst, ◌∙◌, cond}
use Rattle.std.specs.Prelude.{None, IsSome}
use Rattle.std.specs.Ordering.{nat_cmp}
use Rattle.std.specs.Option.{option_copied_mut}
use Rattle.std.specs.FinMap.{get}
use Rattle.std.specs.BTreeMap as tree
use Rattle.std.specs.BTreeMap.{is_at}
use Rattle.finite_maps.specs.Maps.{set}
use Rattle.finite_maps.specs.Nested.{nested, inner_get}
use Rattle.finite_maps.proofs.MapLaws.{set_here}
use Rattle.finite_maps.proofs.NestedLaws.{nested_updates, get-nested}
use Rattle.model_state.specs.Keys.{id_cmp}
use Rattle.model_state.proofs.Orders.{id_order, attr_order, nat_order}
use Rattle.step_apply.proofs.attrs.Attrs.drop_at.Goals as goal
use Rattle.step_apply.proofs.attrs.Attrs.drop_at.Goals.{in-Some+in-Some-1, in-Some+in-None-1, in_default}

pub returns : goal.returns
returns c =
    elim c.match-get_mut.branch [
      | in-Some+in-Some-1 w ↦
          let wrote = (c.get_mut.follows.holds w.remove.new.self).3 (subst (λ o. IsSome o) w.in-Some.ensures.value refl) in
          ap (λ s. nested id_cmp nat_cmp s.tree) w.self-inside-is
          ∙ nested_updates nat_cmp id_order attr_order c.self.inside.tree
          (c.get_mut.follows.lender w.remove.new.self) c.args.e.now c.args.f w.remove.new.self None wrote.0
          (λ j. w.remove.ensures.updates.0 j
          ∙ ap (λ o. cond (is_at (nat_cmp c.args.f) j) None (inner_get (λ m. tree.get nat_cmp m j) o)) w.in-Some.ensures.value) nat_order
          ∙ ap (λ m. set m (c.args.e.now, c.args.f) None) c.self.view_is
      | in-Some+in-None-1 w ↦
          let wrote = (c.get_mut.follows.holds w.remove.new.self).3 (subst (λ o. IsSome o) w.in-Some.ensures.value refl) in
          ap (λ s. nested id_cmp nat_cmp s.tree) w.self-inside-is
          ∙ nested_updates nat_cmp id_order attr_order c.self.inside.tree
          (c.get_mut.follows.lender w.remove.new.self) c.args.e.now c.args.f w.remove.new.self None wrote.0
          (λ j. w.remove.ensures.updates.0 j
          ∙ ap (λ o. cond (is_at (nat_cmp c.args.f) j) None (inner_get (λ m. tree.get nat_cmp m j) o)) w.in-Some.ensures.value) nat_order
          ∙ ap (λ m. set m (c.args.e.now, c.args.f) None) c.self.view_is
      | in_default w ↦
          let still : c.get_mut.follows.lender-at-none ≡ c.self.inside.tree = c.get_mut.follows.holds-at-none in
          let none : get (nested id_cmp nat_cmp c.self.inside.tree) (c.args.e.now, c.args.f) ≡ None =
          get-nested nat_cmp id_order attr_order c.self.inside.tree c.args.e.now c.args.f
          ∙ ap (inner_get (λ m. tree.get nat_cmp m c.args.f)) (sym (sym (ap option_copied_mut w.in_default.is) ∙ c.get_mut.ensures.value)) in
          ap (λ s. nested id_cmp nat_cmp s.tree) w.self-inside-is
          ∙ ap (λ t. nested id_cmp nat_cmp t) still
          ∙ sym (set_here attr_order (nested id_cmp nat_cmp c.self.inside.tree) (c.args.e.now, c.args.f) None none)
          ∙ ap (λ m. set m (c.args.e.now, c.args.f) None) c.self.view_is
    ]
