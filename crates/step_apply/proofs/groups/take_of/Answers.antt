use Rattle.std.proofs.Common.{refl, sym, ap, subst, ◌∙◌}
use Rattle.std.specs.Prelude.{None, IsSome}
use Rattle.std.specs.Option.{option_copied_mut}
use Rattle.std.specs.Ordering.{nat_cmp}
use Rattle.std.specs.BTreeMap as tree
use Rattle.std.specs.FinMap.{get, get-empty}
use Rattle.finite_maps.specs.Maps.{set}
use Rattle.finite_maps.proofs.MapLaws.{set_here}
use Rattle.model_state.specs.Keys.{id_cmp}
use Rattle.model_state.proofs.Orders.{id_order}
use Rattle.step_apply.specs.Groups.{group_of}
use Rattle.step_apply.proofs.groups.take_of.Goals as goal

pub returns-in-Some-clause-here : goal.returns-in-Some-clause-here
returns-in-Some-clause-here c =
    let wrote = (c.get_mut.follows.holds c.drop_at.new.self).3 (subst (λ o. IsSome o) c.in-Some.ensures.value refl) in
    ap group_of wrote.1 ∙ c.drop_at.ensures ∙ ap (λ o. set (group_of o) c.args.e.now None) c.in-Some.ensures.value

pub returns-in_default-clause-here : goal.returns-in_default-clause-here
returns-in_default-clause-here c =
    ap (λ t. group_of (tree.get nat_cmp t c.args.f)) c.get_mut.follows.holds-at-none
    ∙ sym (set_here id_order _ c.args.e.now None
    (ap (λ o. get (group_of o) c.args.e.now) (sym (sym (ap option_copied_mut c.in_default.is) ∙ c.get_mut.ensures.value))
    ∙ get-empty id_cmp c.args.e.now))
