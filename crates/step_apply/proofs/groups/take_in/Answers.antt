use Rattle.std.proofs.Common.{refl, sym, ap, subst, ◌∙◌}
use Rattle.std.specs.Prelude.{None, IsSome}
use Rattle.std.specs.Option.{option_copied_mut}
use Rattle.std.specs.FinMap.{get, get-empty}
use Rattle.finite_maps.proofs.MapLaws.{set_here}
use Rattle.model_state.specs.Keys.{id_cmp}
use Rattle.model_state.proofs.Orders.{id_order}
use Rattle.step_apply.specs.Groups.{fan_of, members_of}
use Rattle.step_apply.proofs.Grouped.{not_at}
use Rattle.step_apply.proofs.groups.take_in.Goals as goal

pub returns-in-Some-clause-there : goal.returns-in-Some-clause-there
returns-in-Some-clause-there c = λ b g apart.
    let wrote = (c.get_mut.follows.holds c.drop_of.new.fan).3 (subst (λ o. IsSome o) c.in-Some.ensures.value refl) in
    ap (λ o. fan_of o g) (wrote.2 b (not_at c.args.a.now b apart))

pub returns-in_default-clause-here : goal.returns-in_default-clause-here
returns-in_default-clause-here c =
    ap (λ t. members_of t c.args.a.now c.args.f) c.get_mut.follows.holds-at-none
    ∙ sym (set_here id_order _ c.args.e.now None
    (ap (λ o. get (fan_of o c.args.f) c.args.e.now) (sym (sym (ap option_copied_mut c.in_default.is) ∙ c.get_mut.ensures.value))
    ∙ get-empty id_cmp c.args.e.now))
