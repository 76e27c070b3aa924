use Rattle.std.proofs.Common.{◌≡◌, false, refl, sym, ap, subst, ◌∙◌}
use Rattle.std.specs.Prelude.{IsSome}
use Rattle.finite_maps.specs.Equal.{text_eq}
use Rattle.step_apply.specs.Groups.{fan_of, members_of}
use Rattle.step_apply.proofs.Grouped.{not_at}
use Rattle.step_apply.proofs.groups.put_in.Goals as goal

pub returns-in-Some-clause-there : goal.returns-in-Some-clause-there
returns-in-Some-clause-there c = λ b g apart.
    let wrote = (c.get_mut.follows.holds c.put_of.new.fan).3 (subst (λ o. IsSome o) c.in-Some.ensures.value refl) in
    ap (λ o. fan_of o g) (wrote.2 b (not_at c.args.a.now b apart))

pub returns-in_ok-insert-in-None-clause-there : goal.returns-in_ok-insert-in-None-clause-there
returns-in_ok-insert-in-None-clause-there c = λ b g apart.
    ap (λ o. fan_of o g) (c.in_ok-insert-in-None.ensures.updates.2 b
    (not_at c.in_ok-key.key b (subst (λ x. text_eq x b ≡ false) (sym c.in_ok-key.ensures) apart)))
    ∙ ap (λ t. members_of t b g) c.get_mut.follows.holds-at-none
