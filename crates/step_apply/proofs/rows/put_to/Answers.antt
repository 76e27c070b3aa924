use Rattle.std.proofs.Common.{◌≡◌, false, refl, sym, ap, subst, ◌∙◌}
use Rattle.std.specs.Prelude.{Some, IsSome}
use Rattle.finite_maps.specs.Equal.{text_eq}
use Rattle.finite_maps.specs.Maps.{set}
use Rattle.finite_maps.proofs.TableLaws.{table_updates}
use Rattle.model_state.proofs.Orders.{row_order}
use Rattle.step_apply.specs.Groups.{rows_of, incoming_rows}
use Rattle.step_apply.proofs.Grouped.{not_at}
use Rattle.step_apply.proofs.rows.put_to.Goals as goal

pub returns-in-Ok-clause-here : goal.returns-in-Ok-clause-here
returns-in-Ok-clause-here c =
    let wrote = (c.get_mut.follows.holds c.insert.new.self).3 (subst (λ o. IsSome o) c.in-Some.ensures.value refl) in
    ap rows_of wrote.1
    ∙ table_updates row_order c.in-Some.rows.now c.insert.new.self c.args.key (Some c.args.rank) c.in-Ok.ensures.updates.0
    ∙ ap (λ o. set (rows_of o) c.args.key (Some c.args.rank)) c.in-Some.ensures.value

pub returns-in-Ok-clause-there : goal.returns-in-Ok-clause-there
returns-in-Ok-clause-there c = λ x apart.
    let wrote = (c.get_mut.follows.holds c.insert.new.self).3 (subst (λ o. IsSome o) c.in-Some.ensures.value refl) in
    ap rows_of (wrote.2 x (not_at c.args.b.now x apart))

pub returns-in-Some-clause-there : goal.returns-in-Some-clause-there
returns-in-Some-clause-there c = λ x apart.
    let wrote = (c.get_mut.follows.holds c.insert.new.self).3 (subst (λ o. IsSome o) c.in-Some.ensures.value refl) in
    ap rows_of (wrote.2 x (not_at c.args.b.now x apart))

pub returns-clause-there : goal.returns-clause-there
returns-clause-there c = λ x apart.
    ap rows_of (c.in_ok-insert-in-None-2.ensures.updates.2 x (not_at c.in_ok-own.own x (subst (λ z. text_eq z x ≡ false) (sym c.in_ok-own.ensures) apart)))
    ∙ ap (λ t. incoming_rows t x) c.get_mut.follows.holds-at-none
