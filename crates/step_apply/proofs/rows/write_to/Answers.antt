use Rattle.std.proofs.Common.{refl, sym, ap, subst, ◌∙◌}
use Rattle.std.specs.Prelude.{IsSome, is_some}
use Rattle.std.specs.Option.{option_copied_mut}
use Rattle.std.specs.FinMap.{get}
use Rattle.finite_maps.specs.Maps.{set}
use Rattle.step_apply.specs.Groups.{rows_of}
use Rattle.step_apply.proofs.Grouped.{none_arrives, some_row, not_at}
use Rattle.step_apply.proofs.rows.write_to.Goals as goal

pub returns-in-Some-clause-here : goal.returns-in-Some-clause-here
returns-in-Some-clause-here c = λ some.
    let wrote = (c.get_mut.follows.holds c.rewrite_row.new.rows).3 (subst (λ o. IsSome o) c.in-Some.ensures.value refl) in
    ap rows_of wrote.1
    ∙ c.rewrite_row.ensures (some_row c.in-Some.rows.now c.args.key.now (ap (λ o. is_some (get (rows_of o) c.args.key.now)) c.in-Some.ensures.value ∙ some))
    ∙ ap (λ o. set (rows_of o) c.args.key.now c.args.rank) c.in-Some.ensures.value

pub returns-in_default-clause-here : goal.returns-in_default-clause-here
returns-in_default-clause-here c = λ some.
    absurd (none_arrives c.args.key.now _ (sym (sym (ap option_copied_mut c.in_default.is) ∙ c.get_mut.ensures.value)) some)

pub returns-in-Some-clause-there : goal.returns-in-Some-clause-there
returns-in-Some-clause-there c = λ x apart.
    let wrote = (c.get_mut.follows.holds c.rewrite_row.new.rows).3 (subst (λ o. IsSome o) c.in-Some.ensures.value refl) in
    ap rows_of (wrote.2 x (not_at c.args.b.now x apart))
