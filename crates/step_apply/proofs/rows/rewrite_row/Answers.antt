use Rattle.std.proofs.Common.{refl, sym, ap, subst, ◌∙◌}
use Rattle.std.specs.Prelude.{None, Some, IsSome}
use Rattle.finite_maps.specs.Maps.{set}
use Rattle.finite_maps.specs.Tables.{table}
use Rattle.finite_maps.proofs.TableLaws.{table_updates}
use Rattle.model_state.specs.Keys.{row_cmp}
use Rattle.model_state.proofs.Orders.{row_order}
use Rattle.step_apply.proofs.rows.rewrite_row.Goals as goal

pub returns-in-None : goal.returns-in-None
returns-in-None c = λ _.
    table_updates row_order c.args.rows.now c.remove.new.self c.args.key.now None c.remove.ensures.updates.0
    ∙ ap (set (table row_cmp c.args.rows.now) c.args.key.now) (sym c.in-None.is)

pub returns-in-Some-get_mut : goal.returns-in-Some-get_mut
returns-in-Some-get_mut c = λ _.
    let wrote = (c.get_mut.follows.holds c.in-Some.rank).3 (subst (λ o. IsSome o) c.in-Some-get_mut.ensures.value refl) in
    table_updates row_order c.args.rows.now (c.get_mut.follows.lender c.in-Some.rank) c.args.key.now (Some c.in-Some.rank) wrote.0
    ∙ ap (set (table row_cmp c.args.rows.now) c.args.key.now) (sym c.in-Some.is)
