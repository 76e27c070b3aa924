use Rattle.std.proofs.Common.{◌≡◌, subst, ◌∙◌}
use Rattle.std.specs.Prelude.{OnOk, Some}
use Rattle.std.specs.FinMap.{from_entries}
use Rattle.finite_maps.specs.Maps.{set}
use Rattle.finite_maps.specs.Tables.{table}
use Rattle.model_state.specs.Keys.{row_cmp}
use Rattle.step_apply.specs.Spots.{RowRanks}
use Rattle.step_apply.proofs.Outcomes.{on_err}
use Rattle.step_apply.proofs.rows.Rows.put.Goals as goal

pub invariant_of-self : goal.invariant_of-self
invariant_of-self c = (c.put_row.ensures.out c.self.invariant.0, c.put_row.ensures.into c.self.invariant.1)

pub returns-clause-ok : goal.returns-clause-ok
returns-clause-ok c = subst
    (λ (r : RowRanks). OnOk c.put_row.result (table row_cmp c.put_row.new.tree ≡ set r c.args.key (Some c.args.rank))) c.self.view_is c.put_row.ensures.ok

pub returns-clause-err : goal.returns-clause-err
returns-clause-err c = on_err c.put_row.result (λ same. (λ i. from_entries (same i)) ∙ c.self.view_is) c.put_row.ensures.err
