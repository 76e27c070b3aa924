use Rattle.std.proofs.Common.{sym, ap, ◌∙◌}
use Rattle.std.specs.FinMap.{get, get-empty}
use Rattle.finite_maps.proofs.EqualLaws.{nat_equality}
use Rattle.model_state.specs.Keys.{row_cmp}
use Rattle.step_apply.specs.Groups.{rows_of}
use Rattle.step_apply.proofs.Emptied.{no_row}
use Rattle.step_apply.proofs.rows.is_no_target.Goals as goal

pub returns-in-None : goal.returns-in-None
returns-in-None c = λ _ k. ap (λ o. get (rows_of o) k) (sym c.in-None.ensures.value) ∙ get-empty row_cmp k

pub returns-in-Some : goal.returns-in-Some
returns-in-Some c = λ yes k. ap (λ o. get (rows_of o) k) (sym c.in-Some.ensures.value)
    ∙ no_row c.in-Some.rows.now (sym c.len.ensures.len ∙ nat_equality.exact c.len.result 0 yes) k
