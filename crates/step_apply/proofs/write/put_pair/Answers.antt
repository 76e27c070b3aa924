use Rattle.std.proofs.Common.{ap, ◌∙◌, Some, None}
use Rattle.finite_maps.specs.Maps.{set}
use Rattle.finite_maps.proofs.MapLaws.{set_back}
use Rattle.model_state.proofs.Orders.{row_order}
use Rattle.step_apply.proofs.write.put_pair.Goals as goal

-- where the row back is refused, the row that was put in goes again
pub returns-in-Err-clause-err : goal.returns-in-Err-clause-err
returns-in-Err-clause-err c =
    c.drop_at.ensures
    ∙ ap (λ m. set m c.args.key.now None) (c.in-Err.ensures.err ∙ c.in_ok-set_rank.ensures.ok)
    ∙ set_back row_order c.args.rows.now c.args.key.now None (Some c.args.rank) c.requires
