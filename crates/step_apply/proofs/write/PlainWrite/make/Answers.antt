use Rattle.std.proofs.Common.{ap, ◌∙◌, Some, None}
use Rattle.finite_maps.specs.Maps.{set}
use Rattle.finite_maps.proofs.MapLaws.{set_back}
use Rattle.model_state.proofs.Orders.{id_order}
use Rattle.step_apply.proofs.write.PlainWrite.make.Goals as goal

-- where the place is refused, the class that was put in goes again
pub returns-in-Err-clause-err : goal.returns-in-Err-clause-err
returns-in-Err-clause-err c =
    let kinds = c.drop_at.ensures ∙ ap (λ m. set m c.args.e.now None) c.in_ok-put_kind.ensures.ok
    ∙ set_back id_order c.args.self.now.kinds c.args.e.now None (Some c.args.class) c.requires.absent in
    let places = c.in-Err.ensures.err in
    λ i. record { kind = kinds i; place = (places i).place; prank = (places i).rank; attr = c.args.self.now.attrs; row = c.args.self.now.rows }
