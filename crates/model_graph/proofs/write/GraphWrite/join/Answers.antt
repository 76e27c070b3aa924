use Rattle.std.proofs.Common.{ap, ◌∙◌}
use Rattle.std.specs.Prelude.{Some, None}
use Rattle.finite_maps.specs.Maps.{set}
use Rattle.finite_maps.proofs.Cases.{true_false}
use Rattle.finite_maps.proofs.MapLaws.{set_back}
use Rattle.model_state.specs.Keys.{RowKey}
use Rattle.model_state.specs.State.{State}
use Rattle.model_state.specs.Steps.{mirror_given}
use Rattle.model_state.proofs.Orders.{row_order}
use Rattle.model_graph.proofs.write.GraphWrite.join.Goals as goal

-- an opposite has a rank
pub unreachable-requires : goal.unreachable-requires
unreachable-requires c =
    true_false (mirror_given c.args.opposite c.args.f c.args.rb) c.requires.given (λ i. mirror_given (c.in-Some.is i) c.args.f (c.in_default.is i))

-- where the mirror is refused, the row that was put in goes again
pub returns-clause-err : goal.returns-clause-err
returns-clause-err c =
    let key : RowKey = (c.args.a.now, c.args.f, c.args.b.now) in
    c.drop_row.ensures
    ∙ ap (λ (s : State). record s { row = set s.row key None }) (c.in-Err.ensures.err ∙ c.in_ok-put_row-in-Some.ensures.ok)
    ∙ (λ i. record c.args.self.now { row = set_back row_order c.args.self.now.row key None (Some c.args.ra) c.requires.absent i })
