use Rattle.std.proofs.Common.{sym, ap, ◌∙◌}
use Rattle.std.specs.Prelude.{Some, unwrap_or}
use Rattle.std.specs.FinMap.{empty}
use Rattle.std.proofs.lemmas.Result.{on_ok_weaker, on_err_weaker}
use Rattle.finite_maps.specs.Maps.{set}
use Rattle.finite_maps.proofs.MapLaws.{set_here}
use Rattle.model_state.proofs.Orders.{nat_order}
use Rattle.graph_parts.specs.Parts.{flat}
use Rattle.graph_parts.proofs.Flat.{written_at}
use Rattle.graph_parts.proofs.feature_lists.put_at.Goals as goal

pub returns-clause-ok : goal.returns-clause-ok
returns-clause-ok c =
    let xs = c.args.items.now.items in
    let at = written_at c.args.f xs c.args.at c.index_mut.result.now c.index_mut.ensures.value c.requires in
    on_ok_weaker c.put.result (λ is.
    at.1 c.put.new.self ∙ ap (λ g. set (flat xs) c.args.f (Some g)) (is ∙ ap (λ o. set (unwrap_or o empty) c.args.e (Some c.args.rank)) (sym at.0)))
    c.put.ensures.ok

pub returns-clause-err : goal.returns-clause-err
returns-clause-err c =
    let xs = c.args.items.now.items in
    let at = written_at c.args.f xs c.args.at c.index_mut.result.now c.index_mut.ensures.value c.requires in
    on_err_weaker c.put.result (λ is.
    at.1 c.put.new.self ∙ ap (λ g. set (flat xs) c.args.f (Some g)) is ∙ set_here nat_order (flat xs) c.args.f (Some c.index_mut.result.now.1) at.0)
    c.put.ensures.err
