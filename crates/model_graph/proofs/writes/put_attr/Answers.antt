-- the node is changed, or as it was
use Rattle.std.proofs.Common.{ap, ◌∙◌}
use Rattle.std.specs.Prelude.{Some}
use Rattle.std.proofs.lemmas.Result.{on_ok_weaker, on_err_weaker}
use Rattle.finite_maps.specs.Maps.{set}
use Rattle.graph_parts.specs.declared.element.Node.{Node}
use Rattle.model_graph.proofs.Changed.{put_back}
use Rattle.model_graph.proofs.writes.put_attr.Goals as goal

pub returns-clause-ok : goal.returns-clause-ok
returns-clause-ok c =
    let n : Node = c.find_mut.result.now in
    on_ok_weaker c.put.result
    (λ is. (n, c.find_mut.ensures.value, ap (λ x. set c.args.nodes.now c.args.e.now (Some (record n { attrs = x }))) is)) c.put.ensures.ok

pub returns-clause-err : goal.returns-clause-err
returns-clause-err c =
    let n : Node = c.find_mut.result.now in
    on_err_weaker c.put.result
    (λ is. ap (λ x. set c.args.nodes.now c.args.e.now (Some (record n { attrs = x }))) is
    ∙ put_back c.args.nodes.now c.args.e.now n c.find_mut.ensures.value) c.put.ensures.err
