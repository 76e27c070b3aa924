-- the node is changed
use Rattle.std.proofs.Common.{ap}
use Rattle.std.specs.Prelude.{Some}
use Rattle.finite_maps.specs.Maps.{set}
use Rattle.graph_parts.specs.declared.element.Node.{Node}
use Rattle.model_graph.proofs.writes.drop_into.Goals as goal

pub returns : goal.returns
returns c =
    let n : Node = c.find_mut.result.now in
    (n, c.find_mut.ensures.value, ap (λ x. set c.args.nodes.now c.args.e.now (Some (record n { into = x }))) c.drop_at.ensures)
