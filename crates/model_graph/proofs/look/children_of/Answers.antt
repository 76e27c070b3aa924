use Rattle.std.proofs.Common.{ap, ◌∙◌}
use Rattle.std.specs.FinMap.{get-empty}
use Rattle.spread_maps.specs.Spread.{inner}
use Rattle.model_state.specs.Keys.{id_cmp}
use Rattle.graph_parts.specs.declared.element.Node.{Node}
use Rattle.model_graph.proofs.look.children_of.Goals as goal

pub returns-in-None : goal.returns-in-None
returns-in-None c = rw c.in-Inside.is (λ x. get-empty id_cmp x ∙ ap (λ o. inner (λ (n : Node). n.inside) o (c.in-Inside.feature, x)) c.in-None.ensures)
