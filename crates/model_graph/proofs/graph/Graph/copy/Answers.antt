use Rattle.std.proofs.Common.{sym, ap, subst, ◌∙◌}
use Rattle.ranked_lists.specs.Ranks.{Ranks}
use Rattle.model_graph.specs.Seen.{Elements, nodes_state}
use Rattle.model_graph.proofs.Stored.{AreKept}
use Rattle.model_graph.proofs.graph.Graph.copy.Goals as goal

pub invariant_of-result : goal.invariant_of-result
invariant_of-result c =
    subst (λ (t : Elements). AreKept c.in_ok-copy.field-0 t) (sym c.in_ok-copied_nodes.ensures)
    (subst (λ (r : Ranks). AreKept r c.self.inside.nodes) (sym c.in_ok-copy.ensures) c.self.invariant)

pub returns : goal.returns
returns c = ap nodes_state c.in_ok-copied_nodes.ensures ∙ c.self.view_is
