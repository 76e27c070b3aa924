use Rattle.std.proofs.Common.{◌∙◌}
use Rattle.spread_maps.proofs.CopyLaws.{all_put}
use Rattle.model_state.proofs.Orders.{attr_order}
use Rattle.graph_parts.proofs.incoming.IncomingReferences.copy.Goals as goal

pub returns : goal.returns
returns c = c.in_ok-copied_incoming.ensures.copy ∙ all_put attr_order c.self.inside.tree c.in_ok-copied_incoming.ensures.ordered ∙ c.self.view_is
