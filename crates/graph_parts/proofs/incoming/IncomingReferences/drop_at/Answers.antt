use Rattle.std.proofs.Common.{ap, ◌∙◌, None}
use Rattle.finite_maps.specs.Maps.{set}
use Rattle.finite_maps.proofs.TableLaws.{table_updates}
use Rattle.model_state.proofs.Orders.{attr_order}
use Rattle.graph_parts.proofs.incoming.IncomingReferences.drop_at.Goals as goal

pub returns : goal.returns
returns c =
    table_updates attr_order c.self.inside.tree c.remove.new.self c.args.key.now None c.remove.ensures.updates.0
    ∙ ap (λ m. set m c.args.key.now None) c.self.view_is
