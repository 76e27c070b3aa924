use Rattle.std.proofs.Common.{ap, ◌∙◌, Some}
use Rattle.finite_maps.specs.Maps.{set}
use Rattle.finite_maps.proofs.TableLaws.{table_updates}
use Rattle.model_state.proofs.Orders.{attr_order}
use Rattle.graph_parts.proofs.incoming.IncomingReferences.put.Goals as goal

pub returns-clause-ok : goal.returns-clause-ok
returns-clause-ok c =
    table_updates attr_order c.self.inside.tree c.insert.new.self c.args.key (Some c.args.rank) c.in_ok-insert.ensures.updates.0
    ∙ ap (λ m. set m c.args.key (Some c.args.rank)) c.self.view_is
