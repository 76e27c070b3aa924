use Rattle.std.proofs.Common.{sym, ap, ◌∙◌}
use Rattle.std.specs.FinMap.{get}
use Rattle.finite_maps.proofs.TableLaws.{get-table}
use Rattle.model_state.proofs.Orders.{attr_order}
use Rattle.graph_parts.proofs.incoming.IncomingReferences.rank.Goals as goal

pub returns : goal.returns
returns c = c.copied.ensures ∙ c.get.ensures.value ∙ sym (get-table attr_order c.self.inside.tree c.args.key.now)
    ∙ ap (λ m. get m c.args.key.now) c.self.view_is
