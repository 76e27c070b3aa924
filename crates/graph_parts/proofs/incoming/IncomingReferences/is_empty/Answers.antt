use Rattle.std.proofs.Common.{sym, ap, ◌∙◌, nat_eq, length}
use Rattle.spread_maps.specs.Spread.{is_bare}
use Rattle.finite_maps.proofs.TableLaws.{entries-table}
use Rattle.model_state.proofs.Orders.{attr_order}
use Rattle.graph_parts.proofs.incoming.IncomingReferences.is_empty.Goals as goal

pub returns : goal.returns
returns c =
    ap (λ n. nat_eq n 0) (c.len.ensures.len ∙ ap length (sym (entries-table attr_order c.self.inside.tree c.len.ensures.ordered)))
    ∙ ap is_bare c.self.view_is
