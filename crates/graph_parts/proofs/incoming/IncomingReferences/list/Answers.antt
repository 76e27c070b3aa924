use Rattle.std.proofs.Common.{◌≡◌, sym, ap, subst, ◌∙◌, map}
use Rattle.std.specs.Prelude.{IfOk}
use Rattle.std.specs.FinMap.{entries}
use Rattle.finite_maps.proofs.TableLaws.{entries-table}
use Rattle.model_state.proofs.Orders.{attr_order}
use Rattle.graph_parts.specs.Parts.{incoming_of}
use Rattle.graph_parts.proofs.incoming.IncomingReferences.list.Goals as goal

pub returns : goal.returns
returns c =
    subst (λ rows. IfOk c.listed.result (λ l. l ≡ rows))
    (ap (map incoming_of) (sym (entries-table attr_order c.self.inside.tree c.listed.ensures.ordered) ∙ ap entries c.self.view_is))
    c.listed.ensures.rows
