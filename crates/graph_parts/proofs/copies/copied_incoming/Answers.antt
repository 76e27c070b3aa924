-- one entry more
use Rattle.std.proofs.Common.{sym, ap, ◌∙◌, map}
use Rattle.std.specs.Prelude.{Some}
use Rattle.std.specs.Map.Iter.{deref_pair}
use Rattle.std.specs.FinMap.{empty}
use Rattle.spread_maps.specs.Writes.{puts}
use Rattle.finite_maps.specs.Maps.{set, set_all}
use Rattle.spread_maps.proofs.CopyLaws.{set_all_more, map_more}
use Rattle.finite_maps.proofs.TableLaws.{table_updates}
use Rattle.model_state.proofs.Orders.{attr_order}
use Rattle.graph_parts.proofs.copies.copied_incoming.Goals as goal

pub loop-key-preserved : goal.loop-key-preserved
loop-key-preserved c =
    table_updates attr_order c.loop-key.copy c.insert.new.self (c.in_ok-copy.field-0, c.in-Some.key.now.1)
    (Some c.in-Some.rank.now) c.in_ok-insert.ensures.updates.0
    ∙ (λ i. set (c.loop-key.invariant i) ((c.in_ok-copy.ensures i, c.in-Some.key.now.1)) (Some (c.in-Some.rank.now)))
    ∙ sym (set_all_more empty (map deref_pair c.loop-key.yielded) (c.in-Some.key.now, c.in-Some.rank.now))
    ∙ ap (λ es. set_all empty (puts es)) (sym (map_more deref_pair c.loop-key.yielded (c.in-Some.key, c.in-Some.rank)))
