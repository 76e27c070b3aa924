-- the list goes with its last element
use Rattle.std.proofs.Common.{sym, ap, ◌∙◌}
use Rattle.std.specs.Prelude.{None}
use Rattle.std.specs.Option.{option_map}
use Rattle.std.specs.FinMap.{get}
use Rattle.finite_maps.specs.Maps.{set}
use Rattle.finite_maps.proofs.MapLaws.{set_twice}
use Rattle.model_state.proofs.Orders.{nat_order}
use Rattle.ranked_lists.specs.Ranks.{Ranks}
use Rattle.graph_parts.specs.Parts.{flat}
use Rattle.graph_parts.proofs.ListLaws.{emptied_kept}
use Rattle.graph_parts.proofs.feature_lists.drop_in.Goals as goal

pub returns-then-drop_of : goal.returns-then-drop_of
returns-then-drop_of c =
    let xs = c.args.items.now.items in
    let w = option_map (λ (g : Ranks). set g c.args.e.now None) (get (flat xs) c.args.f) in
    c.without.ensures
    ∙ ap (λ m. set m c.args.f None) c.drop_of.ensures.items
    ∙ set_twice nat_order (flat xs) c.args.f w None
    ∙ ap (set (flat xs) c.args.f) (sym ((emptied_kept w c.drop_of.result c.drop_of.ensures.emptied).0 c.if-drop_of.true))
