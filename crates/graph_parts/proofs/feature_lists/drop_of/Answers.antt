use Rattle.std.proofs.Common.{ℕ, nat_eq, sym, ap, ◌∙◌}
use Rattle.std.specs.Prelude.{None, position}
use Rattle.std.specs.Option.{option_map}
use Rattle.finite_maps.specs.Maps.{set}
use Rattle.finite_maps.proofs.MapLaws.{set_here}
use Rattle.model_state.proofs.Orders.{nat_order}
use Rattle.ranked_lists.specs.Ranks.{Ranks}
use Rattle.graph_parts.specs.Parts.{flat, is_emptied}
use Rattle.graph_parts.proofs.Flat.{get_none}
use Rattle.graph_parts.proofs.feature_lists.drop_of.Goals as goal

pub drop_listed-requires : goal.drop_listed-requires
drop_listed-requires c =
    ap (position (λ (x : ℕ × Ranks). nat_eq x.0 c.args.f)) (sym c.as_slice.ensures.value) ∙ sym c.index_of.ensures ∙ c.in-Some.is

pub returns-in-None-clause-items : goal.returns-in-None-clause-items
returns-in-None-clause-items c =
    let xs = c.args.items.now.items in
    let none = get_none c.args.f xs
    (ap (position (λ (x : ℕ × Ranks). nat_eq x.0 c.args.f)) (sym c.as_slice.ensures.value) ∙ sym c.index_of.ensures ∙ c.in-None.is) in
    sym (set_here nat_order (flat xs) c.args.f _ (none ∙ ap (option_map (λ (g : Ranks). set g c.args.e.now None)) (sym none)))

pub returns-in-None-clause-emptied : goal.returns-in-None-clause-emptied
returns-in-None-clause-emptied c =
    let xs = c.args.items.now.items in
    let none = get_none c.args.f xs
    (ap (position (λ (x : ℕ × Ranks). nat_eq x.0 c.args.f)) (sym c.as_slice.ensures.value) ∙ sym c.index_of.ensures ∙ c.in-None.is) in
    ap (λ o. is_emptied (option_map (λ (g : Ranks). set g c.args.e.now None) o)) (sym none)
