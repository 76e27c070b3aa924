use Rattle.std.proofs.Common.{sym, ap, ◌∙◌}
use Rattle.std.specs.Prelude.{Some, None}
use Rattle.std.specs.Option.{option_map}
use Rattle.finite_maps.specs.Maps.{set}
use Rattle.spread_maps.specs.Spread.{is_bare}
use Rattle.ranked_lists.specs.Ranks.{Ranks}
use Rattle.graph_parts.specs.Parts.{flat, is_emptied}
use Rattle.graph_parts.proofs.Flat.{written_at}
use Rattle.graph_parts.proofs.feature_lists.drop_listed.Goals as goal

pub returns-clause-items : goal.returns-clause-items
returns-clause-items c =
    let xs = c.args.items.now.items in
    let at = written_at c.args.f xs c.args.at c.index_mut.result.now c.index_mut.ensures.value c.requires in
    at.1 c.drop_at.new.self
    ∙ ap (λ g. set (flat xs) c.args.f (Some g)) c.drop_at.ensures
    ∙ ap (λ o. set (flat xs) c.args.f (option_map (λ (g : Ranks). set g c.args.e.now None) o)) (sym at.0)

pub returns-clause-emptied : goal.returns-clause-emptied
returns-clause-emptied c =
    let xs = c.args.items.now.items in
    let at = written_at c.args.f xs c.args.at c.index_mut.result.now c.index_mut.ensures.value c.requires in
    c.is_empty.ensures ∙ ap is_bare c.drop_at.ensures
    ∙ ap (λ o. is_emptied (option_map (λ (g : Ranks). set g c.args.e.now None) o)) (sym at.0)
