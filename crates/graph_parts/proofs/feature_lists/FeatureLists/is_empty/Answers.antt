use Rattle.std.proofs.Common.{ap, ◌∙◌, nat_eq}
use Rattle.spread_maps.specs.Spread.{is_bare}
use Rattle.graph_parts.proofs.ListLaws.{lists_bare}
use Rattle.graph_parts.proofs.feature_lists.FeatureLists.is_empty.Goals as goal

pub returns : goal.returns
returns c = ap (λ n. nat_eq n 0) (c.len.ensures ∙ c.self.inside.items.ok.0) ∙ lists_bare c.self.inside.items.items c.self.invariant ∙ ap is_bare c.self.view_is
