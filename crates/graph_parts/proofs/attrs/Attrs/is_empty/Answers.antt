use Rattle.std.proofs.Common.{ap, ◌∙◌, nat_eq}
use Rattle.spread_maps.specs.Spread.{is_bare}
use Rattle.graph_parts.proofs.Flat.{flat_bare}
use Rattle.graph_parts.proofs.attrs.Attrs.is_empty.Goals as goal

pub returns : goal.returns
returns c = ap (λ n. nat_eq n 0) (c.len.ensures ∙ c.self.inside.items.ok.0) ∙ flat_bare c.self.inside.items.items ∙ ap is_bare c.self.view_is
