use Rattle.std.proofs.Common.{ap, ◌∙◌}
use Rattle.std.specs.Prelude.{None}
use Rattle.finite_maps.specs.Maps.{set}
use Rattle.graph_parts.proofs.attrs.Attrs.drop_at.Goals as goal

pub returns : goal.returns
returns c = c.without.ensures ∙ ap (λ m. set m c.args.f None) c.self.view_is
