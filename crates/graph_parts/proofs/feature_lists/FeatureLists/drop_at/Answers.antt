use Rattle.std.proofs.Common.{ap, ◌∙◌}
use Rattle.std.specs.Prelude.{None}
use Rattle.finite_maps.specs.Maps.{set}
use Rattle.graph_parts.proofs.ListLaws.{list_dropped, filled_dropped}
use Rattle.graph_parts.proofs.feature_lists.FeatureLists.drop_at.Goals as goal

pub invariant_of-self : goal.invariant_of-self
invariant_of-self c = filled_dropped c.self.inside.items.items c.drop_in.new.items.items c.args.f c.args.e.now c.self.invariant c.drop_in.ensures

pub returns : goal.returns
returns c =
    list_dropped c.self.inside.items.items c.drop_in.new.items.items c.args.f c.args.e.now c.drop_in.ensures
    ∙ ap (λ m. set m (c.args.f, c.args.e.now) None) c.self.view_is
