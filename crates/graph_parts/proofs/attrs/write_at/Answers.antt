use Rattle.std.proofs.Common.{ap, ◌∙◌}
use Rattle.std.specs.Prelude.{slice_set}
use Rattle.graph_parts.specs.Parts.{flat}
use Rattle.graph_parts.proofs.Flat.{flat_set}
use Rattle.graph_parts.proofs.attrs.write_at.Goals as goal

pub returns : goal.returns
returns c =
    ap (λ v. flat (slice_set c.args.items.now.items c.args.at (c.args.f, v))) c.from_list.ensures
    ∙ flat_set c.args.f c.args.values c.args.items.now.items c.args.at c.requires
