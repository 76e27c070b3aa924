use Rattle.std.proofs.Common.{◌++◌, ◌∷◌, [], ap, ◌∙◌}
use Rattle.graph_parts.specs.Parts.{flat}
use Rattle.graph_parts.proofs.Flat.{flat_put}
use Rattle.graph_parts.proofs.by_feature.add.Goals as goal

pub returns-clause-ok : goal.returns-clause-ok
returns-clause-ok g c =
    ap flat (c.push_reserved.ensures.items ∙ ap (λ es. es ++ (c.args.f, c.args.x) ∷ []) c.reserve_exact.ensures.items)
    ∙ flat_put c.args.f c.args.x c.args.items.now.items c.requires
