use Rattle.std.proofs.Common.{not, nat_eq, ap, ◌∙◌, rules, tests}
use Rattle.std.proofs.lemmas.Fn.{filter_same}
use Rattle.graph_parts.specs.Parts.{flat}
use Rattle.graph_parts.proofs.Flat.{flat_drop}
use Rattle.graph_parts.proofs.by_feature.without.Goals as goal

pub returns : goal.returns
returns g c =
    ap flat (filter_same _ (λ e. not (nat_eq e.0 c.args.f)) _ (λ x b q k. search (rules, tests)) _ _ c.retain.ensures.filtered)
    ∙ flat_drop c.args.f c.args.items.now.items
