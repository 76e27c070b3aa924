use Rattle.std.proofs.Common.{ap, ◌∙◌}
use Rattle.std.specs.Prelude.{Some}
use Rattle.std.proofs.lemmas.Result.{on_ok_weaker}
use Rattle.finite_maps.specs.Maps.{set}
use Rattle.graph_parts.specs.Parts.{flat}
use Rattle.graph_parts.proofs.feature_lists.put_first.Goals as goal

pub returns-clause-ok : goal.returns-clause-ok
returns-clause-ok c =
    on_ok_weaker c.add.result (λ is.
    is ∙ ap (λ g. set (flat c.args.items.now.items) c.args.f (Some g))
    (c.in_ok-put.ensures.ok ∙ ap (λ m. set m c.args.e (Some c.args.rank)) c.new-group.ensures)) c.add.ensures.ok
