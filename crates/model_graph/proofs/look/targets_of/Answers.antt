use Rattle.std.proofs.Common.{ap, ◌∙◌}
use Rattle.std.specs.FinMap.{get-empty}
use Rattle.spread_maps.specs.Spread.{inner}
use Rattle.model_state.specs.Keys.{id_cmp}
use Rattle.graph_parts.specs.declared.element.Node.{Node}
use Rattle.model_graph.proofs.look.targets_of.Goals as goal

pub returns-in-None : goal.returns-in-None
returns-in-None c = λ b. get-empty id_cmp b ∙ ap (λ o. inner (λ (n : Node). n.out) o (c.args.f, b)) c.in-None.ensures
