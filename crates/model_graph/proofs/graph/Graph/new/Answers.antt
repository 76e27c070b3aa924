-- the empty state is good
use Rattle.std.proofs.Common.{sym, ap, subst, ◌∙◌}
use Rattle.model_laws.proofs.Start.{starts_good}
use Rattle.model_state.specs.Good.{Good}
use Rattle.model_graph.specs.Seen.{nodes_state}
use Rattle.model_graph.proofs.Changed.{state_empty}
use Rattle.model_graph.proofs.Linked.{start_good}
use Rattle.model_graph.proofs.graph.Graph.new.Goals as goal

pub invariant_of-result : goal.invariant_of-result
invariant_of-result c = start_good c.new.result c.new-2.result c.new.ensures c.new-2.ensures

pub returns-clause-empty : goal.returns-clause-empty
returns-clause-empty c = ap nodes_state c.new-2.ensures ∙ state_empty

pub returns-clause-good : goal.returns-clause-good
returns-clause-good c = λ meta. subst (λ m. Good meta m) (sym (ap nodes_state c.new-2.ensures ∙ state_empty)) (starts_good meta)
