-- the elements so far, and no others
use Rattle.std.proofs.Common.{◌≡◌, take, cond}
use Rattle.std.specs.Prelude.{None}
use Rattle.std.specs.List.{list_any}
use Rattle.std.specs.Ordering.{eq_by_cmp}
use Rattle.std.specs.FinMap.{get}
use Rattle.model_state.specs.Keys.{IdBytes, id_cmp}
use Rattle.model_graph.proofs.graph.copied_nodes.Given as goal

abbrev pub invariant-loop-id : goal.invariant-loop-id
invariant-loop-id l = (q : IdBytes) → get l.copy q ≡ cond (list_any (eq_by_cmp id_cmp q) (take l.id-index l.ids)) (get l.nodes q) None
