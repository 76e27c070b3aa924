-- all before the position are reached, and what they reach
use Rattle.std.proofs.Common.{[], length}
use Rattle.cell_index.specs.Draining.{ListsUnflagged}
use Rattle.conflict_buckets.specs.Spread.{AreSpread}
use Rattle.conflict_buckets.proofs.labelling.labels_of.Given as goal

abbrev pub invariant-loop-start : goal.invariant-loop-start
invariant-loop-start l = record {
  spread : AreSpread l.prints l.start (length l.found.order.items) l.found.labels.items l.found.reached.items l.found.order.items;
  index : ListsUnflagged l.index l.prints l.found.reached.items [];
}
