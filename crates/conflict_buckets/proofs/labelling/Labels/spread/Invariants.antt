-- the operation is reached, and what it reaches
use Rattle.std.proofs.Common.{◌≡◌, ◌-◌, [], length, true, false, get_or}
use Rattle.cell_index.specs.Draining.{ListsUnflagged}
use Rattle.conflict_buckets.specs.Spread.{AreSpread}
use Rattle.conflict_buckets.proofs.labelling.Labels.spread.Given as goal

abbrev pub invariant-loop-at : goal.invariant-loop-at
invariant-loop-at l = record {
  spread : AreSpread l.prints l.start l.at l.self.labels.items l.self.reached.items l.self.order.items;
  index : ListsUnflagged l.index l.prints l.self.reached.items [];
  here : get_or l.self.reached.items l.start false ≡ true;
}

abbrev pub decreases-loop-at : goal.decreases-loop-at
decreases-loop-at l = length l.prints - l.at
