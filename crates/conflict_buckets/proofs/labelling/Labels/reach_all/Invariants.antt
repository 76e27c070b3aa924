-- those so far are reached
use Rattle.std.proofs.Common.{◌≡◌, ℕ, true, false, take, get_or}
use Rattle.std.specs.List.{Contains}
use Rattle.conflict_buckets.specs.Spread.{AreSpread, Further}
use Rattle.conflict_buckets.proofs.labelling.Labels.reach_all.Given as goal

abbrev pub invariant-loop-place : goal.invariant-loop-place
invariant-loop-place l = record {
  spread : AreSpread l.prints l.label l._at l.self.labels.items l.self.reached.items l.self.order.items;
  all : (k : ℕ) → Contains (take l.place-index l.near) k → get_or l.self.reached.items k false ≡ true;
  further : Further l.fn.self.reached.items l.self.reached.items l.fn.self.order.items l.self.order.items;
}
