-- the positions so far
use Rattle.std.proofs.Common.{◌≡◌, ◌<◌, ℕ, length, take}
use Rattle.footprint.specs.Buckets.{places}
use Rattle.cell_index.specs.Near.{list_at}
use Rattle.conflict_buckets.proofs.grouping.places_by_label.Given as goal

abbrev pub invariant-loop-place : goal.invariant-loop-place
invariant-loop-place l = record {
  size : length l.table.items ≡ l.size;
  places : (k : ℕ) → k < l.size → list_at l.table.items k ≡ places k (take l.place l.labels);
}
