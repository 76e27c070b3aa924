-- the positions so far
use Rattle.std.proofs.Common.{◌≡◌, ◌<◌, ℕ, length, get_or}
use Rattle.conflict_buckets.proofs.labelling.places_below.Given as goal

abbrev pub invariant-loop-place : goal.invariant-loop-place
invariant-loop-place l = record {
  size : length l.places.items ≡ l.place;
  own : (k : ℕ) → k < l.place → get_or l.places.items k 0 ≡ k;
}
