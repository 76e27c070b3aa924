-- as many lists as turns, each empty
use Rattle.std.proofs.Common.{◌≡◌, ℕ, [], length}
use Rattle.cell_index.specs.Near.{list_at}
use Rattle.cell_index.proofs.listing.lists_of.Given as goal

abbrev pub invariant-loop : goal.invariant-loop
invariant-loop l = record {
  size : length l.table.items ≡ l.counter;
  empty : (s : ℕ) → list_at l.table.items s ≡ [];
}
