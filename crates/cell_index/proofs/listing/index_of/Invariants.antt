-- the places below k stand in the lists
use Rattle.std.proofs.Common.{◌≡◌, ℕ, ◌<◌, length, get_or}
use Rattle.footprint.specs.declared.cell.Print.{Print}
use Rattle.cell_index.specs.Near.{Listed}
use Rattle.cell_index.proofs.listing.index_of.Given as goal

abbrev pub invariant-loop-k : goal.invariant-loop-k
invariant-loop-k l = record {
  some_writers : 0 < length l.writers.items;
  some_readers : 0 < length l.readers.items;
  writers : (k : ℕ) (p : Print) → k < l.k → p ≡ get_or l.prints k p → Listed l.writers.items p.writes k;
  readers : (k : ℕ) (p : Print) → k < l.k → p ≡ get_or l.prints k p → Listed l.readers.items p.reads k;
}
