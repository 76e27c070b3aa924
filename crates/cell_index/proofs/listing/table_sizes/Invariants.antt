-- both sizes are above nothing
use Rattle.std.proofs.Common.{◌<◌}
use Rattle.cell_index.proofs.listing.table_sizes.Given as goal

abbrev pub invariant-loop-print : goal.invariant-loop-print
invariant-loop-print l = record {
  writers : 0 < l.writes;
  readers : 0 < l.reads;
}
