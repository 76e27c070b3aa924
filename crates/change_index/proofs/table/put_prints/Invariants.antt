-- the prints so far are put
use Rattle.std.proofs.Common.{take}
use Rattle.footprint.specs.Prints.{shown}
use Rattle.change_index.specs.Written.{wrote_by}
use Rattle.change_index.specs.Table.{Puts}
use Rattle.change_index.proofs.table.put_prints.Given as goal

abbrev pub invariant-loop-print : goal.invariant-loop-print
invariant-loop-print l = Puts l.fn.table l.table l.version (λ e f. wrote_by (shown (take l.print-index l.prints)) e f)
