-- none of the lists so far
use Rattle.std.proofs.Common.{ℕ, take}
use Rattle.std.specs.List.{Contains}
use Rattle.footprint.specs.declared.cell.Cell.{Cell as Held}
use Rattle.cell_index.specs.Near.{row_of, IsMet}
use Rattle.cell_index.proofs.meeting.any_met_of.Given as goal

abbrev pub invariant-loop-cell : goal.invariant-loop-cell
invariant-loop-cell l = (h : Held) → Contains (take l.cell-index l.cells) h → (k : ℕ) → Contains (row_of l.table h) k → IsMet l.prints l.print k → ⊥
