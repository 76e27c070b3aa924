-- the lists so far
use Rattle.std.proofs.Common.{ℕ, ◌≤◌, ◌<◌, ◌-◌, take}
use Rattle.std.specs.List.{Contains}
use Rattle.footprint.specs.declared.cell.Cell.{Cell as Held}
use Rattle.cell_index.specs.Near.{row_of}
use Rattle.cell_index.specs.Standing.{Hit}
use Rattle.cell_index.proofs.staying.Standing.later_of.Given as goal

abbrev pub invariant-loop-cell : goal.invariant-loop-cell
invariant-loop-cell l = record {
  further : l.floor ≤ l.end;
  hit : l.floor < l.end → Hit l.self.stands.items l.prints l.print l.below (l.end - 1);
  clear : (h : Held) → Contains (take l.cell-index l.cells) h → (k : ℕ) → Contains (row_of l.table h) k → l.end ≤ k
      → Hit l.self.stands.items l.prints l.print l.below k → ⊥;
}
