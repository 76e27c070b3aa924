-- none of the places passed is a hit
use Rattle.std.proofs.Common.{ℕ, ◌≤◌, length, drop}
use Rattle.std.specs.List.{Contains}
use Rattle.cell_index.specs.Standing.{Hit}
use Rattle.cell_index.proofs.staying.Standing.later.Given as goal

abbrev pub invariant-loop-i : goal.invariant-loop-i
invariant-loop-i l = record {
  within : l.i ≤ length l.list;
  passed : (k : ℕ) → Contains (drop l.i l.list) k → Hit l.self.stands.items l.prints l.print l.below k → ⊥;
}

abbrev pub decreases-loop-i : goal.decreases-loop-i
decreases-loop-i l = l.i
