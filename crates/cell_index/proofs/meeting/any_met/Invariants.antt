-- none of the places so far
use Rattle.std.proofs.Common.{ℕ, take}
use Rattle.std.specs.List.{Contains}
use Rattle.cell_index.specs.Near.{IsMet}
use Rattle.cell_index.proofs.meeting.any_met.Given as goal

abbrev pub invariant-loop-place : goal.invariant-loop-place
invariant-loop-place l = (k : ℕ) → Contains (take l.place-index l.places) k → IsMet l.prints l.print k → ⊥
