-- the places so far are sorted
use Rattle.std.proofs.Common.{take}
use Rattle.cell_index.specs.Draining.{AreSorted}
use Rattle.cell_index.proofs.draining.sort_places.Given as goal

abbrev pub invariant-loop-place : goal.invariant-loop-place
invariant-loop-place l = AreSorted l.prints l.print l.flags (take l.place-index l.places) l.fn.met.items l.met.items l.fn.rest.items l.rest.items
