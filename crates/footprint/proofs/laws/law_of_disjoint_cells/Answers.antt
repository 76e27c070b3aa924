-- What the one needs, the other does not touch.
use Rattle.footprint.proofs.Alike.{others_leave_same}
use Rattle.footprint.proofs.laws.law_of_disjoint_cells.Goals as goal

pub returns : goal.returns
returns c = others_leave_same
