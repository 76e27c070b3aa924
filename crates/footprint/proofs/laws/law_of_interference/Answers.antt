-- Interference by the cells of the two.
use Rattle.footprint.proofs.Pairs.{interference_is_symmetric, interference_is_of_cells, interference_is_exact, interference_has_a_cell}
use Rattle.footprint.proofs.laws.law_of_interference.Goals as goal

pub returns-clause-symmetric : goal.returns-clause-symmetric
returns-clause-symmetric c = interference_is_symmetric

pub returns-clause-cells : goal.returns-clause-cells
returns-clause-cells c = interference_is_of_cells

pub returns-clause-exact : goal.returns-clause-exact
returns-clause-exact c = interference_is_exact

pub returns-clause-cell : goal.returns-clause-cell
returns-clause-cell c = interference_has_a_cell
