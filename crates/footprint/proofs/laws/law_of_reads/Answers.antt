-- A step goes by what it needs, which its operation writes or reads.
use Rattle.footprint.proofs.Alike.{step_goes_by_cells}
use Rattle.footprint.proofs.laws.law_of_reads.Goals as goal

pub returns : goal.returns
returns c = step_goes_by_cells
