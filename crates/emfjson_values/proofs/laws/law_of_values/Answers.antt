use Rattle.emfjson_values.proofs.Again.{written_read}
use Rattle.emfjson_values.proofs.Fits.{read_fits}
use Rattle.emfjson_values.proofs.laws.law_of_values.Goals as goal

pub returns : goal.returns
returns c = record { fit = read_fits; again = written_read }
