use Rattle.import_laws.proofs.NewNames.{names_new}
use Rattle.import_laws.proofs.laws.law_of_new_names.Goals as goal

pub returns : goal.returns
returns c = names_new
