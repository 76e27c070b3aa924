use Rattle.import_laws.proofs.ImportLead.{imports_lead}
use Rattle.import_laws.proofs.laws.law_of_imports.Goals as goal

pub returns : goal.returns
returns c = imports_lead
