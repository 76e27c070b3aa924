use Rattle.round_trip.proofs.Imported.{imports_bring_in}
use Rattle.round_trip.proofs.laws.law_of_imported_elements.Goals as goal

pub returns : goal.returns
returns c = imports_bring_in
