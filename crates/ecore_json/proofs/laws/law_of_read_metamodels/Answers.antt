use Rattle.ecore_json.proofs.ReadHolds.{read_holds, supertypes_read}
use Rattle.ecore_json.proofs.laws.law_of_read_metamodels.Goals as goal

pub returns-clause-hold : goal.returns-clause-hold
returns-clause-hold c = read_holds

pub returns-clause-supertypes : goal.returns-clause-supertypes
returns-clause-supertypes c = supertypes_read
