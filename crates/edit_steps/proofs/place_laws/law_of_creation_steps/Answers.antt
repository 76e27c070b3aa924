use Rattle.edit_steps.proofs.MoveRefused.{create_leads, created_stands}
use Rattle.edit_steps.proofs.place_laws.law_of_creation_steps.Goals as goal

pub returns-clause-leads : goal.returns-clause-leads
returns-clause-leads c = create_leads

pub returns-clause-stands : goal.returns-clause-stands
returns-clause-stands c = created_stands
