use Rattle.edit_steps.proofs.MoveRefused.{move_leads, moved_stands_there}
use Rattle.edit_steps.proofs.place_laws.law_of_move_steps.Goals as goal

pub returns-clause-leads : goal.returns-clause-leads
returns-clause-leads c = move_leads

pub returns-clause-stands : goal.returns-clause-stands
returns-clause-stands c = moved_stands_there
