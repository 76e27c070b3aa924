use Rattle.edit_steps.proofs.DeleteLaws.{delete_leads}
use Rattle.edit_steps.proofs.Keeps.{delete_keeps}
use Rattle.edit_steps.proofs.place_laws.law_of_deletion_steps.Goals as goal

pub returns-clause-leads : goal.returns-clause-leads
returns-clause-leads c = delete_leads

pub returns-clause-keeps : goal.returns-clause-keeps
returns-clause-keeps c = delete_keeps
