use Rattle.edit_steps.proofs.LinkRefused.{set_ref_leads, link_leads, unlink_leads, reorder_leads}
use Rattle.edit_steps.proofs.LinkEdits.{unset_meets}
use Rattle.edit_steps.proofs.link_laws.law_of_calls.Goals as goal

pub returns-clause-set_ref : goal.returns-clause-set_ref
returns-clause-set_ref c = set_ref_leads

pub returns-clause-link : goal.returns-clause-link
returns-clause-link c = link_leads

pub returns-clause-unlink : goal.returns-clause-unlink
returns-clause-unlink c = unlink_leads

pub returns-clause-reorder : goal.returns-clause-reorder
returns-clause-reorder c = reorder_leads

pub returns-clause-unset_ref : goal.returns-clause-unset_ref
returns-clause-unset_ref c = unset_meets
