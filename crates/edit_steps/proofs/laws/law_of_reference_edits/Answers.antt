use Rattle.edit_steps.proofs.Sets.{set_ref_meets}
use Rattle.edit_steps.proofs.LinkEdits.{link_meets, unlink_meets, unset_meets, reorder_meets}
use Rattle.edit_steps.proofs.Idle.{set_ref_idle}
use Rattle.edit_steps.proofs.laws.law_of_reference_edits.Goals as goal

pub returns-clause-set_ref : goal.returns-clause-set_ref
returns-clause-set_ref c = set_ref_meets

pub returns-clause-link : goal.returns-clause-link
returns-clause-link c = link_meets

pub returns-clause-unlink : goal.returns-clause-unlink
returns-clause-unlink c = unlink_meets

pub returns-clause-unset : goal.returns-clause-unset
returns-clause-unset c = unset_meets

pub returns-clause-reorder : goal.returns-clause-reorder
returns-clause-reorder c = reorder_meets

pub returns-clause-idle : goal.returns-clause-idle
returns-clause-idle c = set_ref_idle
