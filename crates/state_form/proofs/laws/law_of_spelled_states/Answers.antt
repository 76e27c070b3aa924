-- By cases on the step, and by induction on steps.
use Rattle.state_form.proofs.Bytes.{steps_take_bytes}
use Rattle.state_form.proofs.Keeps.{nothing_is_spelled}
use Rattle.state_form.proofs.Packages.{packages_keep_spelled, steps_keep_spelled, whole_is_spelled, whole_leads, whole_steps_are_spelled}
use Rattle.state_form.proofs.laws.law_of_spelled_states.Goals as goal

pub returns-clause-start : goal.returns-clause-start
returns-clause-start c = nothing_is_spelled

pub returns-clause-steps : goal.returns-clause-steps
returns-clause-steps c = steps_keep_spelled

pub returns-clause-packages : goal.returns-clause-packages
returns-clause-packages c = packages_keep_spelled

pub returns-clause-whole_steps : goal.returns-clause-whole_steps
returns-clause-whole_steps c = whole_steps_are_spelled

pub returns-clause-whole : goal.returns-clause-whole
returns-clause-whole c = whole_is_spelled

pub returns-clause-leads : goal.returns-clause-leads
returns-clause-leads c = whole_leads

pub returns-clause-bytes : goal.returns-clause-bytes
returns-clause-bytes c = steps_take_bytes
