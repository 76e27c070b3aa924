-- By what each event changes.
use Rattle.plain_repository.proofs.Effects.{inits_begin, edits_lead, checkouts_show_versions, begins_keep_models, ends_keep_models, ends_are_undone}
use Rattle.plain_repository.proofs.Effects.{discards_go_back, drops_take_away, commits_keep_states, branches_keep_models, branches_start_at_bases}
use Rattle.plain_repository.proofs.Effects.{tags_name_versions}
use Rattle.plain_repository.proofs.laws.law_of_effects.Goals as goal

pub returns-clause-checkouts : goal.returns-clause-checkouts
returns-clause-checkouts c = checkouts_show_versions

pub returns-clause-begins : goal.returns-clause-begins
returns-clause-begins c = begins_keep_models

pub returns-clause-ends : goal.returns-clause-ends
returns-clause-ends c = ends_keep_models

pub returns-clause-composites : goal.returns-clause-composites
returns-clause-composites c = ends_are_undone

pub returns-clause-discards : goal.returns-clause-discards
returns-clause-discards c = discards_go_back

pub returns-clause-drops : goal.returns-clause-drops
returns-clause-drops c = drops_take_away

pub returns-clause-commits : goal.returns-clause-commits
returns-clause-commits c = commits_keep_states

pub returns-clause-models : goal.returns-clause-models
returns-clause-models c = branches_keep_models

pub returns-clause-branches : goal.returns-clause-branches
returns-clause-branches c = branches_start_at_bases

pub returns-clause-tags : goal.returns-clause-tags
returns-clause-tags c = tags_name_versions

pub returns-clause-inits : goal.returns-clause-inits
returns-clause-inits c = inits_begin

pub returns-clause-edits : goal.returns-clause-edits
returns-clause-edits c = edits_lead
