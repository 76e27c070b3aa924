-- By cases on the refusals of a commit, in their order.
use Rattle.plain_repository.proofs.Commits.{commits_are_stale, unsigned_are_refused, old_forms_are_refused, commits_keep_models}
use Rattle.plain_repository.proofs.laws.law_of_commits.Goals as goal

pub returns-clause-stale : goal.returns-clause-stale
returns-clause-stale c = commits_are_stale

pub returns-clause-unsigned : goal.returns-clause-unsigned
returns-clause-unsigned c = unsigned_are_refused

pub returns-clause-old_forms : goal.returns-clause-old_forms
returns-clause-old_forms c = old_forms_are_refused

pub returns-clause-models : goal.returns-clause-models
returns-clause-models c = commits_keep_models
