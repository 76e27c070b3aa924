-- By induction on what is listed.
use Rattle.reply_laws.proofs.Lists.{changes_grow, conflicts_are_counted, logs_list_versions, validate_is_exact}
use Rattle.reply_laws.proofs.laws.law_of_lists.Goals as goal

pub returns-clause-log : goal.returns-clause-log
returns-clause-log c = logs_list_versions

pub returns-clause-changes : goal.returns-clause-changes
returns-clause-changes c = changes_grow

pub returns-clause-validate : goal.returns-clause-validate
returns-clause-validate c = validate_is_exact

pub returns-clause-conflicts : goal.returns-clause-conflicts
returns-clause-conflicts c = conflicts_are_counted
