-- By what each command is answered.
use Rattle.reply_laws.proofs.Again.{checkouts_are_found, commits_are_found, tags_are_found}
use Rattle.reply_laws.proofs.Saying.{merges_say_heads, packages_are_spelled, updates_say_heads}
use Rattle.reply_laws.proofs.laws.law_of_answers_found_again.Goals as goal

pub returns-clause-commits : goal.returns-clause-commits
returns-clause-commits c = commits_are_found

pub returns-clause-checkouts : goal.returns-clause-checkouts
returns-clause-checkouts c = checkouts_are_found

pub returns-clause-tags : goal.returns-clause-tags
returns-clause-tags c = tags_are_found

pub returns-clause-updates : goal.returns-clause-updates
returns-clause-updates c = updates_say_heads

pub returns-clause-merges : goal.returns-clause-merges
returns-clause-merges c = merges_say_heads

pub returns-clause-packages : goal.returns-clause-packages
returns-clause-packages c = packages_are_spelled
