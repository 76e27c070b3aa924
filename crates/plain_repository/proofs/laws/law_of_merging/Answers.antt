-- By the laws of packages, on the states that the operations of versions and workspaces lead to.
use Rattle.plain_repository.proofs.Merging.{tidying_keeps_models, updates_merge, merges_merge, merges_count}
use Rattle.plain_repository.proofs.Reverting.{reverts_take_out}
use Rattle.plain_repository.proofs.laws.law_of_merging.Goals as goal

pub returns-clause-tidying : goal.returns-clause-tidying
returns-clause-tidying c = tidying_keeps_models

pub returns-clause-updates : goal.returns-clause-updates
returns-clause-updates c = updates_merge

pub returns-clause-merges : goal.returns-clause-merges
returns-clause-merges c = merges_merge

pub returns-clause-counted : goal.returns-clause-counted
returns-clause-counted c = merges_count

pub returns-clause-reverts : goal.returns-clause-reverts
returns-clause-reverts c = reverts_take_out
