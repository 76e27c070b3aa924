-- By the cells that what is kept and what is dropped writes, on the states that the operations of versions and workspaces lead to.
use Rattle.plain_repository.proofs.Merging.{updates_are_three_way, merges_are_three_way, updates_lose_nothing, merges_lose_nothing}
use Rattle.plain_repository.proofs.Unasked.{unasked_updates_lose_nothing, unasked_merges_lose_nothing}
use Rattle.plain_repository.proofs.laws.law_of_three_way.Goals as goal

pub returns-clause-updates : goal.returns-clause-updates
returns-clause-updates c = updates_are_three_way

pub returns-clause-merges : goal.returns-clause-merges
returns-clause-merges c = merges_are_three_way

pub returns-clause-updates_lose_nothing : goal.returns-clause-updates_lose_nothing
returns-clause-updates_lose_nothing c = updates_lose_nothing

pub returns-clause-merges_lose_nothing : goal.returns-clause-merges_lose_nothing
returns-clause-merges_lose_nothing c = merges_lose_nothing

pub returns-clause-updates_unasked : goal.returns-clause-updates_unasked
returns-clause-updates_unasked c = unasked_updates_lose_nothing

pub returns-clause-merges_unasked : goal.returns-clause-merges_unasked
returns-clause-merges_unasked c = unasked_merges_lose_nothing
