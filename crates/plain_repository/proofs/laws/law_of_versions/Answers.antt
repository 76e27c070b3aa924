-- The law follows by induction on the events.
use Rattle.plain_repository.proofs.Reached.{versions_are_defined, versions_are_good, versions_have_ids, versions_are_spelled, histories_are_whole}
use Rattle.plain_repository.proofs.laws.law_of_versions.Goals as goal

pub returns-clause-defined : goal.returns-clause-defined
returns-clause-defined c = versions_are_defined

pub returns-clause-good : goal.returns-clause-good
returns-clause-good c = versions_are_good

pub returns-clause-ids : goal.returns-clause-ids
returns-clause-ids c = versions_have_ids

pub returns-clause-spelled : goal.returns-clause-spelled
returns-clause-spelled c = versions_are_spelled

pub returns-clause-whole : goal.returns-clause-whole
returns-clause-whole c = histories_are_whole
