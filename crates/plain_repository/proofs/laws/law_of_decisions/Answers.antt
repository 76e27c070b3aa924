-- By cases on the command.
use Rattle.plain_repository.proofs.Asked.{events_are_asked}
use Rattle.plain_repository.proofs.Decided.{decided_could_be}
use Rattle.plain_repository.proofs.laws.law_of_decisions.Goals as goal

pub returns-clause-could : goal.returns-clause-could
returns-clause-could c = decided_could_be

pub returns-clause-asked : goal.returns-clause-asked
returns-clause-asked c = events_are_asked
