use Rattle.plain_repository.proofs.DataLines.{last_lines_look}
use Rattle.plain_repository.proofs.Refusals.{data_lines_are_apart}
use Rattle.plain_repository.proofs.laws.law_of_replies.Goals as goal

pub returns-clause-last : goal.returns-clause-last
returns-clause-last c = last_lines_look

pub returns-clause-lines : goal.returns-clause-lines
returns-clause-lines c = data_lines_are_apart
