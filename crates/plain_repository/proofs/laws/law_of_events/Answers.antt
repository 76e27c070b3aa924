-- A line that is refused makes no event, and each event that could be made changes something.
use Rattle.plain_repository.proofs.Changing.{events_change}
use Rattle.plain_repository.proofs.Refusals.{refusals_make_none}
use Rattle.plain_repository.proofs.laws.law_of_events.Goals as goal

pub returns-clause-none : goal.returns-clause-none
returns-clause-none c = refusals_make_none

pub returns-clause-change : goal.returns-clause-change
returns-clause-change c = events_change
