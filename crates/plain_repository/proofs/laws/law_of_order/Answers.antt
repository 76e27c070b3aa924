-- By cases on the event, and by induction on the events.
use Rattle.plain_repository.proofs.Kept.{empty_kept}
use Rattle.plain_repository.proofs.Reached.{stays_in_order, all_is_in_order}
use Rattle.plain_repository.proofs.laws.law_of_order.Goals as goal

pub returns-clause-start : goal.returns-clause-start
returns-clause-start c = empty_kept

pub returns-clause-stays : goal.returns-clause-stays
returns-clause-stays c = stays_in_order

pub returns-clause-all : goal.returns-clause-all
returns-clause-all c = all_is_in_order
