-- By cases on the event, and by induction on the events.
use Rattle.plain_repository.proofs.Growth.{history_only_grows}
use Rattle.plain_repository.proofs.Reached.{workspaces_stand}
use Rattle.plain_repository.proofs.States.{states_stay}
use Rattle.plain_repository.proofs.laws.law_of_growth.Goals as goal

pub returns-clause-grows : goal.returns-clause-grows
returns-clause-grows c = history_only_grows

pub returns-clause-states : goal.returns-clause-states
returns-clause-states c = states_stay

pub returns-clause-stand : goal.returns-clause-stand
returns-clause-stand c = workspaces_stand
