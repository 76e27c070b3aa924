-- By cases on the event.
use Rattle.plain_repository.proofs.Apart.{events_are_of_one, some_are_of_none, workspaces_stay_apart, models_stay_apart}
use Rattle.plain_repository.proofs.Numbers.{numbers_only_grow, dropped_stay_dropped}
use Rattle.plain_repository.proofs.Shown.{shown_by_own, shown_apart}
use Rattle.plain_repository.proofs.laws.law_of_workspaces_apart.Goals as goal

pub returns-clause-own : goal.returns-clause-own
returns-clause-own c = events_are_of_one

pub returns-clause-others : goal.returns-clause-others
returns-clause-others c = some_are_of_none

pub returns-clause-workspaces : goal.returns-clause-workspaces
returns-clause-workspaces c = workspaces_stay_apart

pub returns-clause-models : goal.returns-clause-models
returns-clause-models c = models_stay_apart

pub returns-clause-shown : goal.returns-clause-shown
returns-clause-shown c = shown_by_own

pub returns-clause-replies : goal.returns-clause-replies
returns-clause-replies c = shown_apart

pub returns-clause-numbers : goal.returns-clause-numbers
returns-clause-numbers c = numbers_only_grow

pub returns-clause-dropped : goal.returns-clause-dropped
returns-clause-dropped c = dropped_stay_dropped
