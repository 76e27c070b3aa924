-- The law follows by induction on the events.
use Rattle.plain_repository.proofs.Reached.{models_are_defined, models_are_good, models_have_ids, models_are_spelled, metamodels_hold}
use Rattle.plain_repository.proofs.laws.law_of_working_models.Goals as goal

pub returns-clause-defined : goal.returns-clause-defined
returns-clause-defined c = models_are_defined

pub returns-clause-good : goal.returns-clause-good
returns-clause-good c = models_are_good

pub returns-clause-ids : goal.returns-clause-ids
returns-clause-ids c = models_have_ids

pub returns-clause-spelled : goal.returns-clause-spelled
returns-clause-spelled c = models_are_spelled

pub returns-clause-metamodel : goal.returns-clause-metamodel
returns-clause-metamodel c = metamodels_hold
