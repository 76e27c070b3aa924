-- The laws hold by induction on the steps.
use Rattle.model_laws.proofs.Runs.{reversal_undoes, steps_keep_good}
use Rattle.model_laws.proofs.Start.{starts_good}
use Rattle.model_laws.proofs.laws.law_of_reversal.Goals as goal

pub returns-clause-undoes : goal.returns-clause-undoes
returns-clause-undoes c = reversal_undoes

pub returns-clause-keeps : goal.returns-clause-keeps
returns-clause-keeps c = steps_keep_good

pub returns-clause-starts : goal.returns-clause-starts
returns-clause-starts c = starts_good
