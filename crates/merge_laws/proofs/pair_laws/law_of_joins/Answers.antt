-- By the kinds of step.
use Rattle.merge_laws.proofs.StepEqual.{step_test_is_exact}
use Rattle.merge_laws.proofs.Joins.{join_does_both}
use Rattle.merge_laws.proofs.pair_laws.law_of_joins.Goals as goal

pub returns-clause-exact : goal.returns-clause-exact
returns-clause-exact c = step_test_is_exact

pub returns-clause-both : goal.returns-clause-both
returns-clause-both c = join_does_both
