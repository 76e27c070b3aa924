-- By one rule after another.
use Rattle.merge_laws.proofs.Whole.{tidy_follows_rules, tidy_is_normal, tidy_keeps_effect}
use Rattle.merge_laws.proofs.RuleChoice.{rules_leave_no_choice}
use Rattle.merge_laws.proofs.Again.{tidy_is_idempotent}
use Rattle.merge_laws.proofs.Equal.{tidy_test_is_exact}
use Rattle.merge_laws.proofs.tidy_laws.law_of_tidy.Goals as goal

pub returns-clause-rules : goal.returns-clause-rules
returns-clause-rules c = tidy_follows_rules

pub returns-clause-normal : goal.returns-clause-normal
returns-clause-normal c = tidy_is_normal

pub returns-clause-effect : goal.returns-clause-effect
returns-clause-effect c = tidy_keeps_effect

pub returns-clause-one : goal.returns-clause-one
returns-clause-one c = rules_leave_no_choice

pub returns-clause-idempotent : goal.returns-clause-idempotent
returns-clause-idempotent c = tidy_is_idempotent

pub returns-clause-test : goal.returns-clause-test
returns-clause-test c = tidy_test_is_exact
