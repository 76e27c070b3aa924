use Rattle.store_turns.proofs.RuleLaws.{authors_are_users, branchers_may, denied_make_none, others_pass}
use Rattle.store_turns.proofs.TurnLaws.{guards_refuse_first, inputs_are_runs, runs_are_guards, turns_are_runs}
use Rattle.store_turns.proofs.laws.law_of_turns.Goals as goal

pub returns-clause-turns : goal.returns-clause-turns
returns-clause-turns c = turns_are_runs

pub returns-clause-inputs : goal.returns-clause-inputs
returns-clause-inputs c = inputs_are_runs

pub returns-clause-rules : goal.returns-clause-rules
returns-clause-rules c = guards_refuse_first

pub returns-clause-guards : goal.returns-clause-guards
returns-clause-guards c = runs_are_guards

pub returns-clause-denied : goal.returns-clause-denied
returns-clause-denied c = denied_make_none

pub returns-clause-authors : goal.returns-clause-authors
returns-clause-authors c = authors_are_users

pub returns-clause-branches : goal.returns-clause-branches
returns-clause-branches c = branchers_may

pub returns-clause-others : goal.returns-clause-others
returns-clause-others c = others_pass
