-- By cases on the command, and by induction on the items.
use Rattle.policy_laws.proofs.Tables.{tables_are_right}
use Rattle.policy_laws.proofs.Behind.{keeping_is_admins, looking_passes, reader_opens, one_branch_opens_or_works}
use Rattle.policy_laws.proofs.Scripts.{readers_only_open, writers_of_one_stay, writers_keep_common, strangers_make_none}
use Rattle.policy_laws.proofs.Denied.{denied_are_refused, others_are_answered, denied_leave_no_trace}
use Rattle.policy_laws.proofs.Tools.{guards_answer_so}
use Rattle.policy_laws.proofs.laws.law_of_policy_effects.Goals as goal

pub returns-clause-tables : goal.returns-clause-tables
returns-clause-tables c = tables_are_right

pub returns-clause-tool : goal.returns-clause-tool
returns-clause-tool c = guards_answer_so

pub returns-clause-readers : goal.returns-clause-readers
returns-clause-readers c = λ grants user has s item event m. reader_opens grants user s item event m has.is

pub returns-clause-open : goal.returns-clause-open
returns-clause-open c = readers_only_open

pub returns-clause-writers : goal.returns-clause-writers
returns-clause-writers c = λ grants user name has s item event m. one_branch_opens_or_works grants user s item event m name has.is

pub returns-clause-stay : goal.returns-clause-stay
returns-clause-stay c = writers_of_one_stay

pub returns-clause-common : goal.returns-clause-common
returns-clause-common c = writers_keep_common

pub returns-clause-strangers : goal.returns-clause-strangers
returns-clause-strangers c = strangers_make_none

pub returns-clause-looking : goal.returns-clause-looking
returns-clause-looking c = looking_passes

pub returns-clause-denied : goal.returns-clause-denied
returns-clause-denied c = denied_are_refused

pub returns-clause-others : goal.returns-clause-others
returns-clause-others c = others_are_answered

pub returns-clause-trace : goal.returns-clause-trace
returns-clause-trace c = denied_leave_no_trace

pub returns-clause-keeping : goal.returns-clause-keeping
returns-clause-keeping c = keeping_is_admins
