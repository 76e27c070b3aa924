use Rattle.access_rules.proofs.Spellings.{policies_read, policies_spelled}
use Rattle.access_rules.proofs.laws.law_of_policies.Goals as goal

pub returns-clause-read : goal.returns-clause-read
returns-clause-read c = policies_read

pub returns-clause-spelled : goal.returns-clause-spelled
returns-clause-spelled c = policies_spelled
