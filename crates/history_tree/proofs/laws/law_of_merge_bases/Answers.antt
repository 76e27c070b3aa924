use Rattle.history_tree.proofs.Bases.{common_last, base_last, base_after}
use Rattle.history_tree.proofs.laws.law_of_merge_bases.Goals as goal

pub returns-clause-common : goal.returns-clause-common
returns-clause-common c = common_last

pub returns-clause-base : goal.returns-clause-base
returns-clause-base c = base_last

pub returns-clause-after : goal.returns-clause-after
returns-clause-after c = base_after
