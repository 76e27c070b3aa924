use Rattle.std.proofs.Common.{arith}
use Rattle.history_tree.proofs.Heads.{head_last, head_more, head_other, head_start}
use Rattle.history_tree.proofs.Paths.{path_by_parent, parent_before, path_kept}
use Rattle.history_tree.proofs.Leading.{path_leads}
use Rattle.history_tree.proofs.laws.law_of_histories.Goals as goal

pub returns-clause-paths : goal.returns-clause-paths
returns-clause-paths c h whole k v there = path_by_parent h k v there (parent_before 0 h.versions k k v whole.parents there (omega arith))

pub returns-clause-lead : goal.returns-clause-lead
returns-clause-lead c = path_leads

pub returns-clause-paths_stay : goal.returns-clause-paths_stay
returns-clause-paths_stay c = path_kept

pub returns-clause-head : goal.returns-clause-head
returns-clause-head c = head_last

pub returns-clause-start : goal.returns-clause-start
returns-clause-start c = head_start

pub returns-clause-last : goal.returns-clause-last
returns-clause-last c = head_more

pub returns-clause-heads_stay : goal.returns-clause-heads_stay
returns-clause-heads_stay c = head_other
