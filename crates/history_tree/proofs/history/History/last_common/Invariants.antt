-- the two that are left have the same last common version
use Rattle.std.proofs.Common.{◌≡◌, ◌<◌, ◌+◌, length}
use Rattle.history_tree.specs.MergeBase.{last_common}
use Rattle.history_tree.proofs.history.History.last_common.Given as goal

abbrev pub invariant-loop-first : goal.invariant-loop-first
invariant-loop-first l = record {
  first_there : l.first < length l.self.history.versions;
  second_there : l.second < length l.self.history.versions;
  same : last_common l.self.history l.first l.second ≡ last_common l.self.history l.a l.b;
}

abbrev pub decreases-loop-first : goal.decreases-loop-first
decreases-loop-first l = l.first + l.second
