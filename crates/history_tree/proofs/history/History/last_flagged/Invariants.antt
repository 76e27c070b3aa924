-- the last flagged version on the path that is left is that on the whole path
use Rattle.std.proofs.Common.{◌≡◌, ◌<◌, length}
use Rattle.std.specs.List.{filter}
use Rattle.history_tree.specs.History.{path}
use Rattle.history_tree.specs.Marks.{is_flagged}
use Rattle.history_tree.specs.MergeBase.{greatest}
use Rattle.history_tree.proofs.history.History.last_flagged.Given as goal

abbrev pub invariant-loop-at : goal.invariant-loop-at
invariant-loop-at l = record {
  there : l.at < length l.self.history.versions;
  same : greatest (filter (is_flagged l.flags) (path l.self.history l.at)) ≡ greatest (filter (is_flagged l.flags) (path l.self.history l.v));
}

abbrev pub decreases-loop-at : goal.decreases-loop-at
decreases-loop-at l = l.at
