-- those that come after the version are those on the path that is left, and then those found
use Rattle.std.proofs.Common.{◌≡◌, ◌<◌, ◌++◌, length, reverse}
use Rattle.history_tree.specs.Since.{path_after}
use Rattle.merge_plans.proofs.gathering.path_after.Given as goal

abbrev pub invariant-loop-at : goal.invariant-loop-at
invariant-loop-at l = record {
  there : l.at < length l.history.history.versions;
  found : path_after l.history.history l.v l.last ≡ path_after l.history.history l.v l.at ++ reverse l.back.items;
}

abbrev pub decreases-loop-at : goal.decreases-loop-at
decreases-loop-at l = l.at
