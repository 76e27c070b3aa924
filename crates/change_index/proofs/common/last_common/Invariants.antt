-- what the lists have in common stands before the places reached
use Rattle.std.proofs.Common.{◌+◌, ◌≤◌, length}
use Rattle.change_index.proofs.Meeting.{Within}
use Rattle.change_index.proofs.common.last_common.Given as goal

abbrev pub invariant-ends : goal.invariant-ends
invariant-ends l = record {
  on_path : l.on_path ≤ length l.path;
  of_versions : l.of_versions ≤ length l.versions;
  within : Within l.path l.versions l.on_path l.of_versions;
}

abbrev pub decreases-ends : goal.decreases-ends
decreases-ends l = l.on_path + l.of_versions
