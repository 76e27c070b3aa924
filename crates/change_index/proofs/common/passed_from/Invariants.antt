-- the place reached stands before the end, and the stride is above 0
use Rattle.std.proofs.Common.{◌<◌, ◌≤◌}
use Rattle.change_index.proofs.common.passed_from.Given as goal

abbrev pub invariant-back : goal.invariant-back
invariant-back l = record {
  within : l.start ≤ l.end;
  some : 0 < l.stride;
}

abbrev pub decreases-back : goal.decreases-back
decreases-back l = l.start
