use Rattle.std.proofs.Common.{◌<◌, ◌+◌, length}
use Rattle.version_states.proofs.ways.steps_between.Given as goal

abbrev pub invariant-loop-back : goal.invariant-loop-back
invariant-loop-back l = record {
  back_there : l.back < length l.history.history.versions;
  ahead_there : l.ahead < length l.history.history.versions;
}

abbrev pub decreases-loop-back : goal.decreases-loop-back
decreases-loop-back l = l.back + l.ahead
