-- The model has the state of the version that the way back has come to. The path of the other version is that of the one that the
-- search for its beginning has come to, and then what was found.
use Rattle.std.proofs.Common.{◌≡◌, ◌<◌, ◌+◌, ◌++◌, length, reverse, true, is_some}
use Rattle.model_state.specs.Good.{Good}
use Rattle.history_tree.specs.History.{path}
use Rattle.history_tree.specs.States.{state_folded, state_of}
use Rattle.version_states.proofs.ways.way_back.Given as goal

abbrev pub invariant-loop-back : goal.invariant-loop-back
invariant-loop-back l = record {
  back_there : l.back < length l.history.history.versions;
  ahead_there : l.ahead < length l.history.history.versions;
  leads : is_some (state_folded l.meta l.history.history l.back) ≡ true;
  state : l.model ≡ state_of l.meta l.history.history l.back;
  good : Good l.meta l.model;
  split : path l.history.history l.to ≡ path l.history.history l.ahead ++ reverse l.rest.items;
}

abbrev pub decreases-loop-back : goal.decreases-loop-back
decreases-loop-back l = l.back + l.ahead
