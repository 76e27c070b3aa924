-- How many workspaces there may be.
use Rattle.std.specs.Prelude.{◌≤◌}
use Rattle.plain_repository.specs.State.{State}
use Rattle.plain_repository.specs.Answers.{most_events}
use Rattle.plain_repository.specs.Laws.{IsReached}
use Rattle.repo_state.specs.Counting.{live_workspaces}

-- after any events that could be made there are no more workspaces than events, and no more of these than a store may have
abbrev pub WorkspacesAreFew : Type 0
WorkspacesAreFew = (s : State) → IsReached s → (live_workspaces s ≤ s.events) × (s.events ≤ most_events)
