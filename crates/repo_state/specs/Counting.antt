-- How many workspaces a repository holds.
use Rattle.std.specs.Prelude.{ℕ, is_some, count_by}
use Rattle.plain_repository.specs.State.{State}

-- the workspaces that are there; those that were dropped are not counted
abbrev pub live_workspaces : State → ℕ
live_workspaces s = count_by is_some s.workspaces
