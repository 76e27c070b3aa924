-- What is local is dropped: the commands `undo` and `discard`, and the events Undo and Discard.
use Rattle.std.specs.Prelude.{ℕ, ◌-◌, ◌&&◌, ◌||◌, [], Bool, length, take, Option, Some, None, if◌then◌else◌}
use Rattle.op_form.specs.declared.event.Event.TheVariants as events
use Rattle.script_lang.specs.declared.reply.Refusal.TheVariants as refusals
use Rattle.plain_repository.specs.State.{State, Workspace, untouched, workspace_of, is_open, is_closed, has_operations, has_local}
use Rattle.plain_repository.specs.Answers.{Decision, refused, told, with_room}

-- the last operation is dropped
abbrev pub without_last : Workspace → Workspace
without_last w = record w { operations = take (length w.operations - 1) w.operations }

-- no composite is open, and there is an operation
abbrev pub can_undo : Option Workspace → Bool
can_undo workspace = is_closed workspace && has_operations workspace

-- nothing is local any more
abbrev pub without_any : Workspace → Workspace
without_any w = untouched w.branch w.base

-- a composite is open, or there is something for a version
abbrev pub can_discard : Option Workspace → Bool
can_discard workspace = is_open workspace || has_local workspace

-- the last operation is dropped, where there is one and no composite is open
abbrev pub undo_in : State → ℕ → Option Workspace → Decision
undo_in s ws None = refused refusals.NoWorkspace
undo_in s ws (Some w) =
    if is_open (Some w) then refused refusals.CompositeOpen
    else if has_operations (Some w) then with_room s [] [] (events.Undo ws)
    else refused refusals.NothingLocal

-- `undo WS`: the last operation is dropped
unfoldable pub decide_undo : State → ℕ → Decision
decide_undo s ws = undo_in s ws (workspace_of s ws)

-- all that is local is dropped, and nothing changes where nothing is
abbrev pub discard_in : State → ℕ → Option Workspace → Decision
discard_in s ws None = refused refusals.NoWorkspace
discard_in s ws (Some w) = if can_discard (Some w) then with_room s [] [] (events.Discard ws) else told [] []

-- `discard WS`: all operations, the open composite and the pending merges are dropped
unfoldable pub decide_discard : State → ℕ → Decision
decide_discard s ws = discard_in s ws (workspace_of s ws)
