-- A workspace is tidied: the command `tidy`, and the event Tidy.
use Rattle.std.specs.Prelude.{ℕ, [], Bool, false, ◌&&◌, not, Option, Some, None, if◌then◌else◌}
use Rattle.ecore_meta.specs.Meta.{Meta}
use Rattle.merge_laws.specs.Tidy.{tidy, is_tidy}
use Rattle.op_form.specs.declared.event.Event.TheVariants as events
use Rattle.script_lang.specs.declared.reply.Refusal.TheVariants as refusals
use Rattle.plain_repository.specs.State.{State, Workspace, workspace_of, is_open, is_closed}
use Rattle.plain_repository.specs.Answers.{Decision, refused, told, with_room}

-- the operations are tidied
abbrev pub tidied : Meta → Workspace → Workspace
tidied meta w = record w { operations = tidy meta w.operations }

-- no composite is open, and tidying changes the operations
abbrev pub can_tidy : Meta → Option Workspace → Bool
can_tidy meta None = false
can_tidy meta (Some w) = is_closed (Some w) && not (is_tidy meta w.operations)

-- the operations are tidied, where no composite is open, and nothing changes where they are tidy
abbrev pub tidy_in : State → Meta → ℕ → Option Workspace → Decision
tidy_in s meta ws None = refused refusals.NoWorkspace
tidy_in s meta ws (Some w) =
    if is_open (Some w) then refused refusals.CompositeOpen
    else if is_tidy meta w.operations then told [] []
    else with_room s [] [] (events.Tidy ws)

-- `tidy WS`: the operations are tidied
unfoldable pub decide_tidy : State → Meta → ℕ → Decision
decide_tidy s meta ws = tidy_in s meta ws (workspace_of s ws)
