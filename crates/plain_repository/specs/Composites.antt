-- Composites: the commands `begin` and `end`, and the events Begin and End.
use Rattle.std.specs.Prelude.{ℕ, ◌&&◌, List, [], ◌∷◌, ◌++◌, Bool, Option, Some, None, if◌then◌else◌}
use Rattle.model_state.specs.Names.{is_name}
use Rattle.model_state.specs.declared.step.Step.{Step}
use Rattle.model_state.specs.declared.operation.Operation.{Operation}
use Rattle.model_state.specs.declared.operation.Operation.TheVariants as operation
use Rattle.op_form.specs.declared.event.Event.TheVariants as events
use Rattle.script_lang.specs.declared.reply.Refusal.TheVariants as refusals
use Rattle.plain_repository.specs.State.{State, Workspace, Composite, workspace_of, is_open, is_closed}
use Rattle.plain_repository.specs.Answers.{Decision, refused, with_room}

-- a composite of that name is open, with no step yet
abbrev pub with_open : List ℕ → Workspace → Workspace
with_open name w = record w { composite = Some (record { name = name; steps = [] }) }

-- the name is one, and no composite is open
abbrev pub can_begin : List ℕ → Option Workspace → Bool
can_begin name workspace = is_name name && is_closed workspace

-- the composite as an operation, where it has steps
abbrev pub composed : List ℕ → List Step → List Operation
composed name [] = []
composed name (s ∷ ss) = operation.Composite name (s ∷ ss) ∷ []

-- the open composite as an operation, where one is open and has steps
abbrev pub operation_of_open : Option Composite → List Operation
operation_of_open None = []
operation_of_open (Some composite) = composed composite.name composite.steps

-- the composite is closed, and is the last operation where it has steps
abbrev pub with_closed : Workspace → Workspace
with_closed w = record w { operations = w.operations ++ operation_of_open w.composite; composite = None }

-- a composite is open, where none was
abbrev pub begin_in : State → ℕ → List ℕ → Option Workspace → Decision
begin_in s ws name None = refused refusals.NoWorkspace
begin_in s ws name (Some w) = if is_open (Some w) then refused refusals.CompositeOpen else with_room s [] [] (events.Begin ws name)

-- `begin WS NAME`: a composite is open
unfoldable pub decide_begin : State → ℕ → List ℕ → Decision
decide_begin s ws name = begin_in s ws name (workspace_of s ws)

-- the composite is closed, where one was open
abbrev pub end_in : State → ℕ → Option Workspace → Decision
end_in s ws None = refused refusals.NoWorkspace
end_in s ws (Some w) = if is_open (Some w) then with_room s [] [] (events.End ws) else refused refusals.NoComposite

-- `end WS`: the composite is closed
unfoldable pub decide_end : State → ℕ → Decision
decide_end s ws = end_in s ws (workspace_of s ws)
