-- Packages are applied and reverted: the commands `apply`, `load` and `revert`, which make the event Edit.
use Rattle.std.specs.Prelude.{ℕ, List, [], ◌∷◌, Option, Some, None, Result, Ok, Err, if◌then◌else◌}
use Rattle.std.specs.List.{slice_split}
use Rattle.host_port.specs.Cut.{is_lf}
use Rattle.hex.specs.Hex.{decode_of}
use Rattle.ecore_meta.specs.Meta.{Meta}
use Rattle.model_state.specs.Packages.{rev_package, steps_all}
use Rattle.model_state.specs.Steps.{first_stop}
use Rattle.model_state.specs.declared.operation.Operation.{Operation}
use Rattle.model_state.specs.declared.step.ApplyFault.{ApplyFault}
use Rattle.history_tree.specs.declared.found.Found.{Found}
use Rattle.history_tree.specs.declared.found.FindFault.{FindFault}
use Rattle.history_tree.specs.History.{path}
use Rattle.history_tree.specs.Found.{found_by_number}
use Rattle.history_tree.specs.MergeBase.{is_among}
use Rattle.history_tree.specs.Since.{path_after}
use Rattle.history_tree.specs.States.{package_of_version}
use Rattle.merge_laws.specs.Pairs.{have_pair, first_interfering}
use Rattle.op_form.specs.declared.event.Event.TheVariants as events
use Rattle.op_reading.specs.declared.fault.FormFault.{FormFault}
use Rattle.op_reading.specs.declared.fault.FormFault.TheVariants as forms
use Rattle.op_reading.specs.Packages.{package_at}
use Rattle.op_reading.specs.Events.{whole_of}
use Rattle.script_lang.specs.Command.{if_decoded}
use Rattle.script_lang.specs.declared.reply.Refusal.{Refusal}
use Rattle.script_lang.specs.declared.reply.Refusal.TheVariants as refusals
use Rattle.plain_repository.specs.State.{State, Workspace, workspace_of, model_of, is_open}
use Rattle.plain_repository.specs.Answers.{Decision, refused, told, with_room}
use Rattle.plain_repository.specs.Edits.{takes}
use Rattle.plain_repository.specs.Specs.{unknown}

-- operations are recorded, and nothing changes where there is none
abbrev pub with_operations : State → ℕ → List Operation → Decision
with_operations s ws [] = told [] []
with_operations s ws (o ∷ os) = with_room s [] [] (events.Edit ws (o ∷ os))

-- ---- apply
-- the refusal of bytes that are no package; out of memory is never due
abbrev pub unread : FormFault → Refusal
unread (forms.NotForm at) = refusals.NotForm at
unread forms.Memory = refusals.TooLarge

-- a package is recorded where all its steps can be taken, one by one; else the number of the first that can't, from 0
abbrev pub applied : State → ℕ → List Operation → Option ApplyFault → Decision
applied s ws operations None = with_operations s ws operations
applied s ws operations (Some stop) = refused (refusals.NotApplicable stop.at)

-- the same, by what the bytes read as
abbrev pub apply_read : State → Meta → ℕ → Workspace → Result (List Operation) FormFault → Decision
apply_read s meta ws w (Err fault) = refused (unread fault)
apply_read s meta ws w (Ok operations) = applied s ws operations (first_stop meta (model_of meta s.history w) (steps_all operations))

-- the same, where no composite is open
abbrev pub apply_in : State → Meta → ℕ → Option Workspace → List ℕ → Decision
apply_in s meta ws None bytes = refused refusals.NoWorkspace
apply_in s meta ws (Some w) bytes = if is_open (Some w) then refused refusals.CompositeOpen else apply_read s meta ws w (whole_of package_at bytes)

-- `apply WS HEX`: the operations of a package, given by its bytes, are recorded
unfoldable pub decide_apply : State → Meta → ℕ → List ℕ → Decision
decide_apply s meta ws bytes = apply_in s meta ws (workspace_of s ws) bytes

-- ---- load
-- the bytes that the lines of a block spell, two hexadecimal digits a byte: those of its one line, behind which nothing stands
abbrev pub bytes_of_lines : List (List ℕ) → Option (List ℕ)
bytes_of_lines (line ∷ [] ∷ []) = if_decoded (decode_of line)
bytes_of_lines lines = None

-- a package is recorded, where its steps can be taken; while a composite is open it takes one operation alone
abbrev pub load_package : State → Meta → ℕ → Workspace → List Operation → Decision
load_package s meta ws w operations =
    if takes w.composite operations then applied s ws operations (first_stop meta (model_of meta s.history w) (steps_all operations))
    else refused refusals.CompositeOpen

-- the same, by what the bytes read as
abbrev pub load_read : State → Meta → ℕ → Workspace → Result (List Operation) FormFault → Decision
load_read s meta ws w (Err fault) = refused (unread fault)
load_read s meta ws w (Ok operations) = load_package s meta ws w operations

-- the same, where the block spells bytes
abbrev pub load_bytes : State → Meta → ℕ → Workspace → Option (List ℕ) → Decision
load_bytes s meta ws w None = refused (refusals.NotForm 0)
load_bytes s meta ws w (Some bytes) = load_read s meta ws w (whole_of package_at bytes)

-- the same, by the workspace
abbrev pub load_in : State → Meta → ℕ → Option Workspace → List ℕ → Decision
load_in s meta ws None text = refused refusals.NoWorkspace
load_in s meta ws (Some w) text = load_bytes s meta ws w (bytes_of_lines (slice_split is_lf text))

-- `load WS`: the operations of a package, given by its bytes in a block, are recorded
unfoldable pub decide_load : State → Meta → ℕ → List ℕ → Decision
decide_load s meta ws text = load_in s meta ws (workspace_of s ws) text

-- ---- revert
-- the reversal of a package is recorded, where nothing later interferes with it: no version after it up to the base, and nothing local
abbrev pub taken_out : State → Meta → ℕ → Workspace → List Operation → Option ℕ → Decision
taken_out s meta ws w operations (Some u) = refused (refusals.Interferes (Some u))
taken_out s meta ws w operations None =
    if have_pair meta operations w.operations then refused (refusals.Interferes None)
    else with_operations s ws (rev_package operations)

-- the same, where the version is on the base's path
abbrev pub revert_found : State → Meta → ℕ → Workspace → Result Found FindFault → Decision
revert_found s meta ws w (Err fault) = refused (unknown fault)
revert_found s meta ws w (Ok found) =
    let operations = package_of_version s.history.versions found.version in
    if is_among (path s.history w.base) found.version then taken_out s meta ws w operations
    (first_interfering meta s.history.versions operations (path_after s.history found.version w.base))
    else refused refusals.NotOnPath

-- the same, where no composite is open
abbrev pub revert_in : State → Meta → ℕ → Option Workspace → ℕ → Decision
revert_in s meta ws None version = refused refusals.NoWorkspace
revert_in s meta ws (Some w) version = if is_open (Some w) then refused refusals.CompositeOpen else revert_found s meta ws w (found_by_number s.history version)

-- `revert WS VERSION`: the reversal of the version's package is recorded
unfoldable pub decide_revert : State → Meta → ℕ → ℕ → Decision
decide_revert s meta ws version = revert_in s meta ws (workspace_of s ws) version
