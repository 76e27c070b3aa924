-- Operations are recorded: the edits of a model, the command `import`, and the event Edit.
use Rattle.std.specs.Prelude.{ℕ, ◌==◌, ◌&&◌, List, [], ◌∷◌, ◌++◌, Bool, true, false, length, Option, Some, None, is_some, Result, Ok, Err}
use Rattle.std.specs.Fmt.{decimal}
use Rattle.ecore_meta.specs.Meta.{Meta}
use Rattle.model_state.specs.Packages.{fold_package, steps_all}
use Rattle.model_state.specs.declared.operation.Operation.{Operation}
use Rattle.history_tree.specs.History.{History}
use Rattle.edits.specs.declared.edit.Edit as edits
use Rattle.edits.specs.declared.edit.Recorded.{Recorded}
use Rattle.edit_steps.specs.declared.fault.EditFault.{EditFault}
use Rattle.edit_steps.specs.declared.fault.EditFault.TheVariants as faults
use Rattle.edits.specs.Recording.{recorded}
use Rattle.model_documents.specs.declared.doc.DocRow.{DocRow}
use Rattle.model_documents.specs.declared.fault.ModelFault.{ModelFault}
use Rattle.model_documents.specs.Document.{doc_of}
use Rattle.model_documents.specs.Faults.{model_fault_number}
use Rattle.import_laws.specs.Import.{recorded_import}
use Rattle.op_form.specs.declared.event.Event.TheVariants as events
use Rattle.script_lang.specs.declared.reply.Refusal.{Refusal}
use Rattle.script_lang.specs.declared.reply.Refusal.TheVariants as refusals
use Rattle.plain_repository.specs.State.{State, Workspace, Composite, workspace_of, model_of}
use Rattle.plain_repository.specs.Answers.{Decision, refused, told, with_room}

-- operations are added after the others, or their steps to the composite that is open
abbrev pub added : List Operation → Option Composite → Workspace → Workspace
added more None w = record w { operations = w.operations ++ more; composite = None }
added more (Some composite) w = record w { composite = Some (record { name = composite.name; steps = composite.steps ++ steps_all more }) }

-- operations are added after those that are there; while a composite is open their steps join it
abbrev pub with_more : List Operation → Workspace → Workspace
with_more more w = added more w.composite w

-- an open composite takes one operation at a time
abbrev pub takes : Option Composite → List Operation → Bool
takes None operations = true
takes (Some composite) operations = length operations == 1

-- there are operations, as many as the workspace takes, and each can be taken in its turn on the working model
abbrev pub can_follow : Meta → History → Option Workspace → List Operation → Bool
can_follow meta h (Some w) (o ∷ operations) = takes w.composite (o ∷ operations) && is_some (fold_package meta (model_of meta h w) (o ∷ operations))
can_follow meta h w operations = false

-- the refusal of an edit; out of memory is never due
abbrev pub refusal_of : EditFault → Refusal
refusal_of faults.NoElement = refusals.NoElement
refusal_of faults.IdInUse = refusals.IdInUse
refusal_of faults.BadId = refusals.BadId
refusal_of faults.NoClass = refusals.NoClass
refusal_of faults.Abstract = refusals.Abstract
refusal_of faults.NoFeature = refusals.NoFeature
refusal_of faults.WrongKind = refusals.WrongKind
refusal_of faults.BadValue = refusals.BadValue
refusal_of faults.WrongType = refusals.WrongType
refusal_of faults.Bound = refusals.Bound
refusal_of faults.AlreadyThere = refusals.AlreadyThere
refusal_of faults.NoEntry = refusals.NoEntry
refusal_of faults.WouldCycle = refusals.WouldCycle
refusal_of faults.Memory = refusals.TooLarge

-- the id of a new element, or nothing
abbrev pub id_words : Option (List ℕ) → List ℕ
id_words None = []
id_words (Some id) = id

-- an edit that changes nothing makes no event
abbrev pub with_operation : State → ℕ → List ℕ → Option Operation → Decision
with_operation s ws words None = told [] words
with_operation s ws words (Some operation) = with_room s [] words (events.Edit ws (operation ∷ []))

-- the answer to an edit, by what is recorded of it
abbrev pub edited : State → ℕ → Result Recorded EditFault → Decision
edited s ws (Err fault) = refused (refusal_of fault)
edited s ws (Ok r) = with_operation s ws (id_words r.id) r.operation

-- the same, by the workspace
abbrev pub edit_in : State → Meta → ℕ → Option Workspace → edits.Edit → Decision
edit_in s meta ws None edit = refused refusals.NoWorkspace
edit_in s meta ws (Some w) edit = edited s ws (recorded meta (model_of meta s.history w) ws edit)

-- an edit of the working model
unfoldable pub decide_edit : State → Meta → ℕ → edits.Edit → Decision
decide_edit s meta ws edit = edit_in s meta ws (workspace_of s ws) edit

-- the answer to an import: how many elements are created
abbrev pub imported : State → ℕ → List DocRow → Result (Option Operation) EditFault → Decision
imported s ws rows (Err fault) = refused (refusal_of fault)
imported s ws rows (Ok operation) = with_operation s ws (decimal (length rows)) operation

-- the same, by what its block reads as
abbrev pub import_read : State → Meta → ℕ → Workspace → Result (List DocRow) ModelFault → Decision
import_read s meta ws w (Err fault) = refused (refusals.BadModel (model_fault_number fault))
import_read s meta ws w (Ok rows) = imported s ws rows (recorded_import meta (model_of meta s.history w) ws rows)

-- the same, by the workspace
abbrev pub import_in : State → Meta → ℕ → Option Workspace → List ℕ → Decision
import_in s meta ws None text = refused refusals.NoWorkspace
import_in s meta ws (Some w) text = import_read s meta ws w (doc_of meta text)

-- `import WS`: the elements that the block describes are created in the working model
unfoldable pub decide_import : State → Meta → ℕ → List ℕ → Decision
decide_import s meta ws text = import_in s meta ws (workspace_of s ws) text
