-- What calls that look up, read and record answer.
use Rattle.std.specs.Prelude.{◌≡◌, ◌⊎◌, ℕ, true, false, not, List, Option, Some, None, Result, Ok, Err, if◌then◌else◌}
use Rattle.ecore_meta.specs.declared.meta.Value.{Value}
use Rattle.model_state.specs.Ident.{is_id}
use Rattle.model_state.specs.State.{State, is_live}
use Rattle.edit_steps.specs.declared.fault.EditFault.{EditFault}
use Rattle.edit_steps.specs.declared.fault.EditFault.TheVariants.{BadId, BadValue, IdInUse, Memory}
use Rattle.recorder.specs.declared.feature.Named.{Named}

-- the feature that is due, or out of memory, or why there is none
abbrev pub AnswersFeature : Result Named EditFault → Result ℕ EditFault → Type 0
AnswersFeature (Ok named) due = due ≡ Ok named.feature
AnswersFeature (Err fault) due = (fault ≡ Memory) ⊎ (due ≡ Err fault)

-- the value that is due, or out of memory, or BadValue where none is
abbrev pub AnswersValue : Result Value EditFault → Option Value → Type 0
AnswersValue (Ok v) due = due ≡ Some v
AnswersValue (Err fault) due = (fault ≡ Memory) ⊎ ((fault ≡ BadValue) × (due ≡ None))

-- the id that is due and is of the form, or out of memory, or BadId where it is not of the form
abbrev pub AnswersId : Result (List ℕ) EditFault → List ℕ → Type 0
AnswersId (Ok id) due = (id ≡ due) × (is_id due ≡ true)
AnswersId (Err fault) due = (fault ≡ Memory) ⊎ ((fault ≡ BadId) × (is_id due ≡ false))

-- the id, where it is of the form and not live
abbrev pub unused : State → List ℕ → Result (List ℕ) EditFault
unused m id =
    if not (is_id id) then Err BadId
    else if is_live m id then Err IdInUse
    else Ok id
