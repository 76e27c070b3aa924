-- What calls that record an edit answer, and the steps of what they record.
use Rattle.std.specs.Prelude.{◌≡◌, ◌⊎◌, List, [], Option, None, Some, Result, Ok, Err}
use Rattle.model_state.specs.declared.operation.Operation.{Operation}
use Rattle.model_state.specs.declared.step.Step.{Step}
use Rattle.model_state.specs.Packages.{steps_of}
use Rattle.edit_steps.specs.declared.fault.EditFault.{EditFault}
use Rattle.edit_steps.specs.declared.fault.EditFault.TheVariants.{Memory}

-- the answer is the one that is due, or out of memory
abbrev pub Answers : {A : Type 0} → Result A EditFault → Result A EditFault → Type 0
Answers (Ok x) due = due ≡ Ok x
Answers (Err fault) due = (fault ≡ Memory) ⊎ (due ≡ Err fault)

-- the steps of an operation, if there is one
abbrev pub steps_in : Option Operation → List Step
steps_in None = []
steps_in (Some operation) = steps_of operation
