-- What calls that refuse answer.
use Rattle.std.specs.Prelude.{◌≡◌, ◌⊎◌, ℕ, List, Option, Some, false}
use Rattle.model_state.specs.declared.id.IdFault.{IdFault}
use Rattle.model_state.specs.declared.id.IdFault.TheVariants.{Bad, Memory as IdMemory}
use Rattle.model_state.specs.declared.step.ApplyFault.{ApplyFault}
use Rattle.model_state.specs.declared.step.StepFault.{StepFault}
use Rattle.model_state.specs.declared.step.StepFault.TheVariants.{Memory}
use Rattle.model_state.specs.Ident.{is_id}

-- out of memory, or the fault of the first test that fails
abbrev pub IsFault : Option StepFault → StepFault → Type 0
IsFault first e = (e ≡ Memory) ⊎ (first ≡ Some e)

-- out of memory, or the first step that can't be taken and its fault
abbrev pub IsApplyFault : Option ApplyFault → ApplyFault → Type 0
IsApplyFault first e = (e.fault ≡ Memory) ⊎ (first ≡ Some e)

-- out of memory, or Bad where the text is no id
abbrev pub IsIdFault : List ℕ → IdFault → Type 0
IsIdFault text e = (e ≡ IdMemory) ⊎ (e ≡ Bad) × (is_id text ≡ false)
