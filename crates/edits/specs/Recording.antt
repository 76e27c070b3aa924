-- What is recorded of an edit, its value read as JSON.
use Rattle.std.specs.Prelude.{ℕ, Result}
use Rattle.ecore_meta.specs.Meta.{Meta}
use Rattle.model_state.specs.State.{State}
use Rattle.emfjson_values.specs.Values.{value_of}
use Rattle.edits.specs.declared.edit.Edit.{Edit}
use Rattle.edits.specs.declared.edit.Recorded.{Recorded}
use Rattle.edit_steps.specs.declared.fault.EditFault.{EditFault}
use Rattle.edits.specs.Edits.{recorded_of}

-- what is recorded of an edit in a workspace of that number, or the first of its refusals
abbrev pub recorded : Meta → State → ℕ → Edit → Result Recorded EditFault
recorded meta m ws edit = recorded_of (value_of meta) meta m ws edit
