-- What is recorded leads to the model that the edit is to leave.
use Rattle.std.specs.Prelude.{◌≡◌, ◌↔◌, ℕ, None, Some, is_some, Ok}
use Rattle.std.specs.FinMap.{get}
use Rattle.ecore_meta.specs.Meta.{Meta}
use Rattle.model_state.specs.Keys.{IdBytes}
use Rattle.model_state.specs.State.{State}
use Rattle.model_state.specs.Steps.{fold}
use Rattle.model_state.specs.Good.{Good, Sound}
use Rattle.model_state.specs.Typing.{opposite_of}
use Rattle.emfjson_values.specs.Values.{value_of}
use Rattle.edits.specs.declared.edit.Edit.{Edit}
use Rattle.edits.specs.declared.edit.Recorded.{Recorded}
use Rattle.edits.specs.Edits.{Effect, effect_of, after_effect}
use Rattle.edits.specs.Recording.{recorded}
use Rattle.edits.specs.Answers.{steps_in}

-- The steps lead from the model to the one after the effect of the edit. There is no operation exactly where that changes
-- nothing, and the model after it is good.
pub record LeadsOn (meta : Meta) (m : State) (ws : ℕ) (edit : Edit) (r : Recorded) : Type 0 where
  pub effect : Effect
  pub is : effect_of (value_of meta) meta m ws edit ≡ Ok effect
  pub run : fold meta m (steps_in r.operation) ≡ Some (after_effect meta m effect)
  pub idle : (r.operation ≡ None) ↔ (after_effect meta m effect ≡ m)
  pub good : Good meta (after_effect meta m effect)

-- so does what is recorded of an edit that is not refused
abbrev pub RecordingLeads : Type 0
RecordingLeads = (meta : Meta) → Sound meta → (m : State) → Good meta m → (ws : ℕ) (edit : Edit) (r : Recorded) → recorded meta m ws edit ≡ Ok r
    → LeadsOn meta m ws edit r

-- each row of a reference that has an opposite stands exactly where its mirror does
abbrev pub Paired : Meta → State → Type 0
Paired meta m = (a : IdBytes) (f : ℕ) (b : IdBytes) (g : ℕ) → opposite_of meta f ≡ Some g → is_some (get m.row (a, f, b)) ≡ is_some (get m.row (b, g, a))

-- the steps can be taken one by one, and leave a good model, in which each reference stands with its opposite
pub record KeepsGood (meta : Meta) (m : State) (r : Recorded) : Type 0 where
  pub left : State
  pub run : fold meta m (steps_in r.operation) ≡ Some left
  pub good : Good meta left
  pub paired : Paired meta left
