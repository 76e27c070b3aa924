-- The effect of an edit of a feature, once its element and its feature are found.
use Rattle.std.specs.Prelude.{ℕ, Result, Err}
use Rattle.ecore_meta.specs.Meta.{Meta}
use Rattle.ecore_meta.specs.declared.meta.Kind.{Kind}
use Rattle.model_state.specs.Keys.{IdBytes}
use Rattle.model_state.specs.State.{State}
use Rattle.edit_steps.specs.declared.fault.EditFault.{EditFault}
use Rattle.edit_steps.specs.declared.fault.EditFault.TheVariants.{WrongKind}
use Rattle.edits.specs.declared.edit.Edit.{Edit}
use Rattle.edits.specs.declared.edit.Edit.TheVariants.{Create, Delete, Set, Unset, Add, Remove, Shift, Link, Unlink, Reorder, Move}
use Rattle.edits.specs.Edits.{ValueReading, Effect, set_effect, unset_effect, add_effect, remove_effect, shift_effect, link_effect, unlink_effect}
use Rattle.edits.specs.Edits.{reorder_effect}

-- the effect of an edit on a feature of an element, by the feature's kind; another edit is refused
unfoldable pub effect_on : ValueReading → Meta → State → IdBytes → Edit → ℕ → Kind → Result Effect EditFault
effect_on reading meta m e (Create class destination id) f kind = Err WrongKind
effect_on reading meta m e (Delete id) f kind = Err WrongKind
effect_on reading meta m e (Set id feature value) f kind = set_effect reading meta m e f kind value
effect_on reading meta m e (Unset id feature) f kind = unset_effect e f kind
effect_on reading meta m e (Add id feature at value) f kind = add_effect reading meta m e f kind at value
effect_on reading meta m e (Remove id feature index) f kind = remove_effect m e f kind index
effect_on reading meta m e (Shift id feature from to) f kind = shift_effect m e f kind from to
effect_on reading meta m e (Link id feature target index) f kind = link_effect meta m e f kind target index
effect_on reading meta m e (Unlink id feature target) f kind = unlink_effect meta m e f kind target
effect_on reading meta m e (Reorder id feature target index) f kind = reorder_effect meta m e f kind target index
effect_on reading meta m e (Move id destination index) f kind = Err WrongKind
