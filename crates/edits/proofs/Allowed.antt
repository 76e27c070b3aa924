-- What makes an effect possible, and what tests in a row have shown.
use Rattle.std.proofs.Common.{◌≡◌, ℕ, Bool, true, false, not, length, refl, subst, nat_le, nat_lt}
use Rattle.std.specs.Prelude.{Option, None, is_some, Result, Ok, Err, if◌then◌else◌}
use Rattle.std.specs.FinMap.{get}
use Rattle.ecore_meta.specs.Meta.{Meta}
use Rattle.model_state.specs.declared.step.Place.{Place}
use Rattle.model_state.specs.Keys.{IdBytes}
use Rattle.model_state.specs.Listing.{targets, values_at}
use Rattle.model_state.specs.State.{State, is_live}
use Rattle.model_state.specs.Steps.{value_fits, not_default}
use Rattle.edit_steps.specs.declared.fault.EditFault.{EditFault}
use Rattle.edit_steps.specs.References.{MaySet, MayLink, MayReorder}
use Rattle.edit_steps.specs.Attributes.{IsAttribute}
use Rattle.edit_steps.specs.ManyValues.{IsMany, MayInsert}
use Rattle.edit_steps.specs.Places.{MayCreate}
use Rattle.edit_steps.specs.MoveRefusals.{IsPlace, move_refusal}
use Rattle.edit_steps.specs.Containers.{containers_of}
use Rattle.edits.specs.Edits.{Effect, Creates, Moves, Deletes, Puts, Clears, Inserts, Removes, Shifts, Refers, Forgets, Links, Unlinks, Reorders}

-- an element may move to a place
pub record MayMove (meta : Meta) (m : State) (e : IdBytes) (to : Place) (at : Option ℕ) : Type 0 where
  pub live : is_live m e ≡ true
  pub is : IsPlace meta m to
  pub taken : move_refusal meta m e to (containers_of m to) at ≡ None

-- what makes an effect possible
abbrev pub Allowed : Meta → State → Effect → Type 0
Allowed meta m (Creates e class place) = MayCreate meta m e class place
Allowed meta m (Moves e place at) = MayMove meta m e place at
Allowed meta m (Deletes e) = is_live m e ≡ true
Allowed meta m (Puts e f v) = IsAttribute meta m e f × (value_fits meta f v ≡ true) × (not_default meta f v ≡ true)
Allowed meta m (Clears e f) = IsMany meta m e f
Allowed meta m (Inserts e f k v) = MayInsert meta m e f k v
Allowed meta m (Removes e f k) = IsMany meta m e f × (nat_lt k (length (values_at m e f)) ≡ true)
Allowed meta m (Shifts e f from to) = IsMany meta m e f × (nat_lt from (length (values_at m e f)) ≡ true) × (nat_lt to (length (values_at m e f)) ≡ true)
Allowed meta m (Refers a f b) = MaySet meta m a f b
Allowed meta m (Forgets a f) = Unit {0}
Allowed meta m (Links a f b k) = MayLink meta m a f b k × (nat_le k (length (targets m.row a f)) ≡ true)
Allowed meta m (Unlinks a f b) = is_some (get m.row (a, f, b)) ≡ true
Allowed meta m (Reorders a f b k) = MayReorder m a f b k × (nat_lt k (length (targets m.row a f)) ≡ true)

-- ---- the tests of a row
pub passed : {A : Type 0} (b : Bool) (e : EditFault) (r : Result A EditFault) (x : A) → (if not b then Err e else r) ≡ Ok x → (b ≡ true) × (r ≡ Ok x)
passed true e r x h = (refl, h)
passed false e r x h = cc

pub missed : {A : Type 0} (b : Bool) (e : EditFault) (r : Result A EditFault) (x : A) → (if b then Err e else r) ≡ Ok x → (b ≡ false) × (r ≡ Ok x)
missed true e r x h = cc
missed false e r x h = (refl, h)

same_effect : (x y : Effect) → ◌≡◌ {A = Result Effect EditFault} (Ok x) (Ok y) → x ≡ y
same_effect x y h = cc

pub allowed_as : (meta : Meta) (m : State) (x y : Effect) → ◌≡◌ {A = Result Effect EditFault} (Ok x) (Ok y) → Allowed meta m x → Allowed meta m y
allowed_as meta m x y same ok = subst (Allowed meta m) (same_effect x y same) ok
