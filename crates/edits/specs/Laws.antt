-- The steps of an edit that is not refused can be taken one by one. They lead to the model that the edit is to leave.
use Rattle.std.specs.Prelude.{List, [], ◌≡◌, ◌+◌, ◌^◌, ◌<◌, ℕ, Some, Ok, true, length}
use Rattle.ecore_meta.specs.Meta.{Meta}
use Rattle.ecore_meta.specs.declared.meta.Value.{Value}
use Rattle.ecore_meta.specs.declared.meta.Scalar.{Scalar}
use Rattle.model_state.specs.Ident.{is_id}
use Rattle.model_state.specs.Listing.{ids}
use Rattle.model_state.specs.State.{State}
use Rattle.model_state.specs.Steps.{fold}
use Rattle.model_state.specs.Typing.{fits}
use Rattle.model_state.specs.Good.{Good, Sound}
use Rattle.edits.specs.declared.edit.Edit.{Edit}
use Rattle.edits.specs.FreshIds.{HasFirst, IsFirst, numbered, fresh_id}
use Rattle.edits.specs.Standing.{StandsAsAsked}
use Rattle.edits.specs.Edits.{ValueReading, Effect, effect_of, effect_steps, after_effect}

-- which text is which value: each is of its type
abbrev pub IsTyped : Meta → ValueReading → Type 0
IsTyped meta reading = (scalar : Scalar) (text : List ℕ) (v : Value) → reading scalar text ≡ Some v → fits meta scalar v ≡ true

-- an edit that is not refused leads to the model after it
abbrev pub EditsMeet : Type 0
EditsMeet = (meta : Meta) → Sound meta → (m : State) → Good meta m → (reading : ValueReading) → IsTyped meta reading
    → (ws : ℕ) (edit : Edit) (effect : Effect) → effect_of reading meta m ws edit ≡ Ok effect
    → fold meta m (effect_steps meta m effect) ≡ Some (after_effect meta m effect)

-- no step is made for it exactly where it changes nothing
abbrev pub EditsIdle : Type 0
EditsIdle = (meta : Meta) → Sound meta → (m : State) → Good meta m → (reading : ValueReading) → IsTyped meta reading
    → (ws : ℕ) (edit : Edit) (effect : Effect) → effect_of reading meta m ws edit ≡ Ok effect
    → (effect_steps meta m effect ≡ [] → after_effect meta m effect ≡ m) × (after_effect meta m effect ≡ m → effect_steps meta m effect ≡ [])

-- The model after it is good. Among other things, each row of a reference and its mirror stand together, and no list is over its
-- bound.
abbrev pub EditsKeepGood : Type 0
EditsKeepGood = (meta : Meta) → Sound meta → (m : State) → Good meta m → (reading : ValueReading) → IsTyped meta reading
    → (ws : ℕ) (edit : Edit) (effect : Effect) → effect_of reading meta m ws edit ≡ Ok effect
    → Good meta (after_effect meta m effect)

-- an entry stands in it where the edit asked for it
abbrev pub EditsStand : Type 0
EditsStand = (meta : Meta) → Sound meta → (m : State) → Good meta m → (reading : ValueReading) → IsTyped meta reading
    → (ws : ℕ) (edit : Edit) (effect : Effect) → effect_of reading meta m ws edit ≡ Ok effect
    → StandsAsAsked meta m (after_effect meta m effect) effect

-- the first number whose id is not live gives the fresh id
abbrev pub FirstIsFresh : Type 0
FirstIsFresh = (m : State) (ws k : ℕ) → k < 2 ^ 64 → IsFirst m ws k → fresh_id m ws ≡ numbered ws k

-- a fresh id is of the form of an id
abbrev pub FreshIsId : Type 0
FreshIsId = (m : State) (ws : ℕ) → ws < 2 ^ 32 → length (ids m) + 1 < 2 ^ 64 → is_id (fresh_id m ws) ≡ true

-- a fresh id has the first number whose id is not live, unless almost 2^64 elements are
abbrev pub FreshIsFirst : Type 0
FreshIsFirst = (m : State) (ws : ℕ) → length (ids m) + 1 < 2 ^ 64 → HasFirst m ws (fresh_id m ws)
