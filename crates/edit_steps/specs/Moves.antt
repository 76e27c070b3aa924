-- An element is moved: the model after it, defined without steps, and the steps.
use Rattle.std.specs.Prelude.{◌≡◌, ℕ, cond, List, Option, Some, ◌⊎◌, unwrap_or, length}
use Rattle.ecore_meta.specs.Meta.{Meta}
use Rattle.model_state.specs.declared.step.Place.{Place}
use Rattle.model_state.specs.declared.step.Step.{Step}
use Rattle.model_state.specs.Keys.{IdBytes}
use Rattle.model_state.specs.State.{State, place_eq}
use Rattle.model_state.specs.Chains.{IsChain}
use Rattle.model_state.specs.Listing.{children}
use Rattle.edit_steps.specs.Places.{move_within_after, move_within_made, move_to_after, move_to_made}
use Rattle.edit_steps.specs.References.{without_entry}
use Rattle.edit_steps.specs.declared.move_fault.MoveFault.{MoveFault}
use Rattle.edit_steps.specs.declared.move_fault.MoveFault.TheVariants.{Memory}
use Rattle.edit_steps.specs.MoveRefusals.{move_refusal, place_of}

-- the element stands at that index of the others of its place, or of the elements of another; None is the end
abbrev pub move_after : State → IdBytes → Place → Option ℕ → State
move_after m e to at =
    let xs = children m.place m.prank to in
    cond (place_eq (place_of m e) to) (move_within_after m e to (unwrap_or at (length (without_entry e xs)))) (move_to_after m e to (unwrap_or at (length xs)))

-- the steps, by the containers of its place and of the new one
abbrev pub move_made : State → IdBytes → Place → Option ℕ → List IdBytes → List IdBytes → List Step
move_made m e to at up down =
    let xs = children m.place m.prank to in
    cond (place_eq (place_of m e) to) (move_within_made m e to (unwrap_or at (length (without_entry e xs))))
    (move_to_made m e (place_of m e) to (unwrap_or at (length xs)) up down)

-- the steps are those of the move
pub record IsMove (m : State) (e : IdBytes) (to : Place) (at : Option ℕ) (steps : List Step) : Type 0 where
  pub up : List IdBytes
  pub above_from : IsChain m.place (Some (place_of m e)) up
  pub down : List IdBytes
  pub above_to : IsChain m.place (Some to) down
  pub made : steps ≡ move_made m e to at up down

-- the containers of the place, and why the move is refused by them
pub record HasRefusal (meta : Meta) (m : State) (e : IdBytes) (to : Place) (at : Option ℕ) (first : Option MoveFault) : Type 0 where
  pub down : List IdBytes
  pub above_to : IsChain m.place (Some to) down
  pub first_is : move_refusal meta m e to down at ≡ first

-- out of memory, or the refusal
abbrev pub IsMoveRefusal : Meta → State → IdBytes → Place → Option ℕ → MoveFault → Type 0
IsMoveRefusal meta m e to at x = (x ≡ Memory) ⊎ HasRefusal meta m e to at (Some x)
