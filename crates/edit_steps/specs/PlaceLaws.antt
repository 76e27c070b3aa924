-- The steps of a call that is not refused can be taken one by one. They lead to the model that the edit is to leave.
use Rattle.std.specs.Prelude.{◌≡◌, ℕ, List, ◌∷◌, Option, None, Some, true, false, length, unwrap_or}
use Rattle.std.specs.FinMap.{get}
use Rattle.ecore_meta.specs.Meta.{Meta}
use Rattle.model_state.specs.declared.step.Place.{Place}
use Rattle.model_state.specs.declared.step.Step.{Step}
use Rattle.model_state.specs.Keys.{IdBytes}
use Rattle.model_state.specs.State.{State, is_live}
use Rattle.model_state.specs.Steps.{fold}
use Rattle.model_state.specs.Typing.{is_concrete}
use Rattle.model_state.specs.Good.{Good, Sound}
use Rattle.model_state.specs.Chains.{IsChain}
use Rattle.model_state.specs.Listing.{children}
use Rattle.edit_steps.specs.References.{without_entry}
use Rattle.edit_steps.specs.Standing.{Placed}
use Rattle.edit_steps.specs.Places.{create_after, create_made}
use Rattle.edit_steps.specs.Subtree.{children_of, each, is_among, subtree_of}
use Rattle.edit_steps.specs.Deletes.{delete_after, delete_made}
use Rattle.edit_steps.specs.Stays.{Keeps}
use Rattle.edit_steps.specs.MoveRefusals.{IsPlace, create_refusal, move_refusal}
use Rattle.edit_steps.specs.Moves.{IsMove, move_after}
use Rattle.edit_steps.specs.Containers.{containers_of}

-- an element is created, last in its place
abbrev pub CreateLeads : Type 0
CreateLeads = (meta : Meta) → Sound meta → (m : State) → Good meta m → (e : IdBytes) (c : ℕ) (p : Place) → is_live m e ≡ false
    → is_concrete meta c ≡ true → IsPlace meta m p → create_refusal meta m c p ≡ None
    → fold meta m (create_made m e c p) ≡ Some (create_after m e c p)

-- an element moves
abbrev pub MoveLeads : Type 0
MoveLeads = (meta : Meta) → Sound meta → (m : State) → Good meta m → (e : IdBytes) (to : Place) (at : Option ℕ) → is_live m e ≡ true → IsPlace meta m to
    → (down : List IdBytes) → IsChain m.place (Some to) down → move_refusal meta m e to down at ≡ None → (steps : List Step) → IsMove m e to at steps
    → fold meta m steps ≡ Some (move_after m e to at)

-- an element is deleted, with all that it contains
abbrev pub DeleteLeads : Type 0
DeleteLeads = (meta : Meta) → Sound meta → (m : State) → Good meta m → (e : IdBytes) → is_live m e ≡ true
    → fold meta m (delete_made meta m e) ≡ Some (delete_after meta m e)

-- the subtree is the element, and then the subtrees of its children in order
abbrev pub SubtreeIsInOrder : Type 0
SubtreeIsInOrder = (meta : Meta) (m : State) → Good meta m → (e : IdBytes)
    → subtree_of meta m e ≡ e ∷ each (subtree_of meta m) (children_of meta m e)

-- it is the element and all that have it among their containers
abbrev pub SubtreeIsBelow : Type 0
SubtreeIsBelow = (meta : Meta) (m : State) → Good meta m → (e : IdBytes) (y : IdBytes) (up : List IdBytes) → IsChain m.place (get m.place y) up
    → is_among (subtree_of meta m e) y ≡ is_among (y ∷ up) e

-- its elements are live
abbrev pub SubtreeIsLive : Type 0
SubtreeIsLive = (meta : Meta) (m : State) → Good meta m → (e : IdBytes) → is_live m e ≡ true → (y : IdBytes) → is_among (subtree_of meta m e) y ≡ true
    → is_live m y ≡ true

-- a place's containers are its chain, and no other list is
abbrev pub ContainersAreChain : Type 0
ContainersAreChain = (meta : Meta) (m : State) → Good meta m → (p : Place) (xs : List IdBytes) → IsChain m.place (Some p) xs → containers_of m p ≡ xs

-- an element that is created stands last in its place, and each other place is as it was
abbrev pub CreatedStands : Type 0
CreatedStands = (meta : Meta) → Sound meta → (m : State) → Good meta m → (e : IdBytes) (c : ℕ) (p : Place) → is_live m e ≡ false
    → is_concrete meta c ≡ true → IsPlace meta m p → create_refusal meta m c p ≡ None
    → Placed m (create_after m e c p) e p (length (children m.place m.prank p))

-- An element that moves stands at the index of the others of its new place, None for their end. Each other place is as it was,
-- the old one without it.
abbrev pub MovedStands : Type 0
MovedStands = (meta : Meta) → Sound meta → (m : State) → Good meta m → (e : IdBytes) (to : Place) (at : Option ℕ) → is_live m e ≡ true → IsPlace meta m to
    → (down : List IdBytes) → IsChain m.place (Some to) down → move_refusal meta m e to down at ≡ None
    → Placed m (move_after m e to at) e to (unwrap_or at (length (without_entry e (children m.place m.prank to))))

-- a deletion keeps what stays, as it was
abbrev pub DeleteKeeps : Type 0
DeleteKeeps = (meta : Meta) (m : State) → Good meta m → (e : IdBytes) → Keeps m (delete_after meta m e) e
