-- When an element is refused at a place, and with what.
use Rattle.std.specs.Prelude.{◌≡◌, ℕ, Bool, true, not, cond, List, [], ◌∷◌, Option, None, Some, is_some, ◌⊎◌, ◌&&◌, ◌||◌, unwrap_or, length, nat_le}
use Rattle.std.specs.FinMap.{get}
use Rattle.ecore_meta.specs.Meta.{Meta}
use Rattle.model_state.specs.declared.entry.Entry.{Entry}
use Rattle.model_state.specs.declared.step.Place.{Place}
use Rattle.model_state.specs.declared.step.Place.TheVariants.{Root, Inside}
use Rattle.model_state.specs.Keys.{IdBytes}
use Rattle.model_state.specs.State.{State, place_eq}
use Rattle.model_state.specs.Steps.{class_has, may_move, may_stand, has_room}
use Rattle.model_state.specs.Typing.{kind_of, is_containment}
use Rattle.model_state.specs.Listing.{children}
use Rattle.edit_steps.specs.Spot.{spot, end_spot}
use Rattle.edit_steps.specs.References.{stands_at, without_entry}
use Rattle.edit_steps.specs.declared.move_fault.MoveFault.{MoveFault}
use Rattle.edit_steps.specs.declared.move_fault.MoveFault.TheVariants.{WouldCycle, Bound, WrongType, NoEntry, Memory}
use Rattle.edit_steps.specs.Subtree.{is_among}

-- the refusal of the first test that fails
abbrev pub first_place_refusal : List (Bool × MoveFault) → Option MoveFault
first_place_refusal [] = None
first_place_refusal (t ∷ ts) = cond t.0 (first_place_refusal ts) (Some t.1)

-- out of memory, or the refusal
abbrev pub IsPlaceRefusal : Option MoveFault → MoveFault → Type 0
IsPlaceRefusal first e = (e ≡ Memory) ⊎ (first ≡ Some e)

-- the root, or a containment of a live element
abbrev pub is_place : Meta → State → Place → Bool
is_place meta m Root = true
is_place meta m (Inside a f) = class_has meta (get m.kind a) f && is_containment (kind_of meta f)

-- the place is such a one
abbrev pub IsPlace : Meta → State → Place → Type 0
IsPlace meta m p = is_place meta m p ≡ true

-- ---- a spot among others
-- a spot: the index is one of the others or their end, and there is a rank
abbrev pub spot_tests : List Entry → ℕ → List (Bool × MoveFault)
spot_tests others k = (nat_le k (length others), NoEntry) ∷ (is_some (spot others k).rank, Bound) ∷ []

-- why a spot among others is refused, None for the end
abbrev pub spot_refusal : List Entry → Option ℕ → Option MoveFault
spot_refusal others at = first_place_refusal (spot_tests others (unwrap_or at (length others)))

-- a creation: the class may stand in the place, which has room, and there is a rank
abbrev pub create_tests : Meta → State → ℕ → Place → List (Bool × MoveFault)
create_tests meta m c p =
    (may_stand meta m c p, WrongType)
    ∷ (has_room meta m p, Bound)
    ∷ (is_some (end_spot (children m.place m.prank p)).rank, Bound)
    ∷ []

-- why a creation is refused
abbrev pub create_refusal : Meta → State → ℕ → Place → Option MoveFault
create_refusal meta m c p = first_place_refusal (create_tests meta m c p)

-- where an element stands
abbrev pub place_of : State → IdBytes → Place
place_of m e = unwrap_or (get m.place e) Root

-- the index is one of the others or their end, and where the element doesn't stand there yet there is a rank
abbrev pub within_tests : IdBytes → List Entry → Option ℕ → List (Bool × MoveFault)
within_tests e xs at =
    let others = without_entry e xs in
    let k = unwrap_or at (length others) in
    (nat_le k (length others), NoEntry) ∷ (stands_at e k xs || is_some (spot others k).rank, Bound) ∷ []

-- the index is one of the elements there or their end, there is room, and there is a rank
abbrev pub arrival_tests : Meta → State → Place → List Entry → Option ℕ → List (Bool × MoveFault)
arrival_tests meta m to xs at =
    let k = unwrap_or at (length xs) in
    (nat_le k (length xs), NoEntry) ∷ (has_room meta m to, Bound) ∷ (is_some (spot xs k).rank, Bound) ∷ []

-- A move to a place with these containers. The element may stand there and is none of the containers. The rest goes by whether it
-- stands in that place.
abbrev pub move_tests : Meta → State → IdBytes → Place → List IdBytes → Option ℕ → List (Bool × MoveFault)
move_tests meta m e to above at =
    let xs = children m.place m.prank to in
    (may_move meta m (get m.kind e) to, WrongType)
    ∷ (not (is_among above e), WouldCycle)
    ∷ cond (place_eq (place_of m e) to) (within_tests e xs at) (arrival_tests meta m to xs at)

-- why a move is refused at an index, None for the end
abbrev pub move_refusal : Meta → State → IdBytes → Place → List IdBytes → Option ℕ → Option MoveFault
move_refusal meta m e to above at = first_place_refusal (move_tests meta m e to above at)
