-- What the calls ask of a reference, and which refusal their faults name.
use Rattle.std.specs.Prelude.{◌≡◌, ℕ, Bool, true, false, List, [], ◌∷◌, Option, Some, ◌⊎◌, is_some, length, nat_le, unwrap_or}
use Rattle.std.specs.FinMap.{get}
use Rattle.finite_maps.specs.Maps.{is_below}
use Rattle.ecore_meta.specs.Meta.{Meta}
use Rattle.model_state.specs.declared.entry.Entry.{Entry}
use Rattle.model_state.specs.Keys.{IdBytes}
use Rattle.model_state.specs.State.{State, row_count}
use Rattle.model_state.specs.Steps.{class_has}
use Rattle.model_state.specs.Typing.{kind_of, is_plain, opposite_of, row_upper}
use Rattle.model_state.specs.Listing.{targets}
use Rattle.edit_steps.specs.Spot.{spot}
use Rattle.edit_steps.specs.References.{room_there, rank_there}
use Rattle.edit_steps.specs.Refusals.{first_refusal}
use Rattle.edit_steps.specs.declared.fault.EditFault.{EditFault}
use Rattle.edit_steps.specs.declared.fault.EditFault.TheVariants as faults
use Rattle.edit_steps.specs.declared.link_fault.LinkFault.{LinkFault}
use Rattle.edit_steps.specs.declared.link_fault.LinkFault.TheVariants.{Bound, AlreadyThere, NoEntry, WrongType, Memory}

-- the fault of an edit that a fault of a call is
abbrev pub edit_fault_of_link : LinkFault → EditFault
edit_fault_of_link Bound = faults.Bound
edit_fault_of_link AlreadyThere = faults.AlreadyThere
edit_fault_of_link NoEntry = faults.NoEntry
edit_fault_of_link WrongType = faults.WrongType
edit_fault_of_link Memory = faults.Memory

-- out of memory, or the refusal
abbrev pub IsLinkRefusal : Option EditFault → LinkFault → Type 0
IsLinkRefusal first e = (e ≡ Memory) ⊎ (first ≡ Some (edit_fault_of_link e))

-- out of memory, or Bound where the test fails
abbrev pub IsFull : Bool → LinkFault → Type 0
IsFull test e = (e ≡ Memory) ⊎ (e ≡ Bound) × (test ≡ false)

-- a plain reference of a live element
abbrev pub IsReference : Meta → State → IdBytes → ℕ → Type 0
IsReference meta m a f = (class_has meta (get m.kind a) f ≡ true) × (is_plain (kind_of meta f) ≡ true)

-- the tests of a link on both lists: the index is one, and both have room and a rank
abbrev pub list_tests : Meta → State → IdBytes → ℕ → IdBytes → ℕ → List (Bool × EditFault)
list_tests meta m a f b k =
    (nat_le k (length (targets m.row a f)), faults.NoEntry)
    ∷ (is_below (row_count m a f) (row_upper meta f), faults.Bound)
    ∷ (room_there meta m (opposite_of meta f) b, faults.Bound)
    ∷ (is_some (spot (targets m.row a f) k).rank, faults.Bound)
    ∷ (is_some (rank_there meta m.row (opposite_of meta f) b), faults.Bound)
    ∷ []

-- the tests of the mirror alone: the opposite's list has room and a rank
abbrev pub mirror_tests : Meta → State → Option ℕ → IdBytes → List (Bool × EditFault)
mirror_tests meta m o b = (room_there meta m o b, faults.Bound) ∷ (is_some (rank_there meta m.row o b), faults.Bound) ∷ []

-- why an entry isn't put at an index of the others, None for their end
abbrev pub enter_refusal : List Entry → Option ℕ → Option EditFault
enter_refusal xs at =
    let k = unwrap_or at (length xs) in
    first_refusal ((nat_le k (length xs), faults.NoEntry) ∷ (is_some (spot xs k).rank, faults.Bound) ∷ [])
