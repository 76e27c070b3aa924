-- When edits of plain references are refused, and with what: the tests of each in order.
use Rattle.std.specs.Prelude.{ℕ, Bool, not, cond, List, [], ◌∷◌, Option, None, Some, is_some, ◌||◌, unwrap_or, length, nat_le, nat_lt}
use Rattle.std.specs.FinMap.{get}
use Rattle.finite_maps.specs.Maps.{is_below}
use Rattle.ecore_meta.specs.Meta.{Meta}
use Rattle.model_state.specs.Keys.{IdBytes}
use Rattle.model_state.specs.State.{State, row_count}
use Rattle.model_state.specs.Steps.{may_link}
use Rattle.model_state.specs.Typing.{opposite_of, row_upper}
use Rattle.model_state.specs.Listing.{targets}
use Rattle.edit_steps.specs.declared.fault.EditFault.{EditFault}
use Rattle.edit_steps.specs.declared.fault.EditFault.TheVariants.{WrongType, Bound, AlreadyThere, NoEntry}
use Rattle.edit_steps.specs.Spot.{spot}
use Rattle.edit_steps.specs.References.{room_there, rank_there, stands_at, without_entry}

-- the refusal of the first test that fails
abbrev pub first_refusal : {F : Type 0} → List (Bool × F) → Option F
first_refusal [] = None
first_refusal (t ∷ ts) = cond t.0 (first_refusal ts) (Some t.1)

-- ---- the tests of each edit in order, each with the refusal where it fails
-- unlink: the row is there
abbrev pub unlink_tests : State → IdBytes → ℕ → IdBytes → List (Bool × EditFault)
unlink_tests m a f b = (is_some (get m.row (a, f, b)), NoEntry) ∷ []

-- why an unlink is refused
abbrev pub unlink_refusal : State → IdBytes → ℕ → IdBytes → Option EditFault
unlink_refusal m a f b = first_refusal (unlink_tests m a f b)

-- set: the target is of the feature's type; what is there needs no more; there is room for the mirror, and a rank
abbrev pub set_ref_tests : Meta → State → IdBytes → ℕ → IdBytes → List (Bool × EditFault)
set_ref_tests meta m a f b =
    (may_link meta (get m.kind a) f (get m.kind b), WrongType)
    ∷ (is_some (get m.row (a, f, b)) || room_there meta m (opposite_of meta f) b, Bound)
    ∷ (is_some (get m.row (a, f, b)) || is_some (rank_there meta m.row (opposite_of meta f) b), Bound)
    ∷ []

-- why a set is refused
abbrev pub set_ref_refusal : Meta → State → IdBytes → ℕ → IdBytes → Option EditFault
set_ref_refusal meta m a f b = first_refusal (set_ref_tests meta m a f b)

-- link: the target is of the feature's type and isn't there, the index is one, and both lists have room and a rank
abbrev pub link_tests : Meta → State → IdBytes → ℕ → IdBytes → ℕ → List (Bool × EditFault)
link_tests meta m a f b k =
    (may_link meta (get m.kind a) f (get m.kind b), WrongType)
    ∷ (not (is_some (get m.row (a, f, b))), AlreadyThere)
    ∷ (nat_le k (length (targets m.row a f)), NoEntry)
    ∷ (is_below (row_count m a f) (row_upper meta f), Bound)
    ∷ (room_there meta m (opposite_of meta f) b, Bound)
    ∷ (is_some (spot (targets m.row a f) k).rank, Bound)
    ∷ (is_some (rank_there meta m.row (opposite_of meta f) b), Bound)
    ∷ []

-- the index at which a link is asked for, None for the end of the list
abbrev pub link_index : State → IdBytes → ℕ → Option ℕ → ℕ
link_index m a f at = unwrap_or at (length (targets m.row a f))

-- why a link is refused at an index, None for the end
abbrev pub link_refusal : Meta → State → IdBytes → ℕ → IdBytes → Option ℕ → Option EditFault
link_refusal meta m a f b at = first_refusal (link_tests meta m a f b (link_index m a f at))

-- reorder: the row is there, the index is one of the list's, and where the target doesn't stand at it yet there is a rank
abbrev pub reorder_tests : State → IdBytes → ℕ → IdBytes → ℕ → List (Bool × EditFault)
reorder_tests m a f b k =
    (is_some (get m.row (a, f, b)), NoEntry)
    ∷ (nat_lt k (length (targets m.row a f)), NoEntry)
    ∷ (stands_at b k (targets m.row a f) || is_some (spot (without_entry b (targets m.row a f)) k).rank, Bound)
    ∷ []

-- why a reorder is refused
abbrev pub reorder_refusal : State → IdBytes → ℕ → IdBytes → ℕ → Option EditFault
reorder_refusal m a f b k = first_refusal (reorder_tests m a f b k)
