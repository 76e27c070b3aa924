-- An entry stands where an edit asked for it.
use Rattle.ecore_meta.specs.Meta.{Meta}
use Rattle.model_state.specs.State.{State}
use Rattle.model_state.specs.Good.{Good, Sound}
use Rattle.edit_steps.proofs.PlaceStanding.{create_stands}
use Rattle.edit_steps.proofs.RowStanding.{link_stands, reorder_stands, set_ref_stands}
use Rattle.edit_steps.specs.Containers.{containers_of}
use Rattle.edit_steps.proofs.Containers.{parent_live}
use Rattle.edit_steps.proofs.Keeps.{delete_keeps}
use Rattle.edit_steps.proofs.MoveRefused.{moved_stands_there}
use Rattle.edits.specs.Edits.{Effect, Creates, Moves, Deletes, Puts, Clears, Inserts, Removes, Shifts, Refers, Forgets, Links, Unlinks, Reorders, after_effect}
use Rattle.edits.specs.Laws.{EditsStand}
use Rattle.edits.specs.Standing.{StandsAsAsked}
use Rattle.edits.proofs.Allowed.{Allowed}
use Rattle.edits.proofs.Chains.{is_chain}
use Rattle.edits.proofs.Taken.{allowed}

stands : (meta : Meta) → Sound meta → (m : State) → Good meta m → (effect : Effect) → Allowed meta m effect
    → StandsAsAsked meta m (after_effect meta m effect) effect
stands meta sound m good (Creates e class place) may = create_stands meta sound m good e class place may
stands meta sound m good (Moves e place at) may =
    moved_stands_there meta sound m good e place at may.live may.is (containers_of m place)
    (is_chain meta m good place (parent_live meta m good place may.is)) may.taken
stands meta sound m good (Deletes e) may = delete_keeps meta m good e
stands meta sound m good (Puts e f v) may = tt
stands meta sound m good (Clears e f) may = tt
stands meta sound m good (Inserts e f k v) may = tt
stands meta sound m good (Removes e f k) may = tt
stands meta sound m good (Shifts e f from to) may = tt
stands meta sound m good (Refers a f b) may = λ none. set_ref_stands meta sound m good a f b may none
stands meta sound m good (Forgets a f) may = tt
stands meta sound m good (Links a f b k) may = link_stands meta sound m good a f b k may.0 may.1
stands meta sound m good (Unlinks a f b) may = tt
stands meta sound m good (Reorders a f b k) may = reorder_stands meta sound m good a f b k may.0 may.1

pub edits_stand : EditsStand
edits_stand meta sound m good reading typed ws edit effect comes = stands meta sound m good effect (allowed meta m good reading typed ws edit effect comes)
