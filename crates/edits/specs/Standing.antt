-- Where the entry of an edit stands in the model after it, and what stays of the rest.
use Rattle.std.specs.Prelude.{◌≡◌, ℕ, false, None, length, unwrap_or, ◌||◌}
use Rattle.std.specs.FinMap.{get}
use Rattle.ecore_meta.specs.Meta.{Meta}
use Rattle.model_state.specs.Keys.{IdBytes, RowKey}
use Rattle.model_state.specs.Listing.{children, targets}
use Rattle.model_state.specs.State.{State}
use Rattle.model_state.specs.Typing.{opposite_of}
use Rattle.edit_steps.specs.References.{without_entry}
use Rattle.edit_steps.specs.Rows.{is_row_or_mirror}
use Rattle.edit_steps.specs.Standing.{StandsAt, Joined, Placed, is_displaced, is_list}
use Rattle.edit_steps.specs.Stays.{Keeps}
use Rattle.edits.specs.Edits.{Effect, Creates, Moves, Deletes, Refers, Links, Reorders}

-- A new element stands last, one that moves at its index of the others, None for their end. What stays of a deletion is as it
-- was. A target that is set stands first, one that is linked at its index, and its source last in the opposite's list. One that
-- is reordered stands at its index. The other lists are as they were, without what the edit takes away. Nothing is said of edits
-- of attributes, of links that are taken away, nor of a target that is set where it stands already.
abbrev pub StandsAsAsked : Meta → State → State → Effect → Type 0
StandsAsAsked meta before after (Creates e class place) = Placed before after e place (length (children before.place before.prank place))
StandsAsAsked meta before after (Moves e place at) =
    Placed before after e place (unwrap_or at (length (without_entry e (children before.place before.prank place))))
StandsAsAsked meta before after (Deletes e) = Keeps before after e
StandsAsAsked meta before after (Refers a f b) = get before.row (a, f, b) ≡ None
    → Joined meta (λ (k : RowKey). is_row_or_mirror (opposite_of meta f) a f k || is_displaced meta (opposite_of meta f) f b k) before.row after.row a
    f b 0
StandsAsAsked meta before after (Links a f b k) =
    StandsAt (targets before.row a f) (targets after.row a f) b k × Joined meta (is_displaced meta (opposite_of meta f) f b) before.row after.row a f b k
StandsAsAsked meta before after (Reorders a f b k) =
    StandsAt (targets before.row a f) (targets after.row a f) b k
    × ((x : IdBytes) (h : ℕ) → is_list a f x h ≡ false → targets after.row x h ≡ targets before.row x h)
StandsAsAsked meta before after effect = Unit {0}
