-- The steps of an edit that is not refused can be taken one by one. They lead to the model that the edit is to leave.
use Rattle.std.specs.Prelude.{List, [], ◌≡◌, ℕ, Some, None, is_some, true, false, length, nat_le, nat_lt, ◌||◌}
use Rattle.std.specs.FinMap.{get}
use Rattle.ecore_meta.specs.Meta.{Meta}
use Rattle.model_state.specs.Keys.{IdBytes}
use Rattle.model_state.specs.State.{State}
use Rattle.model_state.specs.Steps.{fold}
use Rattle.model_state.specs.Good.{Good, Sound}
use Rattle.model_state.specs.declared.step.Place.{Place}
use Rattle.edit_steps.specs.Places.{MayCreate, create_after, create_made, MayMoveWithin, move_within_after, move_within_made, MayMoveTo, move_to_after}
use Rattle.edit_steps.specs.Places.{move_to_made}
use Rattle.ecore_meta.specs.declared.meta.Value.{Value}
use Rattle.model_state.specs.Typing.{attr_fits, kind_of, opposite_of}
use Rattle.model_state.specs.Keys.{RowKey}
use Rattle.model_state.specs.Listing.{children, targets, values_at}
use Rattle.edit_steps.specs.Rows.{is_row_or_mirror}
use Rattle.edit_steps.specs.Standing.{StandsAt, Joined, Placed, is_displaced, is_list}
use Rattle.edit_steps.specs.Attributes.{IsAttribute, set_attr_after, set_attr_made, put_after, put_made}
use Rattle.edit_steps.specs.ManyValues.{IsMany, MayInsert, insert_after, insert_made, remove_after, remove_made, shift_after, shift_made, clear_after}
use Rattle.edit_steps.specs.ManyValues.{clear_made}
use Rattle.edit_steps.specs.References.{MaySet, MayLink, MayReorder, without_entry, set_ref_after, set_ref_made, link_after, link_made, unlink_after}
use Rattle.edit_steps.specs.References.{unlink_made, unset_after, unset_made, reorder_after, reorder_made}

-- a reference is set: the rows are those that it is to leave, and all else is as it was
abbrev pub SetRefMeets : Type 0
SetRefMeets = (meta : Meta) → Sound meta → (m : State) → Good meta m → (a : IdBytes) (f : ℕ) (b : IdBytes) → MaySet meta m a f b
    → fold meta m (set_ref_made meta m.row a f b) ≡ Some (record m { row = set_ref_after meta a f b m.row })

-- two elements are linked at an index
abbrev pub LinkMeets : Type 0
LinkMeets = (meta : Meta) → Sound meta → (m : State) → Good meta m → (a : IdBytes) (f : ℕ) (b : IdBytes) (k : ℕ) → MayLink meta m a f b k
    → fold meta m (link_made meta m.row a f b k) ≡ Some (record m { row = link_after meta a f b k m.row })

-- a row is taken away
abbrev pub UnlinkMeets : Type 0
UnlinkMeets = (meta : Meta) → Sound meta → (m : State) → Good meta m → (a : IdBytes) (f : ℕ) (b : IdBytes) → is_some (get m.row (a, f, b)) ≡ true
    → fold meta m (unlink_made meta m.row a f b) ≡ Some (record m { row = unlink_after meta a f b m.row })

-- all rows of a feature are taken away
abbrev pub UnsetMeets : Type 0
UnsetMeets = (meta : Meta) → Sound meta → (m : State) → Good meta m → (a : IdBytes) (f : ℕ)
    → fold meta m (unset_made meta m.row a f) ≡ Some (record m { row = unset_after meta a f m.row })

-- a row is put at another index of its list
abbrev pub ReorderMeets : Type 0
ReorderMeets = (meta : Meta) → Sound meta → (m : State) → Good meta m → (a : IdBytes) (f : ℕ) (b : IdBytes) (k : ℕ) → MayReorder m a f b k
    → fold meta m (reorder_made m.row a f b k) ≡ Some (record m { row = reorder_after a f b k m.row })

-- an element is created
abbrev pub CreateMeets : Type 0
CreateMeets = (meta : Meta) → Sound meta → (m : State) → Good meta m → (e : IdBytes) (c : ℕ) (p : Place) → MayCreate meta m e c p
    → fold meta m (create_made m e c p) ≡ Some (create_after m e c p)

-- an attribute is set
abbrev pub SetAttrMeets : Type 0
SetAttrMeets = (meta : Meta) → Sound meta → (m : State) → Good meta m → (e : IdBytes) (f : ℕ) (v : Value) → IsAttribute meta m e f
    → attr_fits meta (kind_of meta f) v ≡ true
    → fold meta m (set_attr_made meta m e f v) ≡ Some (set_attr_after meta m e f v)

-- an attribute is unset
abbrev pub UnsetAttrMeets : Type 0
UnsetAttrMeets = (meta : Meta) → Sound meta → (m : State) → Good meta m → (e : IdBytes) (f : ℕ) → IsAttribute meta m e f
    → fold meta m (put_made m e f None) ≡ Some (put_after m e f None)

-- an element is put at another index of its place
abbrev pub MoveWithinMeets : Type 0
MoveWithinMeets = (meta : Meta) → Sound meta → (m : State) → Good meta m → (e : IdBytes) (p : Place) (k : ℕ) → MayMoveWithin m e p k
    → fold meta m (move_within_made m e p k) ≡ Some (move_within_after m e p k)

-- an element is moved to another place
abbrev pub MoveToMeets : Type 0
MoveToMeets = (meta : Meta) → Sound meta → (m : State) → Good meta m → (e : IdBytes) (from to : Place) (k : ℕ) (up down : List IdBytes)
    → MayMoveTo meta m e from to k up down
    → fold meta m (move_to_made m e from to k up down) ≡ Some (move_to_after m e to k)

-- no step is made exactly where the edit changes nothing
abbrev pub SetRefIdle : Type 0
SetRefIdle = (meta : Meta) → Sound meta → (m : State) → Good meta m → (a : IdBytes) (f : ℕ) (b : IdBytes) → MaySet meta m a f b
    → (set_ref_made meta m.row a f b ≡ [] → set_ref_after meta a f b m.row ≡ m.row)
    × (set_ref_after meta a f b m.row ≡ m.row → set_ref_made meta m.row a f b ≡ [])

-- a value is inserted into a many-valued attribute
abbrev pub InsertMeets : Type 0
InsertMeets = (meta : Meta) (m : State) (e : IdBytes) (f : ℕ) (k : ℕ) (v : Value) → MayInsert meta m e f k v
    → fold meta m (insert_made e f k v) ≡ Some (insert_after m e f k v)

-- a value is removed
abbrev pub RemoveMeets : Type 0
RemoveMeets = (meta : Meta) (m : State) → Good meta m → (e : IdBytes) (f : ℕ) (k : ℕ) → IsMany meta m e f → nat_lt k (length (values_at m e f)) ≡ true
    → fold meta m (remove_made m e f k) ≡ Some (remove_after m e f k)

-- a value changes its place
abbrev pub ShiftMeets : Type 0
ShiftMeets = (meta : Meta) (m : State) → Good meta m → (e : IdBytes) (f : ℕ) (from to : ℕ) → IsMany meta m e f
    → nat_lt from (length (values_at m e f)) ≡ true → nat_lt to (length (values_at m e f)) ≡ true
    → fold meta m (shift_made m e f from to) ≡ Some (shift_after m e f from to)

-- all values are removed
abbrev pub ClearMeets : Type 0
ClearMeets = (meta : Meta) (m : State) → Good meta m → (e : IdBytes) (f : ℕ) → IsMany meta m e f
    → fold meta m (clear_made m e f) ≡ Some (clear_after m e f)

-- ---- where an entry stands after an edit
-- A link at an index k of the list: b stands at k of a's list, and a last in the opposite's. The other lists are as they were,
-- without the rows displaced.
abbrev pub LinkStands : Type 0
LinkStands = (meta : Meta) → Sound meta → (m : State) → Good meta m → (a : IdBytes) (f : ℕ) (b : IdBytes) (k : ℕ) → MayLink meta m a f b k
    → nat_le k (length (targets m.row a f)) ≡ true
    → StandsAt (targets m.row a f) (targets (link_after meta a f b k m.row) a f) b k
    × Joined meta (is_displaced meta (opposite_of meta f) f b) m.row (link_after meta a f b k m.row) a f b k

-- A set: b stands first and alone in a's list, and a last in the opposite's. The other lists are as they were, without the old
-- row and those displaced.
abbrev pub SetRefStands : Type 0
SetRefStands = (meta : Meta) → Sound meta → (m : State) → Good meta m → (a : IdBytes) (f : ℕ) (b : IdBytes) → MaySet meta m a f b → get m.row (a, f, b) ≡ None
    → Joined meta (λ (k : RowKey). is_row_or_mirror (opposite_of meta f) a f k || is_displaced meta (opposite_of meta f) f b k) m.row
    (set_ref_after meta a f b m.row) a f b 0

-- a reorder to an index k of the list: b stands at k of the others, and each other list is as it was
abbrev pub ReorderStands : Type 0
ReorderStands = (meta : Meta) → Sound meta → (m : State) → Good meta m → (a : IdBytes) (f : ℕ) (b : IdBytes) (k : ℕ) → MayReorder m a f b k
    → nat_lt k (length (targets m.row a f)) ≡ true
    → StandsAt (targets m.row a f) (targets (reorder_after a f b k m.row) a f) b k
    × ((x : IdBytes) (h : ℕ) → is_list a f x h ≡ false → targets (reorder_after a f b k m.row) x h ≡ targets m.row x h)

-- a creation: the element stands last in its place, and each other place is as it was
abbrev pub CreateStands : Type 0
CreateStands = (meta : Meta) → Sound meta → (m : State) → Good meta m → (e : IdBytes) (c : ℕ) (p : Place) → MayCreate meta m e c p
    → Placed m (create_after m e c p) e p (length (children m.place m.prank p))

-- A move within a place to an index k of the others. The element stands at k of the others, and each other place is as it was.
abbrev pub MoveWithinStands : Type 0
MoveWithinStands = (meta : Meta) → Sound meta → (m : State) → Good meta m → (e : IdBytes) (p : Place) (k : ℕ) → MayMoveWithin m e p k
    → nat_le k (length (without_entry e (children m.place m.prank p))) ≡ true
    → Placed m (move_within_after m e p k) e p k

-- A move to an index k of another place. The element stands at k there, and each other place is as it was, the old one without
-- it.
abbrev pub MoveToStands : Type 0
MoveToStands = (meta : Meta) → Sound meta → (m : State) → Good meta m → (e : IdBytes) (from to : Place) (k : ℕ) (up down : List IdBytes)
    → MayMoveTo meta m e from to k up down → nat_le k (length (children m.place m.prank to)) ≡ true
    → Placed m (move_to_after m e to k) e to k
