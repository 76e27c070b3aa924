-- Where an entry stands in a list.
use Rattle.std.specs.Prelude.{◌≡◌, ℕ, ◌≤◌, Bool, false, not, nat_eq, ◌&&◌, ◌||◌, List, [], ◌∷◌, Option, None, Some, map, length}
use Rattle.std.specs.List.{filter, insert}
use Rattle.finite_maps.specs.Equal.{text_eq}
use Rattle.finite_maps.specs.Sorts.{in_order}
use Rattle.ecore_meta.specs.Meta.{Meta}
use Rattle.model_state.specs.declared.entry.Entry.{Entry}
use Rattle.model_state.specs.Keys.{IdBytes, RowKey}
use Rattle.model_state.specs.Typing.{opposite_of}
use Rattle.model_state.specs.Listing.{children, entry_cmp, targets}
use Rattle.model_state.specs.State.{State, place_eq}
use Rattle.model_state.specs.declared.step.Place.{Place}
use Rattle.edit_steps.specs.Spot.{spot}
use Rattle.edit_steps.specs.Rows.{Rows, is_row_or_mirror}
use Rattle.edit_steps.specs.References.{holds_one, without_entry}

-- the ids of entries
abbrev pub ids_of : List Entry → List IdBytes
ids_of xs = map (λ (x : Entry). x.id) xs

-- the list after is the list before without the element, with the element inserted at index k
abbrev pub StandsAt : List Entry → List Entry → IdBytes → ℕ → Type 0
StandsAt before after e k = ids_of after ≡ insert (ids_of (without_entry e before)) k e

-- the same at the end of the others
abbrev pub StandsLast : List Entry → List Entry → IdBytes → Type 0
StandsLast before after e = StandsAt before after e (length (without_entry e before))

-- the entries with the ranks given
abbrev pub reranked : List Entry → List ℕ → List Entry
reranked [] rs = []
reranked (x ∷ xs) [] = x ∷ xs
reranked (x ∷ xs) (r ∷ rs) = record { rank = r; id = x.id } ∷ reranked xs rs

-- An entry with the rank of the spot at index k stands at k of a list by rank and then by id. The others stand as they did.
abbrev pub SpotStands : Type 0
SpotStands = (xs : List Entry) (k r : ℕ) (e : IdBytes) → in_order entry_cmp xs ≡ xs → k ≤ length xs → (spot xs k).rank ≡ Some r
    → ids_of (in_order entry_cmp (record { rank = r; id = e } ∷ reranked xs (spot xs k).ranks)) ≡ insert (ids_of xs) k e

-- ---- references
-- The row is removed where b gets another source by the reference f. These are the rows to b by f and their mirrors, where its
-- opposite holds one.
abbrev pub is_displaced : Meta → Option ℕ → ℕ → IdBytes → RowKey → Bool
is_displaced meta None f b k = false
is_displaced meta (Some g) f b k = holds_one meta g && is_row_or_mirror (Some f) b g k

-- the entries of a list that stay, where such rows are removed
abbrev pub staying : (RowKey → Bool) → Rows → IdBytes → ℕ → List Entry
staying gone row x h = filter (λ (e : Entry). not (gone (x, h, e.id))) (targets row x h)

-- the list of x and h is that of a and f
abbrev pub is_list : IdBytes → ℕ → IdBytes → ℕ → Bool
is_list a f x h = text_eq a x && nat_eq f h

-- it is that, or that of b and the opposite
abbrev pub is_end : Option ℕ → IdBytes → ℕ → IdBytes → IdBytes → ℕ → Bool
is_end None a f b x h = is_list a f x h
is_end (Some g) a f b x h = is_list a f x h || is_list b g x h

-- The lists after a row from a to b was added. There b stands at index k, a last in the opposite's list, and the other lists have
-- what stays.
pub record Joined (meta : Meta) (gone : RowKey → Bool) (before after : Rows) (a : IdBytes) (f : ℕ) (b : IdBytes) (k : ℕ) : Type 0 where
  pub here : StandsAt (staying gone before a f) (targets after a f) b k
  pub mirror : (g : ℕ) → opposite_of meta f ≡ Some g → StandsLast (staying gone before b g) (targets after b g) a
  pub others : (x : IdBytes) (h : ℕ) → is_end (opposite_of meta f) a f b x h ≡ false → targets after x h ≡ staying gone before x h

-- ---- places
-- The lists after an element was put into a place. It stands at index k there, and each other place has what it had, without it.
pub record Placed (before after : State) (e : IdBytes) (p : Place) (k : ℕ) : Type 0 where
  pub here : StandsAt (children before.place before.prank p) (children after.place after.prank p) e k
  pub others : (q : Place) → place_eq p q ≡ false → children after.place after.prank q ≡ without_entry e (children before.place before.prank q)
