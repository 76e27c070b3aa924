-- Edits of plain references: the rows after each, defined without steps, and the steps that are made for it.
use Rattle.std.specs.Prelude.{◌≡◌, ℕ, Bool, true, false, cond, List, [], ◌∷◌, ◌++◌, Option, None, Some, is_some, unwrap_or, nat_eq, ◌||◌, not, map, slice_get}
use Rattle.std.specs.List.{filter}
use Rattle.std.specs.FinMap.{get}
use Rattle.finite_maps.specs.Equal.{option_eq, text_eq}
use Rattle.finite_maps.specs.Maps.{set, is_below}
use Rattle.ecore_meta.specs.Meta.{Meta}
use Rattle.model_state.specs.declared.entry.Entry.{Entry}
use Rattle.model_state.specs.declared.step.Step.{Step}
use Rattle.model_state.specs.Keys.{IdBytes}
use Rattle.model_state.specs.Typing.{opposite_of, row_upper}
use Rattle.model_state.specs.State.{State, row_count}
use Rattle.model_state.specs.Steps.{may_link}
use Rattle.model_state.specs.Listing.{targets}
use Rattle.edit_steps.specs.Spot.{spot, end_spot}
use Rattle.edit_steps.specs.Rows.{Rows, clear, ranked, set_pair, unlinks, reranks, link_step}
use Rattle.model_state.specs.Ranks.{rank_gap}

-- a plain feature that holds one target at most
abbrev pub holds_one : Meta → ℕ → Bool
holds_one meta f = option_eq nat_eq (row_upper meta f) (Some 1)

-- ---- the rows after
-- where the opposite of f holds one, the rows to b by f are removed
abbrev pub clear_there : Meta → Option ℕ → ℕ → IdBytes → Rows → Rows
clear_there meta None f b row = row
clear_there meta (Some g) f b row = cond (holds_one meta g) (clear (Some f) b g row) row

-- the row is added, and its mirror at the end of the opposite's list
abbrev pub join : Option ℕ → IdBytes → ℕ → Option ℕ → IdBytes → Rows → Rows
join None a f ra b row = set row (a, f, b) ra
join (Some g) a f ra b row =
    let xs = targets row b g in
    let s = end_spot xs in
    set (set (ranked b g xs s.ranks row) (a, f, b) ra) (b, g, a) s.rank

-- what stands there stays; else the old target is removed, and the new one added with its mirror
abbrev pub set_ref_after : Meta → IdBytes → ℕ → IdBytes → Rows → Rows
set_ref_after meta a f b row =
    cond (is_some (get row (a, f, b))) row
    (join (opposite_of meta f) a f (Some rank_gap) b (clear_there meta (opposite_of meta f) f b (clear (opposite_of meta f) a f row)))

-- b stands at the index of the others, and a at the end of the opposite's list
abbrev pub link_after : Meta → IdBytes → ℕ → IdBytes → ℕ → Rows → Rows
link_after meta a f b k row =
    let cleared = clear_there meta (opposite_of meta f) f b row in
    let xs = targets cleared a f in
    let s = spot xs k in
    join (opposite_of meta f) a f s.rank b (ranked a f xs s.ranks cleared)

-- the row is removed, and its mirror
abbrev pub unlink_after : Meta → IdBytes → ℕ → IdBytes → Rows → Rows
unlink_after meta a f b row = set_pair row a f b (opposite_of meta f) None None

-- all rows of the feature are removed, and their mirrors
abbrev pub unset_after : Meta → IdBytes → ℕ → Rows → Rows
unset_after meta a f row = clear (opposite_of meta f) a f row

-- ---- the steps, by the state before
-- the unlinks of the entry that the opposite holds, where it holds one
abbrev pub displace : Meta → Rows → Option ℕ → ℕ → IdBytes → List Step
displace meta row None f b = []
displace meta row (Some g) f b = cond (holds_one meta g) (unlinks row (Some f) b g (targets row b g)) []

-- the entries of the opposite's list that stay
abbrev pub others_there : Meta → Rows → Option ℕ → IdBytes → List Entry
others_there meta row None b = []
others_there meta row (Some g) b = cond (holds_one meta g) [] (targets row b g)

-- the reranks of the opposite's list where there is no room at its end
abbrev pub reranks_there : Meta → Rows → Option ℕ → IdBytes → List Step
reranks_there meta row None b = []
reranks_there meta row (Some g) b = let xs = others_there meta row (Some g) b in reranks b g xs (end_spot xs).ranks

-- the rank of the mirror, at the end of the opposite's list
abbrev pub rank_there : Meta → Rows → Option ℕ → IdBytes → Option ℕ
rank_there meta row o b = (end_spot (others_there meta row o b)).rank

-- the old target is unlinked, the displaced source too, the opposite's list renumbered where needed, and then linked
abbrev pub set_ref_made : Meta → Rows → IdBytes → ℕ → IdBytes → List Step
set_ref_made meta row a f b =
    cond (is_some (get row (a, f, b))) []
    (unlinks row (opposite_of meta f) a f (targets row a f)
    ++ (displace meta row (opposite_of meta f) f b
    ++ (reranks_there meta row (opposite_of meta f) b
    ++ link_step (opposite_of meta f) a f rank_gap b (unwrap_or (rank_there meta row (opposite_of meta f) b) 0) ∷ [])))

-- the displaced source is unlinked, both lists are renumbered where needed, and then linked
abbrev pub link_made : Meta → Rows → IdBytes → ℕ → IdBytes → ℕ → List Step
link_made meta row a f b k =
    let xs = targets row a f in
    let s = spot xs k in
    displace meta row (opposite_of meta f) f b
    ++ (reranks a f xs s.ranks
    ++ (reranks_there meta row (opposite_of meta f) b
    ++ link_step (opposite_of meta f) a f (unwrap_or s.rank 0) b (unwrap_or (rank_there meta row (opposite_of meta f) b) 0) ∷ []))

-- the one unlink
abbrev pub unlink_made : Meta → Rows → IdBytes → ℕ → IdBytes → List Step
unlink_made meta row a f b = unlinks row (opposite_of meta f) a f (record { rank = unwrap_or (get row (a, f, b)) 0; id = b } ∷ [])

-- the last entry first
abbrev pub backwards : List Entry → List Entry
backwards [] = []
backwards (x ∷ xs) = backwards xs ++ x ∷ []

-- the unlinks of all entries, the last first
abbrev pub unset_made : Meta → Rows → IdBytes → ℕ → List Step
unset_made meta row a f = unlinks row (opposite_of meta f) a f (backwards (targets row a f))

-- ---- where an edit is not refused
-- room for the mirror: the opposite holds one, which is removed, or it is not full
abbrev pub room_there : Meta → State → Option ℕ → IdBytes → Bool
room_there meta m None b = true
room_there meta m (Some g) b = holds_one meta g || is_below (row_count m b g) (row_upper meta g)

-- the reference may be set
pub record MaySet (meta : Meta) (m : State) (a : IdBytes) (f : ℕ) (b : IdBytes) : Type 0 where
  pub one : holds_one meta f ≡ true
  pub typed : may_link meta (get m.kind a) f (get m.kind b) ≡ true
  pub room : get m.row (a, f, b) ≡ None → room_there meta m (opposite_of meta f) b ≡ true
  pub ranked : get m.row (a, f, b) ≡ None → is_some (rank_there meta m.row (opposite_of meta f) b) ≡ true

-- it may be linked at the index k
pub record MayLink (meta : Meta) (m : State) (a : IdBytes) (f : ℕ) (b : IdBytes) (k : ℕ) : Type 0 where
  pub typed : may_link meta (get m.kind a) f (get m.kind b) ≡ true
  pub absent : get m.row (a, f, b) ≡ None
  pub free : is_below (row_count m a f) (row_upper meta f) ≡ true
  pub room : room_there meta m (opposite_of meta f) b ≡ true
  pub ranked : is_some (spot (targets m.row a f) k).rank ≡ true
  pub ranked_there : is_some (rank_there meta m.row (opposite_of meta f) b) ≡ true

-- ---- the order of a list
-- the entries but that of b
abbrev pub without_entry : IdBytes → List Entry → List Entry
without_entry b xs = filter (λ (x : Entry). not (text_eq b x.id)) xs

-- the element stands at the index
abbrev pub stands_at : IdBytes → ℕ → List Entry → Bool
stands_at b k xs = option_eq text_eq (slice_get (map (λ (x : Entry). x.id) xs) k) (Some b)

-- what stands at the index stays; else b has its spot among the others
abbrev pub reorder_after : IdBytes → ℕ → IdBytes → ℕ → Rows → Rows
reorder_after a f b k row =
    let xs = targets row a f in
    let others = without_entry b xs in
    let s = spot others k in
    cond (stands_at b k xs) row (set (ranked a f others s.ranks row) (a, f, b) s.rank)

-- the reranks of the others where needed, and then that of b
abbrev pub reorder_made : Rows → IdBytes → ℕ → IdBytes → ℕ → List Step
reorder_made row a f b k =
    let xs = targets row a f in
    let others = without_entry b xs in
    let s = spot others k in
    cond (stands_at b k xs) []
    (reranks a f others s.ranks ++ reranks a f (record { rank = unwrap_or (get row (a, f, b)) 0; id = b } ∷ []) (unwrap_or s.rank 0 ∷ []))

-- it may be put at the index
pub record MayReorder (m : State) (a : IdBytes) (f : ℕ) (b : IdBytes) (k : ℕ) : Type 0 where
  pub there : is_some (get m.row (a, f, b)) ≡ true
  pub ranked : stands_at b k (targets m.row a f) ≡ false → is_some (spot (without_entry b (targets m.row a f)) k).rank ≡ true
