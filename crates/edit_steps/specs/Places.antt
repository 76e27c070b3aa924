-- Edits of places: an element is created at the end of a place, or moved. The model after each, defined without steps, and the steps.
use Rattle.std.specs.Prelude.{◌≡◌, ℕ, true, false, cond, List, [], ◌∷◌, ◌++◌, Some, is_some, unwrap_or, nat_eq}
use Rattle.std.specs.FinMap.{FinMap, get}
use Rattle.finite_maps.specs.Maps.{set}
use Rattle.ecore_meta.specs.Meta.{Meta}
use Rattle.model_state.specs.declared.entry.Entry.{Entry}
use Rattle.model_state.specs.declared.step.Place.{Place}
use Rattle.model_state.specs.declared.step.Step.{Step}
use Rattle.model_state.specs.declared.step.Step.TheVariants.{New, RerankPlace, Move}
use Rattle.model_state.specs.Keys.{IdBytes, id_cmp}
use Rattle.model_state.specs.Typing.{is_concrete}
use Rattle.model_state.specs.State.{State, is_live, place_eq}
use Rattle.model_state.specs.Steps.{place_live, may_stand, may_move, has_room, chain_is}
use Rattle.model_state.specs.Listing.{children, rank_at}
use Rattle.edit_steps.specs.Spot.{spot, end_spot}
use Rattle.edit_steps.specs.References.{without_entry, stands_at}
use Rattle.std.specs.List.{list_any}
use Rattle.finite_maps.specs.Equal.{text_eq}

-- the rank of each element where it stands
abbrev pub Ranks : Type 0
Ranks = FinMap id_cmp ℕ

-- ---- create
-- the elements have the ranks given
abbrev pub ranked_places : List Entry → List ℕ → Ranks → Ranks
ranked_places [] rs prank = prank
ranked_places (x ∷ xs) [] prank = prank
ranked_places (x ∷ xs) (r ∷ rs) prank = ranked_places xs rs (set prank x.id (Some r))

-- a step for each element whose rank changes
abbrev pub rerank_places : List Entry → List ℕ → List Step
rerank_places [] rs = []
rerank_places (x ∷ xs) [] = []
rerank_places (x ∷ xs) (r ∷ rs) = cond (nat_eq x.rank r) (rerank_places xs rs) (RerankPlace x.id x.rank r ∷ rerank_places xs rs)

-- the element is live, last in its place
abbrev pub create_after : State → IdBytes → ℕ → Place → State
create_after m e c p =
    let xs = children m.place m.prank p in
    let s = end_spot xs in
    record m { kind = set m.kind e (Some c); place = set m.place e (Some p); prank = set (ranked_places xs s.ranks m.prank) e s.rank }

-- the reranks of the place where there is no room at its end, and then the new element
abbrev pub create_made : State → IdBytes → ℕ → Place → List Step
create_made m e c p =
    let xs = children m.place m.prank p in
    let s = end_spot xs in
    rerank_places xs s.ranks ++ New e c p (unwrap_or s.rank 0) ∷ []

-- the element may be created
pub record MayCreate (meta : Meta) (m : State) (e : IdBytes) (c : ℕ) (p : Place) : Type 0 where
  pub fresh : is_live m e ≡ false
  pub parent : place_live m p ≡ true
  pub concrete : is_concrete meta c ≡ true
  pub typed : may_stand meta m c p ≡ true
  pub room : has_room meta m p ≡ true
  pub ranked : is_some (end_spot (children m.place m.prank p)).rank ≡ true

-- ---- move
-- within its place: what stands at the index stays; else it has its spot among the others
abbrev pub move_within_after : State → IdBytes → Place → ℕ → State
move_within_after m e p k =
    let xs = children m.place m.prank p in
    let others = without_entry e xs in
    let s = spot others k in
    cond (stands_at e k xs) m (record m { prank = set (ranked_places others s.ranks m.prank) e s.rank })

-- the reranks of the others where needed, and then that of the element
abbrev pub move_within_made : State → IdBytes → Place → ℕ → List Step
move_within_made m e p k =
    let xs = children m.place m.prank p in
    let others = without_entry e xs in
    let s = spot others k in
    cond (stands_at e k xs) [] (rerank_places others s.ranks ++ rerank_places (record { rank = rank_at m.prank e; id = e } ∷ []) (unwrap_or s.rank 0 ∷ []))

-- it may move within its place
pub record MayMoveWithin (m : State) (e : IdBytes) (p : Place) (k : ℕ) : Type 0 where
  pub stands : get m.place e ≡ Some p
  pub ranked : stands_at e k (children m.place m.prank p) ≡ false → is_some (spot (without_entry e (children m.place m.prank p)) k).rank ≡ true

-- to another place: it has its spot among the children there
abbrev pub move_to_after : State → IdBytes → Place → ℕ → State
move_to_after m e to k =
    let xs = children m.place m.prank to in
    let s = spot xs k in
    record m { place = set m.place e (Some to); prank = set (ranked_places xs s.ranks m.prank) e s.rank }

-- the reranks of that place where needed, and then the move, with the containers of the old place and of the new one
abbrev pub move_to_made : State → IdBytes → Place → Place → ℕ → List IdBytes → List IdBytes → List Step
move_to_made m e from to k up down =
    let xs = children m.place m.prank to in
    let s = spot xs k in
    rerank_places xs s.ranks ++ Move e from (rank_at m.prank e) to (unwrap_or s.rank 0) up down ∷ []

-- it may move to the other place
pub record MayMoveTo (meta : Meta) (m : State) (e : IdBytes) (from to : Place) (k : ℕ) (up down : List IdBytes) : Type 0 where
  pub stands : get m.place e ≡ Some from
  pub elsewhere : place_eq from to ≡ false
  pub parent : place_live m to ≡ true
  pub typed : may_move meta m (get m.kind e) to ≡ true
  pub above_from : chain_is m.place (Some from) up ≡ true
  pub above_to : chain_is m.place (Some to) down ≡ true
  pub no_cycle : list_any (text_eq e) down ≡ false
  pub room : has_room meta m to ≡ true
  pub ranked : is_some (spot (children m.place m.prank to) k).rank ≡ true
