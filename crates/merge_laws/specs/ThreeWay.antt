-- The three-way merge of states, and what it has to do with what two sides did.
use Rattle.std.specs.Prelude.{◌≡◌, ◌≢◌, ◌⊎◌, ℕ, true, false, List, [], ◌++◌, None, Some, length}
use Rattle.std.specs.FinMap.{get}
use Rattle.ecore_meta.specs.Meta.{Meta}
use Rattle.model_state.specs.Keys.{IdBytes}
use Rattle.model_state.specs.State.{State}
use Rattle.model_state.specs.Good.{Good, Sound}
use Rattle.model_state.specs.declared.operation.Operation.{Operation}
use Rattle.model_state.specs.Packages.{fold_package}
use Rattle.model_laws.specs.Cells.{Cell, has, Agree}
use Rattle.footprint.specs.Same.{IsCell}
use Rattle.footprint.specs.Interference.{package_writes}
use Rattle.footprint.specs.Buckets.{buckets}
use Rattle.merge_laws.specs.declared.side.Side.{Side}
use Rattle.merge_laws.specs.Merge.{drops_theirs, drops_mine, kept, dropped}

-- ---- of states alone
-- one of the two sides has what the base has, and what is merged has what the other side has
abbrev pub Takes : {A : Type 0} → A → A → A → A → Type 0
Takes base theirs mine merged = (theirs ≡ base) × (merged ≡ mine) ⊎ (mine ≡ base) × (merged ≡ theirs)

-- The three-way merge of two states over a base, entry by entry: of each element its class, its place and its rank there; of each
-- element and attribute the values; of each element, reference and target the row's rank. None stands for what is not there.
pub record IsThreeWay (base theirs mine merged : State) : Type 0 where
  pub kind : (e : IdBytes) → Takes (get base.kind e) (get theirs.kind e) (get mine.kind e) (get merged.kind e)
  pub place : (e : IdBytes) → Takes (get base.place e) (get theirs.place e) (get mine.place e) (get merged.place e)
  pub rank : (e : IdBytes) → Takes (get base.prank e) (get theirs.prank e) (get mine.prank e) (get merged.prank e)
  pub attr : (e : IdBytes) (f : ℕ) → Takes (get base.attr (e, f)) (get theirs.attr (e, f)) (get mine.attr (e, f)) (get merged.attr (e, f))
  pub row : (a : IdBytes) (f : ℕ) (b : IdBytes)
      → Takes (get base.row (a, f, b)) (get theirs.row (a, f, b)) (get mine.row (a, f, b)) (get merged.row (a, f, b))

-- what one side changed is as that side has it, and what neither changed is as it was
abbrev pub Keeps : {A : Type 0} → A → A → A → A → Type 0
Keeps base theirs mine merged = (theirs ≢ base → merged ≡ theirs) × (mine ≢ base → merged ≡ mine) × (theirs ≡ base → mine ≡ base → merged ≡ base)

-- so it is for each entry
pub record KeepsChanges (base theirs mine merged : State) : Type 0 where
  pub kind : (e : IdBytes) → Keeps (get base.kind e) (get theirs.kind e) (get mine.kind e) (get merged.kind e)
  pub place : (e : IdBytes) → Keeps (get base.place e) (get theirs.place e) (get mine.place e) (get merged.place e)
  pub rank : (e : IdBytes) → Keeps (get base.prank e) (get theirs.prank e) (get mine.prank e) (get merged.prank e)
  pub attr : (e : IdBytes) (f : ℕ) → Keeps (get base.attr (e, f)) (get theirs.attr (e, f)) (get mine.attr (e, f)) (get merged.attr (e, f))
  pub row : (a : IdBytes) (f : ℕ) (b : IdBytes)
      → Keeps (get base.row (a, f, b)) (get theirs.row (a, f, b)) (get mine.row (a, f, b)) (get merged.row (a, f, b))

-- what is merged has what one of the two sides has
abbrev pub TakesEither : {A : Type 0} → A → A → A → Type 0
TakesEither theirs mine merged = (merged ≡ theirs) ⊎ (merged ≡ mine)

-- so it is for each entry
pub record IsOfEither (theirs mine merged : State) : Type 0 where
  pub kind : (e : IdBytes) → TakesEither (get theirs.kind e) (get mine.kind e) (get merged.kind e)
  pub place : (e : IdBytes) → TakesEither (get theirs.place e) (get mine.place e) (get merged.place e)
  pub rank : (e : IdBytes) → TakesEither (get theirs.prank e) (get mine.prank e) (get merged.prank e)
  pub attr : (e : IdBytes) (f : ℕ) → TakesEither (get theirs.attr (e, f)) (get mine.attr (e, f)) (get merged.attr (e, f))
  pub row : (a : IdBytes) (f : ℕ) (b : IdBytes) → TakesEither (get theirs.row (a, f, b)) (get mine.row (a, f, b)) (get merged.row (a, f, b))

-- the three-way merge at a cell, in which a state may have more than one entry
abbrev pub TakesAt : Meta → State → State → State → State → Cell → Type 0
TakesAt meta base theirs mine merged c = Agree meta base theirs c × Agree meta mine merged c ⊎ Agree meta base mine c × Agree meta theirs merged c

-- two states have all that hangs on an element in common: its class, place and rank, its values, and the rows from it and to it
pub record SameElement (m n : State) (e : IdBytes) : Type 0 where
  pub kind : get m.kind e ≡ get n.kind e
  pub place : get m.place e ≡ get n.place e
  pub rank : get m.prank e ≡ get n.prank e
  pub attr : (f : ℕ) → get m.attr (e, f) ≡ get n.attr (e, f)
  pub row : (f : ℕ) (b : IdBytes) → get m.row (e, f, b) ≡ get n.row (e, f, b)
  pub incoming : (a : IdBytes) (f : ℕ) → get m.row (a, f, e) ≡ get n.row (a, f, e)

-- An element that one side alone made is there, with its place, its values and its rows as that side has them. One that either side
-- deleted is not.
pub record KeepsElement (base theirs mine merged : State) (e : IdBytes) : Type 0 where
  pub theirs_made : get base.kind e ≡ None → get mine.kind e ≡ None → SameElement theirs merged e
  pub mine_made : get base.kind e ≡ None → get theirs.kind e ≡ None → SameElement mine merged e
  pub theirs_deleted : get base.kind e ≢ None → get theirs.kind e ≡ None → get merged.kind e ≡ None
  pub mine_deleted : get base.kind e ≢ None → get mine.kind e ≡ None → get merged.kind e ≡ None

-- no change is lost, and no element
pub record LosesNothing (base theirs mine merged : State) : Type 0 where
  pub changes : KeepsChanges base theirs mine merged
  pub elements : (e : IdBytes) → KeepsElement base theirs mine merged e

-- ---- of two sides and their letters
-- what the choices keep and drop of theirs and of mine
abbrev pub kept_theirs : Meta → List Operation → List Operation → List Side → List Operation
kept_theirs meta theirs mine sides = kept (drops_theirs (buckets meta theirs mine) sides) theirs

abbrev pub dropped_theirs : Meta → List Operation → List Operation → List Side → List Operation
dropped_theirs meta theirs mine sides = dropped (drops_theirs (buckets meta theirs mine) sides) theirs

abbrev pub kept_mine : Meta → List Operation → List Operation → List Side → List Operation
kept_mine meta theirs mine sides = kept (drops_mine (buckets meta theirs mine) sides) mine

abbrev pub dropped_mine : Meta → List Operation → List Operation → List Side → List Operation
dropped_mine meta theirs mine sides = dropped (drops_mine (buckets meta theirs mine) sides) mine

-- theirs and mine both lead on from a good base, and there is a choice for each bucket
pub record TwoSides (meta : Meta) (base head work : State) (theirs mine : List Operation) (sides : List Side) : Type 0 where
  pub sound : Sound meta
  pub good : Good meta base
  pub theirs_lead : fold_package meta base theirs ≡ Some head
  pub mine_lead : fold_package meta base mine ≡ Some work
  pub fit : length sides ≡ length (buckets meta theirs mine)

-- What is kept of a side leads on from the base, and what is dropped of it leads from there to where the side led. What is kept of
-- both leads to the merged model, in either order.
pub record Meets (meta : Meta) (base head work : State) (theirs mine : List Operation) (sides : List Side) (by_theirs by_mine merged : State) : Type 0 where
  pub theirs_kept : fold_package meta base (kept_theirs meta theirs mine sides) ≡ Some by_theirs
  pub theirs_dropped : fold_package meta by_theirs (dropped_theirs meta theirs mine sides) ≡ Some head
  pub mine_kept : fold_package meta base (kept_mine meta theirs mine sides) ≡ Some by_mine
  pub mine_dropped : fold_package meta by_mine (dropped_mine meta theirs mine sides) ≡ Some work
  pub theirs_first : fold_package meta base (kept_theirs meta theirs mine sides ++ kept_mine meta theirs mine sides) ≡ Some merged
  pub mine_first : fold_package meta base (kept_mine meta theirs mine sides ++ kept_theirs meta theirs mine sides) ≡ Some merged

-- Cell by cell, what two packages lead to: what the one leads to where it writes, what the other leads to where that writes, and
-- what the base has where neither writes. No cell is written by both.
pub record CellByCell (meta : Meta) (base : State) (theirs mine : List Operation) (by_theirs by_mine merged : State) : Type 0 where
  pub by_one : (c : Cell) → has (package_writes meta theirs) c ≡ true → has (package_writes meta mine) c ≡ false
  pub theirs_write : (c : Cell) → IsCell c → has (package_writes meta theirs) c ≡ true → Agree meta by_theirs merged c
  pub mine_write : (c : Cell) → IsCell c → has (package_writes meta mine) c ≡ true → Agree meta by_mine merged c
  pub neither : (c : Cell) → IsCell c → has (package_writes meta theirs) c ≡ false → has (package_writes meta mine) c ≡ false → Agree meta base merged c

-- Cell by cell, against the head and the working model. Where an operation that is kept writes, the merged model has what its side
-- has there. Where one that is dropped writes, it has what the other side has. Where none that is dropped writes, it has the
-- three-way merge of both. No cell is written by what is dropped of both sides.
pub record AsChosen (meta : Meta) (base head work merged : State) (theirs mine : List Operation) (sides : List Side) : Type 0 where
  pub theirs_stay : (c : Cell) → IsCell c → has (package_writes meta (kept_theirs meta theirs mine sides)) c ≡ true → Agree meta head merged c
  pub mine_stay : (c : Cell) → IsCell c → has (package_writes meta (kept_mine meta theirs mine sides)) c ≡ true → Agree meta work merged c
  pub by_one : (c : Cell) → has (package_writes meta (dropped_theirs meta theirs mine sides)) c ≡ true
      → has (package_writes meta (dropped_mine meta theirs mine sides)) c ≡ false
  pub theirs_chosen : (c : Cell) → IsCell c → has (package_writes meta (dropped_mine meta theirs mine sides)) c ≡ true → Agree meta head merged c
  pub mine_chosen : (c : Cell) → IsCell c → has (package_writes meta (dropped_theirs meta theirs mine sides)) c ≡ true → Agree meta work merged c
  pub neither : (c : Cell) → IsCell c → has (package_writes meta (dropped_theirs meta theirs mine sides)) c ≡ false
      → has (package_writes meta (dropped_mine meta theirs mine sides)) c ≡ false → TakesAt meta base head work merged c

-- all that is said of a merged model, from the base, the head and the working model
pub record IsMerge (meta : Meta) (base head work merged : State) (theirs mine : List Operation) (sides : List Side) : Type 0 where
  pub by_theirs : State
  pub by_mine : State
  pub meets : Meets meta base head work theirs mine sides by_theirs by_mine merged
  pub good : Good meta merged
  pub cells : CellByCell meta base (kept_theirs meta theirs mine sides) (kept_mine meta theirs mine sides) by_theirs by_mine merged
  pub states : IsThreeWay base by_theirs by_mine merged
  pub unconflicted : buckets meta theirs mine ≡ [] → IsThreeWay base head work merged
  pub chosen : AsChosen meta base head work merged theirs mine sides
  pub of_either : IsOfEither head work merged
