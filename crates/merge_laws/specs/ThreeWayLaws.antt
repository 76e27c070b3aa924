-- What is promised of the three-way merge: an update and a merge are one, and it loses nothing.
use Rattle.std.specs.Prelude.{◌≡◌, ℕ, true, List, [], Some, length, map, slice_get}
use Rattle.ecore_meta.specs.Meta.{Meta}
use Rattle.model_state.specs.Keys.{IdBytes}
use Rattle.model_state.specs.State.{State}
use Rattle.model_state.specs.Good.{Good, Sound}
use Rattle.model_state.specs.Packages.{fold_package}
use Rattle.model_state.specs.declared.operation.Operation.{Operation}
use Rattle.footprint.specs.Buckets.{buckets}
use Rattle.footprint.specs.Interference.{NoPair}
use Rattle.footprint.specs.declared.bucket.Bucket.{Bucket}
use Rattle.merge_laws.specs.Grouping.{is_in}
use Rattle.merge_laws.specs.declared.side.Side.{Side}
use Rattle.merge_laws.specs.Merge.{drops_theirs, drops_mine}
use Rattle.merge_laws.specs.Choices.{are_choices, side_of}
use Rattle.merge_laws.specs.ThreeWay.{IsThreeWay, KeepsChanges, KeepsElement, kept_theirs, kept_mine, dropped_theirs, dropped_mine, TwoSides, Meets}
use Rattle.merge_laws.specs.ThreeWay.{CellByCell, AsChosen, IsOfEither}

-- No operation that is kept interferes with one that is kept of the other side, nor with one that is dropped of its own. No
-- operation that is dropped interferes with one that is dropped of the other side.
pub record Apart (meta : Meta) (theirs mine : List Operation) (sides : List Side) : Type 0 where
  pub kept_sides : NoPair meta (kept_theirs meta theirs mine sides) (kept_mine meta theirs mine sides)
  pub of_theirs : NoPair meta (kept_theirs meta theirs mine sides) (dropped_theirs meta theirs mine sides)
  pub of_mine : NoPair meta (kept_mine meta theirs mine sides) (dropped_mine meta theirs mine sides)
  pub dropped_sides : NoPair meta (dropped_theirs meta theirs mine sides) (dropped_mine meta theirs mine sides)

-- so it is for all choices
abbrev pub ChoicesPart : Type 0
ChoicesPart = (meta : Meta) (theirs mine : List Operation) (sides : List Side) → length sides ≡ length (buckets meta theirs mine)
    → Apart meta theirs mine sides

-- So what is kept of a side can be applied without what is dropped of it, whether or not the other side can be applied. What is
-- dropped can then be applied too, and leads to where the side led.
abbrev pub KeptSidesLead : Type 0
KeptSidesLead = (meta : Meta) → Sound meta → (base end : State) → Good meta base → (theirs mine : List Operation) (sides : List Side)
    → length sides ≡ length (buckets meta theirs mine)
    → (fold_package meta base theirs ≡ Some end
    → (k : State) × (fold_package meta base (kept_theirs meta theirs mine sides) ≡ Some k)
    × (fold_package meta k (dropped_theirs meta theirs mine sides) ≡ Some end))
    × (fold_package meta base mine ≡ Some end
    → (k : State) × (fold_package meta base (kept_mine meta theirs mine sides) ≡ Some k)
    × (fold_package meta k (dropped_mine meta theirs mine sides) ≡ Some end))

-- where both sides can be applied to the base, what is kept of both leads to one good model, in either order
abbrev pub KeptSidesMeet : Type 0
KeptSidesMeet = (meta : Meta) (base head work : State) (theirs mine : List Operation) (sides : List Side) → TwoSides meta base head work theirs mine sides
    → (by_theirs by_mine merged : State) × Meets meta base head work theirs mine sides by_theirs by_mine merged × Good meta merged

-- the merged model has at each cell what the side that writes it has there
abbrev pub MergedCellByCell : Type 0
MergedCellByCell = (meta : Meta) (base head work : State) (theirs mine : List Operation) (sides : List Side) → TwoSides meta base head work theirs mine sides
    → (by_theirs by_mine merged : State) → Meets meta base head work theirs mine sides by_theirs by_mine merged
    → CellByCell meta base (kept_theirs meta theirs mine sides) (kept_mine meta theirs mine sides) by_theirs by_mine merged

-- the merged model is the three-way merge of what the kept sides lead to
abbrev pub MergedIsThreeWay : Type 0
MergedIsThreeWay = (meta : Meta) (base head work : State) (theirs mine : List Operation) (sides : List Side) → TwoSides meta base head work theirs mine sides
    → (by_theirs by_mine merged : State) → Meets meta base head work theirs mine sides by_theirs by_mine merged → IsThreeWay base by_theirs by_mine merged

-- where there is no bucket, it is the three-way merge of the head and the working model
abbrev pub MergedWithoutConflict : Type 0
MergedWithoutConflict = (meta : Meta) (base head work : State) (theirs mine : List Operation) (sides : List Side)
    → TwoSides meta base head work theirs mine sides
    → (by_theirs by_mine merged : State) → Meets meta base head work theirs mine sides by_theirs by_mine merged → buckets meta theirs mine ≡ []
    → IsThreeWay base head work merged

-- where there are buckets, the letters choose between the head and the working model, and what is kept stays as its side has it
abbrev pub MergedAsChosen : Type 0
MergedAsChosen = (meta : Meta) (base head work : State) (theirs mine : List Operation) (sides : List Side) → TwoSides meta base head work theirs mine sides
    → (by_theirs by_mine merged : State) → Meets meta base head work theirs mine sides by_theirs by_mine merged
    → AsChosen meta base head work merged theirs mine sides

-- so each entry of the merged model is what the head has or what the working model has
abbrev pub MergedIsOfEither : Type 0
MergedIsOfEither = (meta : Meta) (base head work : State) (theirs mine : List Operation) (sides : List Side) → TwoSides meta base head work theirs mine sides
    → (by_theirs by_mine merged : State) → Meets meta base head work theirs mine sides by_theirs by_mine merged → IsOfEither head work merged

-- there is one three-way merge of two states over a base at most
abbrev pub ThreeWayIsOne : Type 0
ThreeWayIsOne = (base theirs mine m n : State) → IsThreeWay base theirs mine m → IsThreeWay base theirs mine n → m ≡ n

-- in the three-way merge, no entry that a side changed is lost
abbrev pub NoChangeIsLost : Type 0
NoChangeIsLost = (base theirs mine merged : State) → IsThreeWay base theirs mine merged → KeepsChanges base theirs mine merged

-- nor is an element
abbrev pub NoElementIsLost : Type 0
NoElementIsLost = (meta : Meta) (base theirs mine merged : State) → Good meta base → Good meta theirs → Good meta mine → IsThreeWay base theirs mine merged
    → (e : IdBytes) → KeepsElement base theirs mine merged e

-- an operation that is dropped is in a bucket whose letter is that of the other side: m for theirs, t for mine
abbrev pub OnlyLettersDrop : Type 0
OnlyLettersDrop = (bs : List Bucket) (letters : List ℕ) (i : ℕ) → are_choices letters bs ≡ true
    → (drops_theirs bs (map side_of letters) i ≡ true
    → (j : ℕ) × (b : Bucket) × (slice_get bs j ≡ Some b) × (slice_get letters j ≡ Some 109) × (is_in i b.theirs ≡ true))
    × (drops_mine bs (map side_of letters) i ≡ true
    → (j : ℕ) × (b : Bucket) × (slice_get bs j ≡ Some b) × (slice_get letters j ≡ Some 116) × (is_in i b.mine ≡ true))
