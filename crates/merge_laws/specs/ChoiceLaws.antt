-- What letters choose: the operations that they keep and drop, by their positions, and the lists of an update and of a merge.
use Rattle.std.specs.Prelude.{◌≡◌, ◌↔◌, ◌⊎◌, ℕ, suc, true, List, [], ◌∷◌, ◌++◌, map, codes, Some, slice_get, Contains}
use Rattle.model_state.specs.declared.operation.Operation.{Operation}
use Rattle.model_state.specs.Packages.{rev_package}
use Rattle.footprint.specs.declared.bucket.Bucket.{Bucket}
use Rattle.merge_laws.specs.declared.side.Side.TheVariants.{Mine, Theirs}
use Rattle.merge_laws.specs.Choices.{side_of, are_choices}
use Rattle.merge_laws.specs.Merge.{drops_theirs, drops_mine, update_list, merge_list}

-- ---- positions
-- the letter `m` keeps mine, and `t` keeps theirs
abbrev pub LettersAreSides : Type 0
LettersAreSides = map side_of (codes "mt") ≡ Mine ∷ Theirs ∷ []

-- a bucket whose letter is that one has the position, among those of a side
pub record IsInBucketOf (letter : List ℕ) (side : Bucket → List ℕ) (rows : List Bucket) (letters : List ℕ) (i : ℕ) : Type 0 where
  pub place : ℕ
  pub row : Bucket
  pub there : slice_get rows place ≡ Some row
  pub has : Contains (side row) i
  pub letter_is : slice_get letters place ≡ slice_get letter 0

-- so an operation of theirs is dropped where its bucket has the letter `m`
abbrev pub IsDroppedOfTheirs : List Bucket → List ℕ → ℕ → Type 0
IsDroppedOfTheirs = IsInBucketOf (codes "m") (λ row. row.theirs)

-- and one of mine where its bucket has the letter `t`
abbrev pub IsDroppedOfMine : List Bucket → List ℕ → ℕ → Type 0
IsDroppedOfMine = IsInBucketOf (codes "t") (λ row. row.mine)

-- where there is a letter for each bucket, these positions are dropped, and no others
abbrev pub TheirsGoByLetters : Type 0
TheirsGoByLetters = (rows : List Bucket) (letters : List ℕ) → are_choices letters rows ≡ true → (i : ℕ)
    → (drops_theirs rows (map side_of letters) i ≡ true) ↔ IsDroppedOfTheirs rows letters i

abbrev pub MineGoByLetters : Type 0
MineGoByLetters = (rows : List Bucket) (letters : List ℕ) → are_choices letters rows ≡ true → (k : ℕ)
    → (drops_mine rows (map side_of letters) k ≡ true) ↔ IsDroppedOfMine rows letters k

-- ---- lists
-- the second list has the operations of the first at the positions where that holds, in their order
abbrev pub ArePicked : (ℕ → Type 0) → List Operation → List Operation → Type 0
ArePicked Is [] picked = picked ≡ []
ArePicked Is (o ∷ os) picked =
    (Is 0 × ((rest : List Operation) × (picked ≡ o ∷ rest) × ArePicked (λ i. Is (suc i)) os rest))
    ⊎ ((Is 0 → ⊥) × ArePicked (λ i. Is (suc i)) os picked)

-- what an update makes of the local list: what is dropped of theirs is taken back, and then comes what is kept of mine
pub record IsUpdateOf (theirs mine : List Operation) (rows : List Bucket) (letters : List ℕ) (list : List Operation) : Type 0 where
  pub gone : List Operation
  pub stay : List Operation
  pub gone_are : ArePicked (IsDroppedOfTheirs rows letters) theirs gone
  pub stay_are : ArePicked (λ k. IsDroppedOfMine rows letters k → ⊥) mine stay
  pub list_is : list ≡ rev_package gone ++ stay

-- what a merge appends to the local list: what is dropped of mine is taken back, and then comes what is kept of theirs
pub record IsMergeOf (theirs mine : List Operation) (rows : List Bucket) (letters : List ℕ) (list : List Operation) : Type 0 where
  pub gone : List Operation
  pub stay : List Operation
  pub gone_are : ArePicked (IsDroppedOfMine rows letters) mine gone
  pub stay_are : ArePicked (λ i. IsDroppedOfTheirs rows letters i → ⊥) theirs stay
  pub list_is : list ≡ rev_package gone ++ stay

-- so both lists go by the letters
abbrev pub UpdatesGoByLetters : Type 0
UpdatesGoByLetters = (theirs mine : List Operation) (rows : List Bucket) (letters : List ℕ) → are_choices letters rows ≡ true
    → IsUpdateOf theirs mine rows letters (update_list theirs mine rows (map side_of letters))

abbrev pub MergesGoByLetters : Type 0
MergesGoByLetters = (theirs mine : List Operation) (rows : List Bucket) (letters : List ℕ) → are_choices letters rows ≡ true
    → IsMergeOf theirs mine rows letters (merge_list theirs mine rows (map side_of letters))
