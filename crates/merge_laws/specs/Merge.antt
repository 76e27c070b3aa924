-- What the choices keep and drop, and the lists of an update and a merge.
use Rattle.std.specs.Prelude.{ℕ, suc, Bool, false, List, [], ◌∷◌, ◌++◌, Option, cond, ◌||◌}
use Rattle.ecore_meta.specs.Meta.{Meta}
use Rattle.model_state.specs.State.{State}
use Rattle.model_state.specs.declared.operation.Operation.{Operation}
use Rattle.model_state.specs.Packages.{fold_package, rev_package}
use Rattle.footprint.specs.declared.bucket.Bucket.{Bucket}
use Rattle.merge_laws.specs.Grouping.{is_in}
use Rattle.merge_laws.specs.declared.side.Side.{Side}
use Rattle.merge_laws.specs.declared.side.Side.TheVariants.{Mine, Theirs}

-- the position of theirs is in a bucket that keeps mine
abbrev pub drops_theirs : List Bucket → List Side → ℕ → Bool
drops_theirs [] sides i = false
drops_theirs (b ∷ bs) [] i = false
drops_theirs (b ∷ bs) (Mine ∷ sides) i = is_in i b.theirs || drops_theirs bs sides i
drops_theirs (b ∷ bs) (Theirs ∷ sides) i = drops_theirs bs sides i

-- the position of mine is in a bucket that keeps theirs
abbrev pub drops_mine : List Bucket → List Side → ℕ → Bool
drops_mine [] sides k = false
drops_mine (b ∷ bs) [] k = false
drops_mine (b ∷ bs) (Theirs ∷ sides) k = is_in k b.mine || drops_mine bs sides k
drops_mine (b ∷ bs) (Mine ∷ sides) k = drops_mine bs sides k

-- the operations at the positions that pass the test
abbrev pub dropped : (ℕ → Bool) → List Operation → List Operation
dropped p [] = []
dropped p (o ∷ os) = cond (p 0) (o ∷ dropped (λ i. p (suc i)) os) (dropped (λ i. p (suc i)) os)

-- the operations at the positions that do not pass the test
abbrev pub kept : (ℕ → Bool) → List Operation → List Operation
kept p [] = []
kept p (o ∷ os) = cond (p 0) (kept (λ i. p (suc i)) os) (o ∷ kept (λ i. p (suc i)) os)

-- the model that the choices mean, from the state where both begin
abbrev pub merged : Meta → State → List Operation → List Operation → List Bucket → List Side → Option State
merged meta base theirs mine bs sides = fold_package meta base (kept (drops_theirs bs sides) theirs ++ kept (drops_mine bs sides) mine)

-- what an update makes the local list, after theirs
abbrev pub update_list : List Operation → List Operation → List Bucket → List Side → List Operation
update_list theirs mine bs sides = rev_package (dropped (drops_theirs bs sides) theirs) ++ kept (drops_mine bs sides) mine

-- what a merge appends to the local list, after mine
abbrev pub merge_list : List Operation → List Operation → List Bucket → List Side → List Operation
merge_list theirs mine bs sides = rev_package (dropped (drops_mine bs sides) mine) ++ kept (drops_theirs bs sides) theirs
