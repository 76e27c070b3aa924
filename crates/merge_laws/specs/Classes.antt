-- The components of interfering operations, and what it means that buckets are these.
use Rattle.std.specs.Prelude.{◌≡◌, ℕ, ◌+◌, ◌<◌, true, List, [], ◌∷◌, ◌++◌, Some, length, slice_get}
use Rattle.ecore_meta.specs.Meta.{Meta}
use Rattle.model_state.specs.declared.operation.Operation.{Operation}
use Rattle.footprint.specs.Interference.{interferes}
use Rattle.footprint.specs.declared.bucket.Bucket.{Bucket}
use Rattle.merge_laws.specs.Grouping.{SameTheirs, SameMine, shares}

-- a list of positions leads from one to the other, and the operations at neighbours in it interfere
pub data Linked (meta : Meta) (os : List Operation) : ℕ → ℕ → Type 0 where
  here : {i : ℕ} → Linked meta os i i
  next : {i j k : ℕ} {a b : Operation} → Linked meta os i j → slice_get os j ≡ Some a → slice_get os k ≡ Some b → interferes meta a b ≡ true
      → Linked meta os i k

-- each bucket has operations of both sides
abbrev pub AllMixed : List Bucket → Type 0
AllMixed [] = Unit {0}
AllMixed (b ∷ bs) = (0 < length b.theirs) × (0 < length b.mine) × AllMixed bs

-- the buckets are the components of theirs ++ mine with operations of both sides
pub record AreClasses (meta : Meta) (theirs mine : List Operation) (bs : List Bucket) : Type 0 where
  pub mixed : AllMixed bs
  pub linked : (i k : ℕ) → shares bs i k ≡ true → (i < length theirs) × (k < length mine) × Linked meta (theirs ++ mine) i (length theirs + k)
  pub shared : (i k : ℕ) → i < length theirs → k < length mine → Linked meta (theirs ++ mine) i (length theirs + k) → shares bs i k ≡ true
  pub whole_theirs : (i j : ℕ) → i < length theirs → j < length theirs → Linked meta (theirs ++ mine) i j → SameTheirs bs i j
  pub whole_mine : (i j : ℕ) → i < length mine → j < length mine → Linked meta (theirs ++ mine) (length theirs + i) (length theirs + j) → SameMine bs i j
