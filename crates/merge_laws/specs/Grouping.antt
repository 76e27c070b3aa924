-- What a merge needs of buckets.
use Rattle.std.specs.Prelude.{◌≡◌, ℕ, Bool, true, false, List, [], ◌∷◌, Some, slice_get, nat_eq, ◌&&◌}
use Rattle.std.specs.List.{list_any}
use Rattle.ecore_meta.specs.Meta.{Meta}
use Rattle.model_state.specs.declared.operation.Operation.{Operation}
use Rattle.footprint.specs.Interference.{interferes}
use Rattle.footprint.specs.declared.bucket.Bucket.{Bucket}

-- the position is one of these
abbrev pub is_in : ℕ → List ℕ → Bool
is_in i xs = list_any (nat_eq i) xs

-- the two positions of theirs are in the same buckets
abbrev pub SameTheirs : List Bucket → ℕ → ℕ → Type 0
SameTheirs [] i j = Unit {0}
SameTheirs (b ∷ bs) i j = (is_in i b.theirs ≡ is_in j b.theirs) × SameTheirs bs i j

-- the two positions of mine are in the same buckets
abbrev pub SameMine : List Bucket → ℕ → ℕ → Type 0
SameMine [] i j = Unit {0}
SameMine (b ∷ bs) i j = (is_in i b.mine ≡ is_in j b.mine) × SameMine bs i j

-- a position of theirs and one of mine are in one bucket
abbrev pub shares : List Bucket → ℕ → ℕ → Bool
shares bs i k = list_any (λ b. is_in i b.theirs && is_in k b.mine) bs

-- the position of theirs is in one of the buckets
abbrev pub in_theirs : ℕ → List Bucket → Bool
in_theirs i bs = list_any (λ b. is_in i b.theirs) bs

-- the position of mine is in one of the buckets
abbrev pub in_mine : ℕ → List Bucket → Bool
in_mine k bs = list_any (λ b. is_in k b.mine) bs

-- a position of either side that is in a bucket is in no later one
abbrev pub AreSeparate : List Bucket → Type 0
AreSeparate [] = Unit {0}
AreSeparate (b ∷ bs) = ((i : ℕ) → is_in i b.theirs ≡ true → in_theirs i bs ≡ false) × ((k : ℕ) → is_in k b.mine ≡ true → in_mine k bs ≡ false) × AreSeparate bs

-- operations that interfere are in the same buckets, and in one where they are of both sides
pub record GroupInterfering (meta : Meta) (theirs mine : List Operation) (bs : List Bucket) : Type 0 where
  pub among_theirs : (i j : ℕ) (a b : Operation) → slice_get theirs i ≡ Some a → slice_get theirs j ≡ Some b → interferes meta a b ≡ true → SameTheirs bs i j
  pub among_mine : (i j : ℕ) (a b : Operation) → slice_get mine i ≡ Some a → slice_get mine j ≡ Some b → interferes meta a b ≡ true → SameMine bs i j
  pub across : (i k : ℕ) (a b : Operation) → slice_get theirs i ≡ Some a → slice_get mine k ≡ Some b → interferes meta a b ≡ true → shares bs i k ≡ true
