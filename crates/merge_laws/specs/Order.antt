-- The order of buckets and of the positions in them.
use Rattle.std.specs.Prelude.{ℕ, ◌<◌, List, [], ◌∷◌, ◌++◌, take}
use Rattle.footprint.specs.declared.bucket.Bucket.{Bucket}

-- each position of the list is above the number
abbrev pub Above : ℕ → List ℕ → Type 0
Above x [] = Unit {0}
Above x (y ∷ ys) = (x < y) × Above x ys

-- each position is above those before it
abbrev pub Rising : List ℕ → Type 0
Rising [] = Unit {0}
Rising (x ∷ xs) = Above x xs × Rising xs

-- the positions of each bucket rise on both sides
abbrev pub AllRising : List Bucket → Type 0
AllRising [] = Unit {0}
AllRising (b ∷ bs) = Rising b.theirs × Rising b.mine × AllRising bs

-- the first position of each bucket, which is one of theirs
abbrev pub firsts : List Bucket → List ℕ
firsts [] = []
firsts (b ∷ bs) = take 1 b.theirs ++ firsts bs

-- positions rise in each bucket, and so do the buckets' first positions
pub record InOrder (bs : List Bucket) : Type 0 where
  pub rising : AllRising bs
  pub order : Rising (firsts bs)
