-- The lines that show buckets of operations in conflict.
use Rattle.std.specs.Prelude.{ℕ, suc, ◌+◌, ◌-◌, ◌^◌, ◌<◌, List, [], ◌∷◌, ◌++◌, All, codes, map}
use Rattle.std.specs.Fmt.{decimal}
use Rattle.footprint.specs.declared.bucket.Bucket.{Bucket}
use Rattle.footprint.specs.declared.bucket.Buckets.{Buckets}
use Rattle.shown_lines.specs.Lines.{after_spaces}
use Rattle.shown_lines.specs.Versions.{listed}

-- a position of an operation whose number, one more, has 64 bits
abbrev pub HasNumber : ℕ → Type 0
HasNumber place = place < 2 ^ 64 - 1

-- a bucket of such positions
abbrev pub HasNumbers : Bucket → Type 0
HasNumbers b = All HasNumber b.theirs × All HasNumber b.mine

-- buckets of such positions
abbrev pub HaveNumbers : Buckets → Type 0
HaveNumbers buckets = All HasNumbers buckets.rows

-- the numbers of operations, from 1, by their positions, from 0
abbrev pub numbers : List ℕ → List (List ℕ)
numbers places = map (λ place. decimal (place + 1)) places

-- the line of the bucket of the number n: the numbers of the operations of each side
abbrev pub bucket_line : ℕ → Bucket → List ℕ
bucket_line n b = codes "bucket" ++ after_spaces (decimal n ∷ codes "theirs" ∷ listed (numbers b.theirs) ∷ codes "mine" ∷ listed (numbers b.mine) ∷ [])

-- the lines of buckets, the first of them with the number n
abbrev pub bucket_lines_from : ℕ → List Bucket → List (List ℕ)
bucket_lines_from n [] = []
bucket_lines_from n (b ∷ bs) = bucket_line n b ∷ bucket_lines_from (suc n) bs

-- the lines of all buckets, which are numbered from 1
unfoldable pub bucket_lines : Buckets → List (List ℕ)
bucket_lines buckets = bucket_lines_from 1 buckets.rows
