-- What the side chosen for one bucket drops.
use Rattle.std.specs.Prelude.{ℕ, Bool, false}
use Rattle.footprint.specs.declared.bucket.Bucket.{Bucket}
use Rattle.merge_laws.specs.Grouping.{is_in}
use Rattle.merge_laws.specs.declared.side.Side.{Side}
use Rattle.merge_laws.specs.declared.side.Side.TheVariants.{Mine, Theirs}

-- the side chosen for a bucket drops the place of theirs
abbrev pub bucket_theirs : Bucket → Side → ℕ → Bool
bucket_theirs b Mine i = is_in i b.theirs
bucket_theirs b Theirs i = false

-- the side chosen for a bucket drops the place of mine
abbrev pub bucket_mine : Bucket → Side → ℕ → Bool
bucket_mine b Mine i = false
bucket_mine b Theirs i = is_in i b.mine
