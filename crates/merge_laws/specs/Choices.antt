-- What a user chooses where theirs and mine conflict: a letter a bucket.
use Rattle.std.specs.Prelude.{ℕ, ◌==◌, ◌&&◌, ◌||◌, List, Bool, length, if◌then◌else◌}
use Rattle.std.specs.List.{list_all}
use Rattle.footprint.specs.declared.bucket.Bucket.{Bucket}
use Rattle.merge_laws.specs.declared.side.Side.{Side}
use Rattle.merge_laws.specs.declared.side.Side.TheVariants.{Mine, Theirs}

-- is the byte `m` or `t`
abbrev pub is_choice : ℕ → Bool
is_choice letter = letter == 109 || letter == 116

-- the side that a letter keeps: mine for `m`, theirs for `t`
abbrev pub side_of : ℕ → Side
side_of letter = if letter == 109 then Mine else Theirs

-- there is a letter for each bucket, and no other byte
abbrev pub are_choices : List ℕ → List Bucket → Bool
are_choices letters rows = length letters == length rows && list_all is_choice letters
