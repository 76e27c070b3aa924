-- The form of a name: of branches, tags, composites, authors and users.
use Rattle.std.specs.Prelude.{ℕ, Bool, false, ◌&&◌, ◌||◌, ◌==◌, nat_le, List, [], ◌∷◌, length}
use Rattle.std.specs.List.{list_all}
use Rattle.std.specs.Char.{is_ascii_alphabetic, is_ascii_alphanumeric}

-- a byte that may stand after a name's first
abbrev pub is_name_byte : ℕ → Bool
is_name_byte b = is_ascii_alphanumeric b || (b == 95) || (b == 46) || (b == 45)

-- the most bytes after a name's first
abbrev pub most_name_rest : ℕ
most_name_rest = 63

-- a letter, and at most 63 letters, digits, `_`, `.` or `-`
abbrev pub is_name : List ℕ → Bool
is_name [] = false
is_name (b ∷ bs) = is_ascii_alphabetic b && nat_le (length bs) most_name_rest && list_all is_name_byte bs
