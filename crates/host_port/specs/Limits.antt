-- How much an input may hold.
use Rattle.std.specs.Prelude.{ℕ}

-- the most bytes of a line, its line feed not counted
abbrev pub line_limit : ℕ
line_limit = 1048576

-- the most bytes of a block, line feeds counted and the line that ends it not
abbrev pub block_limit : ℕ
block_limit = 8388608

-- an input has fewer bytes than this, which is 2 ^ 40
abbrev pub input_limit : ℕ
input_limit = 1099511627776
