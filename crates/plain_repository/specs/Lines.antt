-- Which lines of a script are skipped, and which take a block.
use Rattle.std.specs.Prelude.{ℕ, List, [], ◌∷◌, ◌==◌, ◌||◌, Bool, true, codes}
use Rattle.std.specs.List.{before_first}
use Rattle.script_lang.specs.Words.{is_space}
use Rattle.finite_maps.specs.Equal.{text_eq}

-- an empty line and one that begins with a number sign get no reply
unfoldable pub is_skipped : List ℕ → Bool
is_skipped [] = true
is_skipped (b ∷ line) = b == 35

-- the first word is that of a command with a block
unfoldable pub takes_block : List ℕ → Bool
takes_block line =
    let word = before_first is_space line in
    text_eq word (codes "init") || text_eq word (codes "evolve") || text_eq word (codes "import") || text_eq word (codes "load")
