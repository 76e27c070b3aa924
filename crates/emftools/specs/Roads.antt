-- Where the words of the command line are answered.
use Rattle.std.specs.Prelude.{ℕ, ◌&&◌, ◌||◌, List, ◌∷◌, codes, Bool, false}
use Rattle.std.specs.Str.{bytes_eq}

-- a form that may stand after the word `beside`
abbrev pub may_stand_beside : List ℕ → Bool
may_stand_beside name = bytes_eq name (codes "query") || (bytes_eq name (codes "blame") || bytes_eq name (codes "replay"))

-- that word, and such a form
abbrev pub are_beside : List (List ℕ) → Bool
are_beside (first ∷ second ∷ more) = bytes_eq first (codes "beside") && may_stand_beside second
are_beside words = false
