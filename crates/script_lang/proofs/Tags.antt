-- Which words are tags'.
use Rattle.std.proofs.Common.{◌≡◌, ◌≢◌, ℕ, List, [], ◌∷◌, None, refl, arith}
use Rattle.script_lang.specs.Command.{tag_of}

-- a word that does not begin with `@` is no tag's
pub no_tag : (bs : List ℕ) → ((rest : List ℕ) → bs ≢ 64 ∷ rest) → tag_of bs ≡ None
no_tag [] other = refl
no_tag (b ∷ bs) other = grind (arith, other bs)
