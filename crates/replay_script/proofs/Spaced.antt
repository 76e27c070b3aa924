-- Words of a line, the last of which may be missing.
use Rattle.std.proofs.Common.{◌≡◌, ℕ, List, [], ◌∷◌, ◌++◌, refl, sym, append-nil}
use Rattle.script_lang.specs.Spelling.{spaced}
use Rattle.replay_script.specs.Lines.{last_word, last_part}

-- a last word follows the word before it
pub spaced_last : (word last : List ℕ) → spaced (word ∷ last_word last) ≡ word ++ last_part last
spaced_last word [] = sym (append-nil word)
spaced_last word (b ∷ bs) = refl
