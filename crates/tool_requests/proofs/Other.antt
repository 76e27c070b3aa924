-- Words that are neither two, three nor five are of no form.
use Rattle.std.proofs.Common.{◌≡◌, ℕ, List, [], ◌∷◌, length, refl}
use Rattle.std.specs.Prelude.{None}
use Rattle.tool_requests.specs.Words.{tool_in}

pub other_words : (words : List (List ℕ)) → (length words ≡ 2 → ⊥) → (length words ≡ 3 → ⊥) → (length words ≡ 5 → ⊥) → None ≡ tool_in words
other_words [] two three five = refl
other_words (a ∷ []) two three five = refl
other_words (a ∷ b ∷ []) two three five = absurd (two refl)
other_words (a ∷ b ∷ c ∷ []) two three five = absurd (three refl)
other_words (a ∷ b ∷ c ∷ d ∷ []) two three five = refl
other_words (a ∷ b ∷ c ∷ d ∷ e ∷ []) two three five = absurd (five refl)
other_words (a ∷ b ∷ c ∷ d ∷ e ∷ f ∷ more) two three five = refl
