-- A list that four others are pushed to, one after another.
use Rattle.std.proofs.Common.{◌≡◌, List, [], ◌++◌, ap, ◌∙◌, append_assoc}

pub four : {X : Type 0} (s₀ s₁ s₂ s₃ s₄ p q r t : List X) → s₀ ≡ [] → s₁ ≡ s₀ ++ p → s₂ ≡ s₁ ++ q → s₃ ≡ s₂ ++ r → s₄ ≡ s₃ ++ t → s₄ ≡ p ++ (q ++ (r ++ t))
four s₀ s₁ s₂ s₃ s₄ p q r t none first second third fourth =
    fourth ∙ ap (λ l. l ++ t) (third ∙ ap (λ l. l ++ r) (second ∙ ap (λ l. l ++ q) (first ∙ ap (λ l. l ++ p) none)))
    ∙ append_assoc (p ++ q) r t ∙ append_assoc p q (r ++ t)
