-- A count that is written at one key: what it makes of the counts of all keys.
use Rattle.std.proofs.Common.{◌≡◌, ℕ, ◌+◌, Bool, true, false, cond, Option, None, Some, refl, sym, ap, subst, ◌∙◌, arith}
use Rattle.std.specs.Prelude.{unwrap_or}
use Rattle.finite_maps.proofs.EqualLaws.{IsEquality, apart}
use Rattle.value_counts.specs.Counts.{once}

module _ {K : Type 0} (eq : K → K → Bool) (is : IsEquality eq) (f g : K → Option ℕ) (k z : K) (w : Option ℕ) (same : z ≡ k)
    (written : (q : K) → g q ≡ cond (eq z q) w (f q)) where
  written_at : (q : K) → g q ≡ cond (eq k q) w (f q)
  written_at q = written q ∙ ap (λ x. cond (eq x q) w (f q)) same

  there : (q : K) → eq k q ≡ true → eq q k ≡ true
  there q at = subst (λ x. eq x k ≡ true) (is.exact k q at) (is.own k)

  -- one more is counted at the key
  pub counted_more : unwrap_or w 0 ≡ unwrap_or (f k) 0 + 1 → (q : K) → unwrap_or (g q) 0 ≡ unwrap_or (f q) 0 + once (eq q k)
  counted_more more q = ap (λ o. unwrap_or o 0) (written_at q) ∙ by_test (eq k q) refl
    where
      by_test : (b : Bool) → eq k q ≡ b → unwrap_or (cond b w (f q)) 0 ≡ unwrap_or (f q) 0 + once (eq q k)
      by_test true at = more ∙ ap (λ x. unwrap_or (f x) 0 + 1) (is.exact k q at) ∙ ap (λ b. unwrap_or (f q) 0 + once b) (sym (there q at))
      by_test false at =
          let none : unwrap_or (f q) 0 ≡ unwrap_or (f q) 0 + 0 = omega arith in
          none ∙ ap (λ b. unwrap_or (f q) 0 + once b) (sym (apart eq is k q at))

  -- one less is
  pub counted_less : unwrap_or (f k) 0 ≡ unwrap_or w 0 + 1 → (q : K) → unwrap_or (f q) 0 ≡ unwrap_or (g q) 0 + once (eq q k)
  counted_less less q = by_test (eq k q) refl ∙ ap (λ o. unwrap_or o 0 + once (eq q k)) (sym (written_at q))
    where
      by_test : (b : Bool) → eq k q ≡ b → unwrap_or (f q) 0 ≡ unwrap_or (cond b w (f q)) 0 + once (eq q k)
      by_test true at =
          ap (λ x. unwrap_or (f x) 0) (sym (is.exact k q at)) ∙ less ∙ ap (λ b. unwrap_or w 0 + once b) (sym (there q at))
      by_test false at =
          let none : unwrap_or (f q) 0 ≡ unwrap_or (f q) 0 + 0 = omega arith in
          none ∙ ap (λ b. unwrap_or (f q) 0 + once b) (sym (apart eq is k q at))
