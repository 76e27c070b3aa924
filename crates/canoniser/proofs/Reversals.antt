-- The test of a reversal, one step more.
use Rattle.std.proofs.Common.{◌≡◌, ◌≢◌, ℕ, zero, suc, ◌+◌, ◌-◌, ◌<◌, Bool, true, false, List, [], ◌∷◌, ◌++◌, ◌&&◌, refl, sym, ap, ◌∙◌, length, take}
use Rattle.std.proofs.Common.{drop, get_or, arith, drop-cons, length-append}
use Rattle.finite_maps.proofs.EqualLaws.{and_second}
use Rattle.finite_maps.proofs.Cases.{not_so}
use Rattle.model_state.specs.declared.step.Step.{Step}
use Rattle.model_state.specs.Steps.{rev, rev_all}
use Rattle.model_laws.proofs.Packages.{rev_append}
use Rattle.merge_laws.specs.Joins.{step_eq, steps_eq}

same_length : (xs ys : List Step) → steps_eq xs ys ≡ true → length xs ≡ length ys
same_length [] [] h = refl
same_length [] (y ∷ ys) h = cc
same_length (x ∷ xs) [] h = cc
same_length (x ∷ xs) (y ∷ ys) h = ap suc (same_length xs ys (and_second _ _ h))

rev_length : (ys : List Step) → length (rev_all ys) ≡ length ys
rev_length [] = refl
rev_length (y ∷ ys) = length-append (rev_all ys) (rev y ∷ []) ∙ ap (λ n. n + 1) (rev_length ys) ∙ one_more (length ys)
  where
    one_more : (n : ℕ) → n + 1 ≡ suc n
    one_more n = omega arith

-- lists of different lengths are no reversals
pub unlike : (xs ys : List Step) → length xs ≢ length ys → false ≡ steps_eq xs (rev_all ys)
unlike xs ys h = sym (not_so (steps_eq xs (rev_all ys)) (λ e. h (same_length xs (rev_all ys) e ∙ rev_length ys)))

take_more : (ys : List Step) (k : ℕ) (t : Step) → k < length ys → t ≡ get_or ys k t → take (suc k) ys ≡ take k ys ++ t ∷ []
take_more [] k t low is = absurd (omega (arith, low))
take_more (y ∷ ys) zero t low is = λ i. sym is i ∷ []
take_more (y ∷ ys) (suc k) t low is = ap (λ l. y ∷ l) (take_more ys k t (omega (arith, low)) is)

module _ (xs ys : List Step) (i : ℕ) (s t : Step) (size : length xs ≡ length ys) (low : i < length xs) (s_is : s ≡ get_or xs i s)
    (t_is : t ≡ get_or ys (length ys - 1 - i) t) where
  -- the first of the one and the last of the other, and the rest
  pub turn : steps_eq (drop i xs) (rev_all (take (length ys - i) ys)) ≡ step_eq s (rev t) && steps_eq (drop (i + 1) xs)
      (rev_all (take (length ys - (i + 1)) ys))
  turn =
      let k = length ys - 1 - i in
      let e : suc i ≡ i + 1 = omega arith in
      let high : length ys - i ≡ suc k = omega (arith, size, low) in
      let same : length ys - (i + 1) ≡ k = omega (arith, size, low) in
      let first : drop i xs ≡ s ∷ drop (i + 1) xs = drop-cons xs i s low ∙ (λ n. sym s_is n ∷ drop (e n) xs) in
      let last : rev_all (take (length ys - i) ys) ≡ rev t ∷ rev_all (take (length ys - (i + 1)) ys) =
      ap (λ n. rev_all (take n ys)) high ∙ ap rev_all (take_more ys k t (omega (arith, size, low)) t_is) ∙ rev_append (take k ys) (t ∷ [])
      ∙ ap (λ n. rev t ∷ rev_all (take n ys)) (sym same) in
      λ n. steps_eq (first n) (last n)

  pub differs : (whole : Bool) → whole ≡ steps_eq (drop i xs) (rev_all (take (length ys - i) ys)) → step_eq s (rev t) ≡ false → false ≡ whole
  differs whole h out = sym (h ∙ turn ∙ ap (λ b. b && steps_eq (drop (i + 1) xs) (rev_all (take (length ys - (i + 1)) ys))) out)

  pub goes_on : (whole : Bool) → whole ≡ steps_eq (drop i xs) (rev_all (take (length ys - i) ys)) → step_eq s (rev t) ≡ true
      → whole ≡ steps_eq (drop (i + 1) xs) (rev_all (take (length ys - (i + 1)) ys))
  goes_on whole h on = h ∙ turn ∙ ap (λ b. b && steps_eq (drop (i + 1) xs) (rev_all (take (length ys - (i + 1)) ys))) on
