-- What is left of a list in order once some items go.
use Rattle.std.proofs.Common.{◌≡◌, ℕ, zero, suc, ◌+◌, ◌≤◌, Bool, true, false, cond, refl, sym, ap, ◌∙◌, ◌&&◌, List, [], ◌∷◌, arith}
use Rattle.std.specs.declared.cmp.Ordering.{Ordering}
use Rattle.std.specs.Ordering.{is_lt}
use Rattle.std.specs.List.{filter, range_with_len, AllByRecursion}
use Rattle.finite_maps.specs.Maps.{tally}
use Rattle.finite_maps.proofs.SortLaws.{Rises}

module _ {X : Type 0} (p : X → Bool) where
  pub all_filter : (P : X → Type 0) (xs : List X) → AllByRecursion P xs → AllByRecursion P (filter p xs)
  all_filter P [] h = tt
  all_filter P (x ∷ xs) h =
      elim (p x) as (λ b. AllByRecursion P (cond b (x ∷ filter p xs) (filter p xs))) [
        | true ↦ (h.0, all_filter P xs h.1)
        | false ↦ all_filter P xs h.1
      ]

  pub filter_all : (xs : List X) → AllByRecursion (λ x. p x ≡ true) (filter p xs)
  filter_all [] = tt
  filter_all (x ∷ xs) =
      elim (p x) as (λ b. p x ≡ b → AllByRecursion (λ y. p y ≡ true) (cond b (x ∷ filter p xs) (filter p xs))) [
        | true ↦ λ e. (e, filter_all xs)
        | false ↦ λ e. filter_all xs
      ] refl

  pub rises_filter : (cmp : X → X → Ordering) (xs : List X) → Rises cmp xs → Rises cmp (filter p xs)
  rises_filter cmp [] h = tt
  rises_filter cmp (x ∷ xs) h =
      elim (p x) as (λ b. Rises cmp (cond b (x ∷ filter p xs) (filter p xs))) [
        | true ↦ (all_filter (λ y. is_lt (cmp y x) ≡ false) xs h.0, rises_filter cmp xs h.1)
        | false ↦ rises_filter cmp xs h.1
      ]

  pub tally_filter : (q : X → Bool) (xs : List X) → tally q (filter p xs) ≡ tally (λ x. p x && q x) xs
  tally_filter q [] = refl
  tally_filter q (x ∷ xs) =
      elim (p x) as (λ b. tally q (cond b (x ∷ filter p xs) (filter p xs)) ≡ cond (b && q x) 1 0 + tally (λ x. p x && q x) xs) [
        | true ↦ ap (λ n. cond (q x) 1 0 + n) (tally_filter q xs)
        | false ↦ tally_filter q xs ∙ none_more (tally (λ x. p x && q x) xs)
      ]
    where
      none_more : (n : ℕ) → n ≡ 0 + n
      none_more n = omega arith

  pub filter_none : (xs : List X) → tally p xs ≡ 0 → filter p xs ≡ []
  filter_none [] h = refl
  filter_none (x ∷ xs) h =
      elim (p x) as (λ b. cond b 1 0 + tally p xs ≡ 0 → cond b (x ∷ filter p xs) (filter p xs) ≡ []) [
        | true ↦ λ g. absurd (not_none (tally p xs) g)
        | false ↦ λ g. filter_none xs (rest (tally p xs) g)
      ] h
    where
      not_none : (n : ℕ) → 1 + n ≡ 0 → ⊥
      not_none n g = omega (arith, g)

      rest : (n : ℕ) → 0 + n ≡ 0 → n ≡ 0
      rest n g = omega (arith, g)

-- one order in place of another that agrees with it
pub rises_agree : {X : Type 0} (cmp cmp' : X → X → Ordering) (P : X → Type 0) → ((x y : X) → P x → P y → cmp' y x ≡ cmp y x)
    → (xs : List X) → AllByRecursion P xs → Rises cmp xs → Rises cmp' xs
rises_agree cmp cmp' P agree [] all h = tt
rises_agree {X} cmp cmp' P agree (x ∷ xs) all h = (heads xs all.1 h.0, rises_agree cmp cmp' P agree xs all.1 h.1)
  where
    heads : (ys : List X) → AllByRecursion P ys → AllByRecursion (λ y. is_lt (cmp y x) ≡ false) ys → AllByRecursion (λ y. is_lt (cmp' y x) ≡ false) ys
    heads [] a g = tt
    heads (y ∷ ys) a g = (ap is_lt (agree x y all.0 a.0) ∙ g.0, heads ys a.1 g.1)

-- the stronger of two tests is enough
pub filter_twice : (p q : ℕ → Bool) → ((x : ℕ) → p x ≡ true → q x ≡ true) → (xs : List ℕ) → filter p (filter q xs) ≡ filter p xs
filter_twice p q h [] = refl
filter_twice p q h (x ∷ xs) =
    elim (q x) as (λ b. q x ≡ b → filter p (cond b (x ∷ filter q xs) (filter q xs)) ≡ cond (p x) (x ∷ filter p xs) (filter p xs)) [
      | true ↦ λ e. ap (λ ys. cond (p x) (x ∷ ys) ys) (filter_twice p q h xs)
      | false ↦ λ e. filter_twice p q h xs ∙ ap (λ b. cond b (x ∷ filter p xs) (filter p xs)) (sym (not_p e))
    ] refl
  where
    not_p : q x ≡ false → p x ≡ false
    not_p e = elim (p x) as (λ b. p x ≡ b → b ≡ false) [ true ↦ λ g. sym (h x g) ∙ e | false ↦ λ g. refl ] refl

-- what passes a test stands before the end
pub filter_range : (p : ℕ → Bool) (a t m : ℕ) → m ≤ t → ((x : ℕ) → a + m ≤ x → p x ≡ false) → filter p (range_with_len a t) ≡ filter p (range_with_len a m)
filter_range p a zero zero h none = refl
filter_range p a zero (suc m) h none = absurd (omega arith)
filter_range p a (suc t) zero h none =
    ap (λ b. cond b (a ∷ filter p (range_with_len (a + 1) t)) (filter p (range_with_len (a + 1) t))) (none a (omega arith))
    ∙ filter_range p (a + 1) t zero (omega arith) (λ x le. none x (omega (arith, le)))
filter_range p a (suc t) (suc m) h none =
    ap (λ ys. cond (p a) (a ∷ ys) ys) (filter_range p (a + 1) t m (omega (arith, h)) (λ x le. none x (omega (arith, le))))
