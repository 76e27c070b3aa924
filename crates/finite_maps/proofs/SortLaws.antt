-- A list in order is the one that its items have.
use Rattle.std.proofs.Common.{◌≡◌, ℕ, ◌+◌, ◌<◌, ◌≤◌, suc, Bool, true, false, cond, List, [], ◌∷◌, refl, sym, ap, subst, ◌∙◌, arith, length, get_or, map}
use Rattle.std.specs.Prelude.{sum_by}
use Rattle.std.specs.declared.cmp.Ordering.{Ordering}
use Rattle.std.specs.declared.cmp.Ordering.TheVariants.{Less, Equal, Greater}
use Rattle.std.specs.Ordering.{eq_by_cmp, is_eq, is_lt, ordering_reverse}
use Rattle.std.specs.List.{AllByRecursion}
use Rattle.std.specs.List.Sorted.{IsPermutation, IsSorted}
use Rattle.std.proofs.lemmas.List.Sorted.{sorted_far, ranks_by, sum_by-IsPermutation}
use Rattle.std.proofs.lemmas.List.Sums.{sum_by-cons}
use Rattle.finite_maps.specs.Maps.{tally}
use Rattle.finite_maps.specs.Sorts.{put_in, in_order}
use Rattle.finite_maps.proofs.MapLaws.{IsKeyOrder, same_key, own_key}

module _ {X : Type 0} where
  tally_is : (p : X → Bool) (xs : List X) → tally p xs ≡ sum_by (λ x. cond (p x) 1 0) xs
  tally_is p [] = refl
  tally_is p (x ∷ xs) = ap (λ n. cond (p x) 1 0 + n) (tally_is p xs) ∙ sym (sum_by-cons (λ x. cond (p x) 1 0) x xs)

  -- an order of the items does not change how many pass a test
  pub tally_permuted : (p : X → Bool) (xs ys : List X) → IsPermutation xs ys → tally p ys ≡ tally p xs
  tally_permuted p xs ys h = tally_is p ys ∙ sum_by-IsPermutation (λ x. cond (p x) 1 0) xs ys h ∙ sym (tally_is p xs)

  pub tally-map : {Y : Type 0} (p : X → Bool) (h : Y → X) (ys : List Y) → tally p (map h ys) ≡ tally (λ y. p (h y)) ys
  tally-map p h [] = refl
  tally-map p h (y ∷ ys) = ap (λ n. cond (p (h y)) 1 0 + n) (tally-map p h ys)

swap_sums : (a b n : ℕ) → a + (b + n) ≡ b + (a + n)
swap_sums a b n = omega arith

module _ {X : Type 0} (cmp : X → X → Ordering) where
  pub tally-put_in : (p : X → Bool) (x : X) (ys : List X) → tally p (put_in cmp x ys) ≡ cond (p x) 1 0 + tally p ys
  tally-put_in p x [] = refl
  tally-put_in p x (y ∷ ys) =
      elim (is_lt (cmp y x)) as (λ b. tally p (cond b (y ∷ put_in cmp x ys) (x ∷ y ∷ ys)) ≡ cond (p x) 1 0 + tally p (y ∷ ys)) [
        | true ↦ ap (λ n. cond (p y) 1 0 + n) (tally-put_in p x ys) ∙ swap_sums (cond (p y) 1 0) (cond (p x) 1 0) (tally p ys)
        | false ↦ refl
      ]

  -- each item is at most those after it
  abbrev pub Rises : List X → Type 0
  Rises [] = Unit {0}
  Rises (x ∷ xs) = AllByRecursion (λ y. is_lt (cmp y x) ≡ false) xs × Rises xs

  pub tally-in_order : (p : X → Bool) (xs : List X) → tally p (in_order cmp xs) ≡ tally p xs
  tally-in_order p [] = refl
  tally-in_order p (x ∷ xs) = tally-put_in p x (in_order cmp xs) ∙ ap (λ n. cond (p x) 1 0 + n) (tally-in_order p xs)

is_less : (o : Ordering) → is_lt o ≡ true → o ≡ Less
is_less Less h = refl
is_less Equal h = cc
is_less Greater h = cc

less_not : (o : Ordering) → o ≡ Less → is_lt (ordering_reverse o) ≡ false
less_not Less h = refl
less_not Equal h = cc
less_not Greater h = cc

neither : (o : Ordering) → is_lt o ≡ false → is_lt (ordering_reverse o) ≡ false → o ≡ Equal
neither Less g h = cc
neither Equal g h = refl
neither Greater g h = cc

here_or : (b : Bool) (n m k : ℕ) → cond b 1 0 + n ≡ k → k ≡ 1 + m → (b ≡ false → n ≡ 1 + m)
here_or true n m k e f g = cc
here_or false n m k e f g = omega arith

no_more : (n : ℕ) → n ≡ 1 + n → ⊥
no_more n h = omega arith

both_so : (b : Bool) → b ≡ true → b ≡ false → ⊥
both_so true g h = cc
both_so false g h = cc

same_rest : (a n m : ℕ) → a + n ≡ a + m → n ≡ m
same_rest a n m h = omega arith

not_zero : (a n : ℕ) → a ≡ 1 → a + n ≡ 0 → ⊥
not_zero a n h g = omega arith

module _ {X : Type 0} {cmp : X → X → Ordering} (o : IsKeyOrder cmp) where
  turned : (x y : X) → cmp y x ≡ ordering_reverse (cmp x y)
  turned x y = o.total.antisymm y x

  rises_after : (x : X) (y : X) (ys : List X) → is_lt (cmp y x) ≡ false → AllByRecursion (λ z. is_lt (cmp z y) ≡ false) ys
      → AllByRecursion (λ z. is_lt (cmp z x) ≡ false) ys
  rises_after x y [] h all = tt
  rises_after x y (z ∷ zs) h all = (
    elim (is_lt (cmp z x)) as (λ b. is_lt (cmp z x) ≡ b → b ≡ false) [
      | true ↦ λ e. absurd (between x y z h all.0 (is_less (cmp z x) e))
      | false ↦ λ _. refl
    ] refl,
    rises_after x y zs h all.1,
  )
    where
      between : (x y z : X) → is_lt (cmp y x) ≡ false → is_lt (cmp z y) ≡ false → cmp z x ≡ Less → ⊥
      between x y z h g e =
          elim (cmp y x) as (λ r. cmp y x ≡ r → ⊥) [
            | Less ↦ λ is. both_so (is_lt (cmp y x)) (ap is_lt is) h
            | Equal ↦ λ is. both_so (is_lt (cmp z y))
                (ap is_lt (turned y z ∙ ap ordering_reverse (o.total.congr y x z is ∙ turned z x ∙ ap ordering_reverse e))) g
            | Greater ↦ λ is. both_so (is_lt (cmp z y)) (ap is_lt (o.total.trans z x y e (turned y x ∙ ap ordering_reverse is))) g
          ] refl

  all-put_in : (P : X → Type 0) (x : X) (ys : List X) → P x → AllByRecursion P ys → AllByRecursion P (put_in cmp x ys)
  all-put_in P x [] here all = (here, tt)
  all-put_in P x (y ∷ ys) here all =
      elim (is_lt (cmp y x)) as (λ b. AllByRecursion P (cond b (y ∷ put_in cmp x ys) (x ∷ y ∷ ys))) [
        | true ↦ (all.0, all-put_in P x ys here all.1)
        | false ↦ (here, all)
      ]

  rises-put_in : (x : X) (ys : List X) → Rises cmp ys → Rises cmp (put_in cmp x ys)
  rises-put_in x [] h = (tt, tt)
  rises-put_in x (y ∷ ys) h =
      elim (is_lt (cmp y x)) as (λ b. is_lt (cmp y x) ≡ b → Rises cmp (cond b (y ∷ put_in cmp x ys) (x ∷ y ∷ ys))) [
        | true ↦ λ e. (all-put_in (λ z. is_lt (cmp z y) ≡ false) x ys (ap is_lt (turned y x) ∙ less_not (cmp y x) (is_less _ e)) h.0, rises-put_in x ys h.1)
        | false ↦ λ e. ((e, rises_after x y ys e h.0), h)
      ] refl

  pub rises-in_order : (xs : List X) → Rises cmp (in_order cmp xs)
  rises-in_order [] = tt
  rises-in_order (x ∷ xs) = rises-put_in x (in_order cmp xs) (rises-in_order xs)

  -- where an item stands in a list that rises, its first item is not above it
  first_least : (x : X) (ys : List X) (y : X) → AllByRecursion (λ z. is_lt (cmp z y) ≡ false) ys → (n : ℕ) → tally (eq_by_cmp cmp x) (y ∷ ys) ≡ 1 + n
      → is_lt (cmp x y) ≡ false
  first_least x ys y all n h =
      elim (eq_by_cmp cmp x y) as (λ b. eq_by_cmp cmp x y ≡ b → is_lt (cmp x y) ≡ false) [
        | true ↦ λ e. tied (cmp x y) e
        | false ↦ λ e. later ys all (here_or (eq_by_cmp cmp x y) (tally (eq_by_cmp cmp x) ys) n _ refl h e)
      ] refl
    where
      tied : (r : Ordering) → is_eq r ≡ true → is_lt r ≡ false
      tied Less h = cc
      tied Equal h = refl
      tied Greater h = refl

      none : (n : ℕ) → ◌≡◌ {A = ℕ} 0 (1 + n) → ⊥
      none n h = omega arith

      later : (zs : List X) → AllByRecursion (λ z. is_lt (cmp z y) ≡ false) zs → tally (eq_by_cmp cmp x) zs ≡ 1 + n → is_lt (cmp x y) ≡ false
      later [] all h = absurd (none n h)
      later (z ∷ zs) all h =
          elim (eq_by_cmp cmp x z) as (λ b. eq_by_cmp cmp x z ≡ b → is_lt (cmp x y) ≡ false) [
            | true ↦ λ e. subst (λ w. is_lt (cmp w y) ≡ false) (sym (same_key o x z e)) all.0
            | false ↦ λ e. later zs all.1 (here_or (eq_by_cmp cmp x z) (tally (eq_by_cmp cmp x) zs) n _ refl h e)
          ] refl

  -- two lists that rise and have the same items are one
  pub same_risen : (xs ys : List X) → Rises cmp xs → Rises cmp ys → ((p : X → Bool) → tally p xs ≡ tally p ys) → xs ≡ ys
  same_risen [] [] g h e = refl
  same_risen [] (y ∷ ys) g h e = absurd (not_zero (cond (eq_by_cmp cmp y y) 1 0) _ (ap (λ b. cond b 1 0) (own_key o y)) (sym (e (eq_by_cmp cmp y))))
  same_risen (x ∷ xs) [] g h e = absurd (not_zero (cond (eq_by_cmp cmp x x) 1 0) _ (ap (λ b. cond b 1 0) (own_key o x)) (e (eq_by_cmp cmp x)))
  same_risen (x ∷ xs) (y ∷ ys) g h e =
      let low : is_lt (cmp x y) ≡ false =
      first_least x ys y h.0 (tally (eq_by_cmp cmp x) xs)
      (sym (e (eq_by_cmp cmp x)) ∙ ap (λ b. cond b 1 0 + tally (eq_by_cmp cmp x) xs) (own_key o x)) in
      let high : is_lt (cmp y x) ≡ false =
      first_least y xs x g.0 (tally (eq_by_cmp cmp y) ys) (e (eq_by_cmp cmp y) ∙ ap (λ b. cond b 1 0 + tally (eq_by_cmp cmp y) ys) (own_key o y)) in
      let same : x ≡ y = o.exact x y (neither (cmp x y) low (sym (ap is_lt (turned x y)) ∙ high)) in
      let rest : xs ≡ ys = same_risen xs ys g.1 h.1
      (λ p. same_rest (cond (p x) 1 0) (tally p xs) (tally p ys) (e p ∙ ap (λ z. cond (p z) 1 0 + tally p ys) (sym same))) in
      λ i. same i ∷ rest i

  rises_along : (xs : List X) → ((i j : ℕ) (d : X) → i ≤ j → j < length xs → is_lt (cmp (get_or xs j d) (get_or xs i d)) ≡ false) → Rises cmp xs
  rises_along [] h = tt
  rises_along (x ∷ xs) h = (
    heads xs (λ j d lt. h 0 (suc j) d (omega arith) (omega (arith, lt))),
    rises_along xs (λ i j d le lt. h (suc i) (suc j) d (omega (arith, le)) (omega (arith, lt))),
  )
    where
      heads : (zs : List X) → ((j : ℕ) (d : X) → j < length zs → is_lt (cmp (get_or zs j d) x) ≡ false) → AllByRecursion (λ y. is_lt (cmp y x) ≡ false) zs
      heads [] h = tt
      heads (z ∷ zs) h = (h 0 z (omega arith), heads zs (λ j d lt. h (suc j) d (omega (arith, lt))))

  -- what a sort gives
  pub sorted_is : (xs ys : List X) → IsPermutation xs ys → IsSorted cmp ys → ys ≡ in_order cmp xs
  sorted_is xs ys moved up = same_risen ys (in_order cmp xs)
      (rises_along ys (sorted_far (λ x y. is_lt (cmp x y)) (ranks_by o.total (λ x. x)) ys up))
      (rises-in_order xs)
      (λ p. tally_permuted p xs ys moved ∙ sym (tally-in_order cmp p xs))
