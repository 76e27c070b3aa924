-- Lists by index: what is left of a list, and the names at indices.
use Rattle.std.proofs.Common.{◌≡◌, ℕ, zero, suc, ◌+◌, ◌<◌, ◌≤◌, Bool, true, false, ◌||◌, not, List, [], ◌∷◌, ◌++◌, length, drop, take, refl, sym, ap}
use Rattle.std.proofs.Common.{subst, ◌∙◌, arith, nat_eq}
use Rattle.std.specs.Prelude.{Some, slice_get}
use Rattle.std.specs.List.{list_any, count_by}
use Rattle.std.proofs.lemmas.List.Sums.{sum_by-append}
use Rattle.finite_maps.specs.Equal.{text_eq}
use Rattle.finite_maps.proofs.Cases.{not_so, not_true, true_false, or_first, or_second}
use Rattle.finite_maps.proofs.EqualLaws.{and_first, and_second, apart, nat_equality, text_equality}
use Rattle.model_state.specs.Keys.{IdBytes}
use Rattle.import_laws.specs.Names.{name_at}
use Rattle.import_laws.specs.Laws.{ids_differ}

pub or_later : (a b : Bool) → b ≡ true → a || b ≡ true
or_later true b h = refl
or_later false b h = h

-- ---- what is left of a list after its first n
module _ {X : Type 0} where
  pub drop_none : (xs : List X) → drop 0 xs ≡ xs
  drop_none [] = refl
  drop_none (x ∷ xs) = refl

  pub take_none : (xs : List X) → take 0 xs ≡ []
  take_none [] = refl
  take_none (x ∷ xs) = refl

  pub drop_at : (n : ℕ) (xs : List X) (r : X) (rest : List X) → drop n xs ≡ r ∷ rest → slice_get xs n ≡ Some r
  drop_at zero [] r rest h = cc
  drop_at (suc n) [] r rest h = cc
  drop_at zero (x ∷ xs) r rest h = cc
  drop_at (suc n) (x ∷ xs) r rest h = drop_at n xs r rest h

  pub drop_less : (n : ℕ) (xs : List X) (r : X) (rest : List X) → drop n xs ≡ r ∷ rest → n < length xs
  drop_less zero [] r rest h = cc
  drop_less (suc n) [] r rest h = cc
  drop_less zero (x ∷ xs) r rest h = omega arith
  drop_less (suc n) (x ∷ xs) r rest h = let less = drop_less n xs r rest h in omega (arith, less)

  pub drop_next : (n : ℕ) (xs : List X) (r : X) (rest : List X) → drop n xs ≡ r ∷ rest → drop (suc n) xs ≡ rest
  drop_next zero [] r rest h = cc
  drop_next (suc n) [] r rest h = cc
  drop_next zero (x ∷ xs) r rest h = cc
  drop_next (suc n) (x ∷ xs) r rest h = drop_next n xs r rest h

  pub drop_parts : (n : ℕ) (xs : List X) (r : X) (rest : List X) → drop n xs ≡ r ∷ rest → xs ≡ take n xs ++ (r ∷ rest)
  drop_parts zero [] r rest h = cc
  drop_parts (suc n) [] r rest h = cc
  drop_parts zero (x ∷ xs) r rest h = h
  drop_parts (suc n) (x ∷ xs) r rest h = ap (λ ys. x ∷ ys) (drop_parts n xs r rest h)

  pub take_next : (n : ℕ) (xs : List X) (r : X) (rest : List X) → drop n xs ≡ r ∷ rest → take (suc n) xs ≡ take n xs ++ (r ∷ [])
  take_next zero [] r rest h = cc
  take_next (suc n) [] r rest h = cc
  take_next zero (x ∷ xs) r rest h = cc
  take_next (suc n) (x ∷ xs) r rest h = ap (λ ys. x ∷ ys) (take_next n xs r rest h)

  pub drop_all : (n : ℕ) (xs : List X) → drop n xs ≡ [] → length xs ≤ n
  drop_all zero [] h = omega arith
  drop_all (suc n) [] h = omega arith
  drop_all zero (x ∷ xs) h = cc
  drop_all (suc n) (x ∷ xs) h = let rest = drop_all n xs h in omega (arith, rest)

  pub at_less : (xs : List X) (n : ℕ) (r : X) → slice_get xs n ≡ Some r → n < length xs
  at_less [] n r h = cc
  at_less (x ∷ xs) zero r h = omega arith
  at_less (x ∷ xs) (suc n) r h = let less = at_less xs n r h in omega (arith, less)

  -- how many of the first n + 1 pass
  pub count_next : (p : X → Bool) (n : ℕ) (xs : List X) (r : X) (rest : List X) → drop n xs ≡ r ∷ rest
      → count_by p (take (suc n) xs) ≡ count_by p (take n xs) + count_by p (r ∷ [])
  count_next p n xs r rest h = ap (count_by p) (take_next n xs r rest h) ∙ sum_by-append _ (take n xs) (r ∷ [])

  -- no more than of all
  pub count_within : (p : X → Bool) (n : ℕ) (xs : List X) (r : X) (rest : List X) → drop n xs ≡ r ∷ rest
      → count_by p (take n xs) + count_by p (r ∷ []) ≤ count_by p xs
  count_within p n xs r rest h =
      let whole : count_by p xs ≡ count_by p (take n xs) + count_by p (r ∷ rest) =
      ap (count_by p) (drop_parts n xs r rest h) ∙ sum_by-append _ (take n xs) (r ∷ rest) in
      let parts : count_by p (r ∷ rest) ≡ count_by p (r ∷ []) + count_by p rest = sum_by-append _ (r ∷ []) rest in
      fewer _ _ _ _ _ whole parts
    where
      fewer : (w t a b c : ℕ) → w ≡ t + a → a ≡ b + c → t + b ≤ w
      fewer w t a b c p q = omega arith

-- ---- names at indices
pub named : (names : List IdBytes) (i : ℕ) → i < length names → slice_get names i ≡ Some (name_at names i)
named [] i h = absurd (omega arith)
named (x ∷ xs) zero h = refl
named (x ∷ xs) (suc i) h = named xs i (omega arith)

pub none_at : (p : IdBytes → Bool) (names : List IdBytes) (i : ℕ) → list_any p names ≡ false → i < length names → p (name_at names i) ≡ false
none_at p [] i none h = absurd (omega arith)
none_at p (x ∷ xs) zero none h = or_first (p x) _ none
none_at p (x ∷ xs) (suc i) none h = none_at p xs i (or_second (p x) _ none) (omega arith)

pub one_at : (names : List IdBytes) → ids_differ names ≡ true → (i j : ℕ) → i < length names → j < length names
    → text_eq (name_at names i) (name_at names j) ≡ true → i ≡ j
one_at [] ok i j h g e = absurd (omega arith)
one_at (x ∷ xs) ok zero zero h g e = refl
one_at (x ∷ xs) ok zero (suc j) h g e =
    absurd (true_false (text_eq x (name_at xs j)) e (none_at (text_eq x) xs j (not_true (list_any (text_eq x) xs) (and_first _ _ ok)) (omega arith)))
one_at (x ∷ xs) ok (suc i) zero h g e =
    absurd (true_false (text_eq (name_at xs i) x) e
    (apart text_eq text_equality x (name_at xs i) (none_at (text_eq x) xs i (not_true (list_any (text_eq x) xs) (and_first _ _ ok)) (omega arith))))
one_at (x ∷ xs) ok (suc i) (suc j) h g e = ap suc (one_at xs (and_second (not (list_any (text_eq x) xs)) _ ok) i j (omega arith) (omega arith) e)

-- the names at two indices are the same where the indices are
pub same_at : (names : List IdBytes) → ids_differ names ≡ true → (i j : ℕ) → i < length names → j < length names
    → text_eq (name_at names i) (name_at names j) ≡ nat_eq i j
same_at names ok i j h g =
    elim (text_eq (name_at names i) (name_at names j)) as (λ b. text_eq (name_at names i) (name_at names j) ≡ b → b ≡ nat_eq i j) [
      | true ↦ λ e. sym (ap (nat_eq i) (sym (one_at names ok i j h g e)) ∙ nat_equality.own i)
      | false ↦ λ e. sym (not_so (nat_eq i j)
          (λ same. true_false (text_eq (name_at names i) (name_at names j))
          (subst (λ k. text_eq (name_at names i) (name_at names k) ≡ true) (nat_equality.exact i j same) (text_equality.own (name_at names i))) e))
    ] refl

pub differ_at : (names : List IdBytes) → ids_differ names ≡ true → (i j : ℕ) → i < length names → j < length names → (i ≡ j → ⊥)
    → text_eq (name_at names i) (name_at names j) ≡ false
differ_at names ok i j h g other = not_so (text_eq (name_at names i) (name_at names j)) (λ e. other (one_at names ok i j h g e))
