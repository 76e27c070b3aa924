-- The next of a list, and what a list says at a place.
use Rattle.std.proofs.Common.{◌≡◌, ℕ, zero, suc, ◌+◌, ◌<◌, ◌≤◌, List, [], ◌∷◌, ◌++◌, length, drop, get_or, slice_set, add-one, drop-cons, refl, sym}
use Rattle.std.proofs.Common.{ap, ap₂, subst, ◌∙◌, arith}

-- what is left of a list is its item at the place, and what is left after it
next : {X : Type 0} (xs : List X) (i : ℕ) (x : X) → i < length xs → x ≡ get_or xs i x → drop i xs ≡ x ∷ drop (i + 1) xs
next xs i x less is = rw (add-one, drop-cons xs i x less) (ap (λ y. y ∷ drop (suc i) xs) (sym is))

pub next_of : {X : Type 0} (ys xs : List X) (i : ℕ) (x : X) → ys ≡ xs → i < length ys → x ≡ get_or ys i x → drop i xs ≡ x ∷ drop (i + 1) xs
next_of ys xs i x same less is = subst (λ zs. drop i zs ≡ x ∷ drop (i + 1) zs) same (next ys i x less is)

none_left : {X : Type 0} (xs : List X) (i : ℕ) → length xs ≤ i → drop i xs ≡ []
none_left [] zero h = refl
none_left [] (suc i) h = refl
none_left (x ∷ xs) zero h = absurd (omega arith)
none_left (x ∷ xs) (suc i) h = none_left xs i (omega arith)

pub none_left_of : {X : Type 0} (ys xs : List X) (i : ℕ) → ys ≡ xs → length ys ≤ i → drop i xs ≡ []
none_left_of ys xs i same less = subst (λ zs. drop i zs ≡ []) same (none_left ys i less)

-- ---- between others
pub set_between : {A : Type 0} (before after : List A) (x y : A) (xs : List A) (i : ℕ) → xs ≡ before ++ x ∷ after → length before ≡ i
    → slice_set xs i y ≡ before ++ y ∷ after
set_between before after x y xs i is at = ap₂ (λ zs n. slice_set zs n y) is (sym at) ∙ go before
  where
    go : (before : List _) → slice_set (before ++ x ∷ after) (length before) y ≡ before ++ y ∷ after
    go [] = refl
    go (z ∷ zs) = ap (λ l. z ∷ l) (go zs)

pub get_between : {A : Type 0} (before after : List A) (x d : A) (xs : List A) (i : ℕ) → xs ≡ before ++ x ∷ after → length before ≡ i → get_or xs i d ≡ x
get_between before after x d xs i is at = ap₂ (λ zs n. get_or zs n d) is (sym at) ∙ go before
  where
    go : (before : List _) → get_or (before ++ x ∷ after) (length before) d ≡ x
    go [] = refl
    go (z ∷ zs) = go zs
