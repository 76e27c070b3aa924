-- A value put into a list and taken out again.
use Rattle.std.proofs.Common.{◌≡◌, ℕ, zero, suc, ◌≤◌, Bool, true, false, List, [], ◌∷◌, length, refl, sym, ap, ◌∙◌, arith, ◌&&◌, ◌||◌}
use Rattle.std.specs.Prelude.{Some, slice_get}
use Rattle.finite_maps.proofs.EqualLaws.{and_first, and_second, and_both}
use Rattle.finite_maps.proofs.Cases.{or_first, or_second}
use Rattle.std.specs.List.{insert, remove, list_all, list_any}

pub or_none : (a b : Bool) → a ≡ false → b ≡ false → a || b ≡ false
or_none a b h k = ap (λ x. x || b) h ∙ k

pub remove-insert : {A : Type 0} (xs : List A) (i : ℕ) (v : A) → i ≤ length xs → remove (insert xs i v) i ≡ xs
remove-insert [] zero v h = refl
remove-insert [] (suc i) v h = absurd (omega arith)
remove-insert (x ∷ xs) zero v h = refl
remove-insert (x ∷ xs) (suc i) v h = ap (λ ys. x ∷ ys) (remove-insert xs i v (omega arith))

pub insert-remove : {A : Type 0} (xs : List A) (i : ℕ) (v : A) → slice_get xs i ≡ Some v → insert (remove xs i) i v ≡ xs
insert-remove [] i v h = cc
insert-remove (x ∷ xs) zero v h = ap (λ y. y ∷ xs) (same v x (sym h))
  where
    same : {A : Type 0} (v x : A) → Some v ≡ Some x → v ≡ x
    same v x e = cc
insert-remove (x ∷ xs) (suc i) v h = ap (λ ys. x ∷ ys) (insert-remove xs i v h)

pub length-insert : {A : Type 0} (xs : List A) (i : ℕ) (v : A) → i ≤ length xs → length (insert xs i v) ≡ suc (length xs)
length-insert [] zero v h = refl
length-insert [] (suc i) v h = absurd (omega arith)
length-insert (x ∷ xs) zero v h = refl
length-insert (x ∷ xs) (suc i) v h = ap suc (length-insert xs i v (omega arith))

pub slice_get-insert : {A : Type 0} (xs : List A) (i : ℕ) (v : A) → i ≤ length xs → slice_get (insert xs i v) i ≡ Some v
slice_get-insert [] zero v h = refl
slice_get-insert [] (suc i) v h = absurd (omega arith)
slice_get-insert (x ∷ xs) zero v h = refl
slice_get-insert (x ∷ xs) (suc i) v h = slice_get-insert xs i v (omega arith)

-- each item passes, or some item does, in the list with v put in
pub list_all-insert : {A : Type 0} (p : A → Bool) (xs : List A) (i : ℕ) (v : A) → p v ≡ true → list_all p xs ≡ true → list_all p (insert xs i v) ≡ true
list_all-insert p [] zero v h g = ap (λ b. b && true) h
list_all-insert p [] (suc i) v h g = ap (λ b. b && true) h
list_all-insert p (x ∷ xs) zero v h g = ap (λ b. b && list_all p (x ∷ xs)) h ∙ g
list_all-insert p (x ∷ xs) (suc i) v h g = and_both (p x) _ (and_first (p x) _ g) (list_all-insert p xs i v h (and_second (p x) _ g))

pub list_any-insert : {A : Type 0} (p : A → Bool) (xs : List A) (i : ℕ) (v : A) → p v ≡ false → list_any p (insert xs i v) ≡ list_any p xs
list_any-insert p [] zero v h = ap (λ b. b || false) h
list_any-insert p [] (suc i) v h = ap (λ b. b || false) h
list_any-insert p (x ∷ xs) zero v h = ap (λ b. b || list_any p (x ∷ xs)) h
list_any-insert p (x ∷ xs) (suc i) v h = ap (λ b. p x || b) (list_any-insert p xs i v h)

pub list_all-remove : {A : Type 0} (p : A → Bool) (xs : List A) (i : ℕ) → list_all p xs ≡ true → list_all p (remove xs i) ≡ true
list_all-remove p [] zero g = refl
list_all-remove p [] (suc i) g = refl
list_all-remove p (x ∷ xs) zero g = and_second (p x) _ g
list_all-remove p (x ∷ xs) (suc i) g = and_both (p x) _ (and_first (p x) _ g) (list_all-remove p xs i (and_second (p x) _ g))

pub list_any-remove : {A : Type 0} (p : A → Bool) (xs : List A) (i : ℕ) → list_any p xs ≡ false → list_any p (remove xs i) ≡ false
list_any-remove p [] zero g = refl
list_any-remove p [] (suc i) g = refl
list_any-remove p (x ∷ xs) zero g = or_second (p x) _ g
list_any-remove p (x ∷ xs) (suc i) g = or_none (p x) _ (or_first (p x) _ g) (list_any-remove p xs i (or_second (p x) _ g))
