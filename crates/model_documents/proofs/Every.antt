-- What holds of each item of a list.
use Rattle.std.proofs.Common.{◌≡◌, ℕ, zero, suc, List, [], ◌∷◌, ◌++◌, subst}
use Rattle.std.specs.Prelude.{Some, slice_get}
use Rattle.std.specs.List.{AllByRecursion}

pub every_append : {A : Type 0} (P : A → Type 0) (xs ys : List A) → AllByRecursion P xs → AllByRecursion P ys → AllByRecursion P (xs ++ ys)
every_append P [] ys h g = g
every_append P (x ∷ xs) ys h g = (h.0, every_append P xs ys h.1 g)

pub every_map : {A : Type 0} (P Q : A → Type 0) → ((x : A) → P x → Q x) → (xs : List A) → AllByRecursion P xs → AllByRecursion Q xs
every_map P Q f [] h = tt
every_map P Q f (x ∷ xs) h = (f x h.0, every_map P Q f xs h.1)

pub every_at : {A : Type 0} (P : A → Type 0) (xs : List A) (k : ℕ) (x : A) → AllByRecursion P xs → slice_get xs k ≡ Some x → P x
every_at P [] k x h is = cc
every_at P (y ∷ xs) zero x h is = let e : y ≡ x = cc in subst P e h.0
every_at P (y ∷ xs) (suc k) x h is = every_at P xs k x h.1 is
