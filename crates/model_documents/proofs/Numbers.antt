-- Lists of numbers, and which numbers they have.
use Rattle.std.proofs.Common.{◌≡◌, ℕ, Bool, true, false, ◌||◌, not, List, [], ◌∷◌, ◌++◌, nat_eq, refl, sym, ap, subst, ◌∙◌, ◌⊎◌, inl, inr}
use Rattle.std.specs.Prelude.{Some, slice_get, zero, suc}
use Rattle.std.specs.List.{list_any}
use Rattle.std.proofs.lemmas.List.Folds.{list_any-append}
use Rattle.std.proofs.lemmas.Bool.{or_left, or_right}
use Rattle.finite_maps.proofs.Cases.{not_so, true_false}
use Rattle.finite_maps.proofs.EqualLaws.{and_both, and_first, and_second, nat_equality}
use Rattle.model_documents.specs.Fits.{numbers_differ}

abbrev pub has : List ℕ → ℕ → Bool
has xs n = list_any (nat_eq n) xs

pub same_bool : (a b : Bool) → (a ≡ true → b ≡ true) → (b ≡ true → a ≡ true) → a ≡ b
same_bool true b f g = sym (f refl)
same_bool false true f g = g refl
same_bool false false f g = refl

pub or_split : (a b : Bool) → a || b ≡ true → (a ≡ true) ⊎ (b ≡ true)
or_split true b h = inl refl
or_split false b h = inr h

pub neither : (a b : Bool) → a ≡ false → b ≡ false → a || b ≡ false
neither a b p q = ap (λ c. c || b) p ∙ q

pub is_either : (b : Bool) → (b ≡ true) ⊎ (b ≡ false)
is_either true = inl refl
is_either false = inr refl

pub not_not : (b : Bool) → not b ≡ true → b ≡ false
not_not true h = cc
not_not false h = refl

pub not_is : (b : Bool) → b ≡ false → not b ≡ true
not_is b h = ap not h

pub has_append : (xs ys : List ℕ) (n : ℕ) → has (xs ++ ys) n ≡ has xs n || has ys n
has_append xs ys n = list_any-append (nat_eq n) xs ys

pub has_either : (xs ys : List ℕ) (n : ℕ) → has (xs ++ ys) n ≡ true → (has xs n ≡ true) ⊎ (has ys n ≡ true)
has_either xs ys n h = or_split (has xs n) (has ys n) (sym (has_append xs ys n) ∙ h)

pub has_left : (xs ys : List ℕ) (n : ℕ) → has xs n ≡ true → has (xs ++ ys) n ≡ true
has_left xs ys n h = has_append xs ys n ∙ or_left (has xs n) (has ys n) h

pub has_right : (xs ys : List ℕ) (n : ℕ) → has ys n ≡ true → has (xs ++ ys) n ≡ true
has_right xs ys n h = has_append xs ys n ∙ or_right (has xs n) (has ys n) h

pub has_at : (xs : List ℕ) (k n : ℕ) → slice_get xs k ≡ Some n → has xs n ≡ true
has_at [] k n h = cc
has_at (x ∷ xs) zero n h = let e : x ≡ n = cc in or_left (nat_eq n x) (has xs n) (subst (λ y. nat_eq n y ≡ true) (sym e) (nat_equality.own n))
has_at (x ∷ xs) (suc k) n h = or_right (nat_eq n x) (has xs n) (has_at xs k n h)

pub has_one : (x n : ℕ) → has (x ∷ []) n ≡ true → n ≡ x
has_one x n h = elim (or_split (nat_eq n x) false h) [ inl e ↦ nat_equality.exact n x e | inr e ↦ cc ]

-- no number of the one is in the other
abbrev pub Disjoint : List ℕ → List ℕ → Type 0
Disjoint xs ys = (n : ℕ) → has xs n ≡ true → has ys n ≡ false

pub apart_append : (xs ys : List ℕ) → numbers_differ xs ≡ true → numbers_differ ys ≡ true → Disjoint xs ys → numbers_differ (xs ++ ys) ≡ true
apart_append [] ys h g other = g
apart_append (x ∷ xs) ys h g other =
    and_both (not (has (xs ++ ys) x)) (numbers_differ (xs ++ ys))
    (not_is (has (xs ++ ys) x)
    (has_append xs ys x ∙ neither (has xs x) (has ys x) (not_not (has xs x) (and_first (not (has xs x)) (numbers_differ xs) h))
    (other x (or_left (nat_eq x x) (has xs x) (nat_equality.own x)))))
    (apart_append xs ys (and_second (not (has xs x)) (numbers_differ xs) h) g (λ n e. other n (or_right (nat_eq n x) (has xs n) e)))

pub apart_last : (xs : List ℕ) (n : ℕ) → numbers_differ xs ≡ true → has xs n ≡ false → numbers_differ (xs ++ n ∷ []) ≡ true
apart_last xs n h g = apart_append xs (n ∷ []) h refl
    (λ m e. not_so (has (n ∷ []) m) (λ k. true_false (has xs n) (subst (λ x. has xs x ≡ true) (has_one n m k) e) g))
