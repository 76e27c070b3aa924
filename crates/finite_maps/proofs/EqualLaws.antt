-- Tests of equality that hold exactly of equal values.
use Rattle.std.proofs.Common.{◌≡◌, Bool, true, false, List, [], ◌∷◌, refl, sym, ap, subst, ◌∙◌, ◌&&◌, nat_eq, rules}
use Rattle.std.specs.Prelude.{Option, None, Some}
use Rattle.finite_maps.specs.Equal.{option_eq, list_eq, text_eq}

-- the test holds of equal values, and of no others
pub record IsEquality {A : Type 0} (eq : A → A → Bool) : Type 0 where
  pub exact : (x y : A) → eq x y ≡ true → x ≡ y
  pub own : (x : A) → eq x x ≡ true

pub and_first : (a b : Bool) → a && b ≡ true → a ≡ true
and_first true b h = refl
and_first false b h = h

pub and_second : (a b : Bool) → a && b ≡ true → b ≡ true
and_second true b h = h
and_second false b h = cc

pub and_both : (a b : Bool) → a ≡ true → b ≡ true → a && b ≡ true
and_both a b p q = ap (λ x. x && b) p ∙ q

pub nat_equality : IsEquality nat_eq
nat_equality = record { exact = λ x y h. search rules; own = λ x. search rules }

module _ {A : Type 0} (eq : A → A → Bool) (is : IsEquality eq) where
  option_exact : (x y : Option A) → option_eq eq x y ≡ true → x ≡ y
  option_exact None None h = refl
  option_exact None (Some y) h = cc
  option_exact (Some x) None h = cc
  option_exact (Some x) (Some y) h = ap Some (is.exact x y h)

  option_own : (x : Option A) → option_eq eq x x ≡ true
  option_own None = refl
  option_own (Some x) = is.own x

  pub option_equality : IsEquality (option_eq eq)
  option_equality = record { exact = option_exact; own = option_own }

  list_exact : (xs ys : List A) → list_eq eq xs ys ≡ true → xs ≡ ys
  list_exact [] [] h = refl
  list_exact [] (y ∷ ys) h = cc
  list_exact (x ∷ xs) [] h = cc
  list_exact (x ∷ xs) (y ∷ ys) h = let head = is.exact x y (and_first _ _ h) in let tail = list_exact xs ys (and_second _ _ h) in λ i. head i ∷ tail i

  list_own : (xs : List A) → list_eq eq xs xs ≡ true
  list_own [] = refl
  list_own (x ∷ xs) = and_both _ _ (is.own x) (list_own xs)

  pub list_equality : IsEquality (list_eq eq)
  list_equality = record { exact = list_exact; own = list_own }

pub text_equality : IsEquality text_eq
text_equality = list_equality nat_eq nat_equality

-- different values fail the test
pub apart : {A : Type 0} (eq : A → A → Bool) (is : IsEquality eq) (x y : A) → eq x y ≡ false → eq y x ≡ false
apart eq is x y h =
    elim (eq y x) as (λ b. eq y x ≡ b → b ≡ false) [
      | true ↦ λ e. let same = is.exact y x e in sym (subst (λ z. eq x z ≡ true) (sym same) (is.own x)) ∙ h
      | false ↦ λ e. refl
    ] refl
