-- From a list of tests to its facts, and equalities of values and places.
use Rattle.std.proofs.Common.{◌≡◌, ℤ, Bool, true, false, cond, List, [], ◌∷◌, refl, sym, ap, ◌∙◌, rules, nat_eq}
use Rattle.std.specs.Prelude.{None, Some}
use Rattle.std.specs.Ordering.{int_eq}
use Rattle.finite_maps.specs.Equal.{option_eq, list_eq}
use Rattle.finite_maps.proofs.EqualLaws.{IsEquality, and_first, and_second, and_both, nat_equality, text_equality, option_equality, list_equality}
use Rattle.ecore_meta.specs.declared.meta.Value.{Value}
use Rattle.ecore_meta.specs.declared.meta.Value.TheVariants.{Text, Flag, Whole, Literal}
use Rattle.model_state.specs.declared.step.Place.{Place}
use Rattle.model_state.specs.declared.step.Place.TheVariants.{Root, Inside}
use Rattle.model_state.specs.Typing.{value_eq, flag_eq}
use Rattle.model_state.specs.State.{place_eq}
use Rattle.model_state.specs.Steps.{Test, first_fault}

-- each test holds
abbrev pub AllPass : List Test → Type 0
AllPass [] = Unit {0}
AllPass (t ∷ ts) = (t.0 ≡ true) × AllPass ts

pub passed : (ts : List Test) → first_fault ts ≡ None → AllPass ts
passed [] h = tt
passed (t ∷ ts) h =
    elim (t.0) as (λ b. t.0 ≡ b → cond b (first_fault ts) (Some t.1) ≡ None → (t.0 ≡ true) × AllPass ts) [
      | true ↦ λ e g. (e, passed ts g)
      | false ↦ λ e g. cc
    ] refl h

pub pass : (ts : List Test) → AllPass ts → first_fault ts ≡ None
pass [] h = refl
pass (t ∷ ts) h = ap (λ b. cond b (first_fault ts) (Some t.1)) h.0 ∙ pass ts h.1

flag_exact : (a b : Bool) → flag_eq a b ≡ true → a ≡ b
flag_exact true b h = sym h
flag_exact false true h = cc
flag_exact false false h = refl

flag_own : (a : Bool) → flag_eq a a ≡ true
flag_own true = refl
flag_own false = refl

int_exact : (a b : ℤ) → int_eq a b ≡ true → a ≡ b
int_exact a b h = search rules

int_own : (a : ℤ) → int_eq a a ≡ true
int_own a = search rules

value_exact : (x y : Value) → value_eq x y ≡ true → x ≡ y
value_exact (Text a) (Text b) h = ap Text (text_equality.exact a b h)
value_exact (Flag a) (Flag b) h = ap Flag (flag_exact a b h)
value_exact (Whole a) (Whole b) h = ap Whole (int_exact a b h)
value_exact (Literal a) (Literal b) h = ap Literal (nat_equality.exact a b h)
value_exact x y h = cc

value_own : (x : Value) → value_eq x x ≡ true
value_own (Text a) = text_equality.own a
value_own (Flag a) = flag_own a
value_own (Whole a) = int_own a
value_own (Literal a) = nat_equality.own a

pub value_equality : IsEquality value_eq
value_equality = record { exact = value_exact; own = value_own }

pub values_equality : IsEquality (option_eq (list_eq value_eq))
values_equality = option_equality (list_eq value_eq) (list_equality value_eq value_equality)

place_exact : (p q : Place) → place_eq p q ≡ true → p ≡ q
place_exact Root Root h = refl
place_exact Root (Inside b g) h = cc
place_exact (Inside a f) Root h = cc
place_exact (Inside a f) (Inside b g) h = let s = text_equality.exact a b (and_first _ _ h) in let t = nat_equality.exact f g (and_second _ _ h)
    in λ i. Inside (s i) (t i)

place_own : (p : Place) → place_eq p p ≡ true
place_own Root = refl
place_own (Inside a f) = and_both _ _ (text_equality.own a) (nat_equality.own f)

pub place_equality : IsEquality place_eq
place_equality = record { exact = place_exact; own = place_own }

pub number_equality : IsEquality (option_eq nat_eq)
number_equality = option_equality nat_eq nat_equality
