-- The features of a class, as its own list and as those of the metamodel that it has.
use Rattle.std.proofs.Common.{◌≡◌, ℕ, zero, suc, ◌+◌, Bool, true, false, cond, ◌&&◌, List, [], ◌∷◌, ◌++◌, refl, sym, ap, ◌∙◌, length, arith}
use Rattle.std.specs.Prelude.{None, Some}
use Rattle.std.specs.List.{filter, range_with_len}
use Rattle.ecore_meta.specs.Meta.{Meta, features_of as own_features}
use Rattle.ecore_meta.specs.Promised.{ListsDeclared, declared}
use Rattle.ecore_meta.specs.declared.meta.Kind.{Kind}
use Rattle.ecore_meta.proofs.DeclaredLaws.{has_declared}
use Rattle.model_state.specs.Typing.{kind_of}
use Rattle.edit_steps.specs.Subtree.{features_of, numbers}

-- ---- numbers, counted up and counted down
range_more : (a n j : ℕ) → a + n ≡ j → range_with_len a (suc n) ≡ range_with_len a n ++ j ∷ []
range_more a zero j h =
    let same : a ≡ j = omega (arith, h) in
    ap (λ x. x ∷ []) same
range_more a (suc n) j h = ap (λ l. a ∷ l) (range_more (a + 1) n j (omega (arith, h)))

numbers_range : (n : ℕ) → range_with_len 0 n ≡ numbers n
numbers_range zero = refl
numbers_range (suc n) = range_more 0 n n (omega arith) ∙ ap (λ l. l ++ n ∷ []) (numbers_range n)

-- ---- filters
filter_twice : (p q : ℕ → Bool) (xs : List ℕ) → filter p (filter q xs) ≡ filter (λ x. q x && p x) xs
filter_twice p q [] = refl
filter_twice p q (x ∷ xs) =
    elim (q x) as (λ b. filter p (cond b (x ∷ filter q xs) (filter q xs)) ≡ cond (b && p x) (x ∷ filter (λ x. q x && p x) xs) (filter (λ x. q x && p x) xs)) [
      | true ↦ ap (λ ys. cond (p x) (x ∷ ys) ys) (filter_twice p q xs)
      | false ↦ filter_twice p q xs
    ]

filter_nothing : (xs : List ℕ) → filter (λ x. false) xs ≡ []
filter_nothing [] = refl
filter_nothing (x ∷ xs) = filter_nothing xs

-- ---- features
pub no_features : (meta : Meta) (p : Kind → Bool) → [] ≡ features_of meta p None
no_features meta p = sym (filter_nothing (numbers (length meta.features)))

pub features_are : (meta : Meta) → ListsDeclared meta → (c : ℕ) (p : Kind → Bool)
    → filter (λ f. p (kind_of meta f)) (own_features meta c) ≡ features_of meta p (Some c)
features_are meta lists c p =
    ap (filter (λ f. p (kind_of meta f))) (lists c)
    ∙ filter_twice (λ f. p (kind_of meta f)) (declared meta c) (range_with_len 0 (length meta.features))
    ∙ ap (filter (λ f. declared meta c f && p (kind_of meta f))) (numbers_range (length meta.features))
    ∙ ap (λ (q : ℕ → Bool). filter q (numbers (length meta.features))) (λ i f. sym (has_declared meta lists c f) i && p (kind_of meta f))
