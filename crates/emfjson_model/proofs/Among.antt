-- A set of numbers with one number more.
use Rattle.std.proofs.Common.{◌≡◌, ℕ, Bool, true, false, cond, List, [], ◌∷◌, ◌++◌, refl, sym, subst, ◌∙◌, ◌||◌, nat_eq}
use Rattle.std.specs.List.{list_any}
use Rattle.std.specs.BTreeMap.{is_at}
use Rattle.std.specs.Ordering.{nat_cmp}
use Rattle.std.proofs.lemmas.List.Folds.{list_any-append}
use Rattle.finite_maps.proofs.EqualLaws.{nat_equality}
use Rattle.finite_maps.proofs.MapLaws.{own_key, same_key}
use Rattle.model_state.proofs.Orders.{nat_order}

alike : (b c : Bool) → (b ≡ true → c ≡ true) → (c ≡ true → b ≡ true) → b ≡ c
alike true c to from = sym (to refl)
alike false true to from = from refl
alike false false to from = refl

-- a test by the order is one by equality
pub at_number : (n q : ℕ) → is_at (nat_cmp n) q ≡ nat_eq q n
at_number n q = alike (is_at (nat_cmp n) q) (nat_eq q n)
    (λ h. subst (λ z. nat_eq q z ≡ true) (sym (same_key nat_order n q h)) (nat_equality.own q))
    (λ h. subst (λ z. is_at (nat_cmp n) z ≡ true) (sym (nat_equality.exact q n h)) (own_key nat_order n))

or_also : (b a : Bool) → cond b true a ≡ (a || (b || false))
or_also true true = refl
or_also true false = refl
or_also false true = refl
or_also false false = refl

pub one_more : (n q : ℕ) (list : List ℕ) (had has : Bool) → had ≡ list_any (nat_eq q) list → has ≡ cond (is_at (nat_cmp n) q) true had
    → has ≡ list_any (nat_eq q) (list ++ n ∷ [])
one_more n q list had has before now =
    now
    ∙ (λ i. cond (at_number n q i) true (before i))
    ∙ or_also (nat_eq q n) (list_any (nat_eq q) list)
    ∙ sym (list_any-append (nat_eq q) list (n ∷ []))
