-- What becomes of counts as a list changes.
use Rattle.std.proofs.Common.{◌≡◌, ℕ, ◌+◌, ◌<◌, ◌≤◌, List, [], ◌∷◌, refl, sym, ap, ◌∙◌, length, get_or, arith, nat_lt, Bool, true, false, cond, ◌||◌, ◌++◌, suc}
use Rattle.std.proofs.Common.{take, take-suc}
use Rattle.std.specs.Prelude.{slice_get, Some}
use Rattle.std.specs.List.{insert, remove, list_any, count_by, sum_by}
use Rattle.std.proofs.lemmas.List.Sums.{sum_by-append, sum_by-cons, sum_by-insert, sum_by-remove}
use Rattle.std.proofs.lemmas.Bool.Decides.{nat_tests}
use Rattle.ecore_meta.specs.declared.meta.Value.{Value}
use Rattle.model_state.specs.Typing.{value_eq}
use Rattle.model_state.proofs.StepTests.{value_equality}
use Rattle.value_counts.specs.declared.counts.ValueCounts.{ValueCounts}
use Rattle.value_counts.specs.Counts.{count_of, once, Counts, IsOneMore, IsSame}

-- a value is in the list where it is counted
pub any_counted : {X : Type 0} (p : X → Bool) (xs : List X) → nat_lt 0 (count_by p xs) ≡ list_any p xs
any_counted p [] = refl
any_counted p (x ∷ xs) = ap (nat_lt 0) (sum_by-cons (λ y. cond (p y) 1 0) x xs) ∙ by_test (p x) (count_by p xs) (any_counted p xs)
  where
    by_test : (b : Bool) (n : ℕ) → nat_lt 0 n ≡ list_any p xs → nat_lt 0 (cond b 1 0 + n) ≡ b || list_any p xs
    by_test true n h = grind (arith, nat_tests)
    by_test false n h = ap (nat_lt 0) (omega arith) ∙ h

pub counts_has : (c : ValueCounts) (v : Value) (vs : List Value) → Counts c vs → nat_lt 0 (count_of c v) ≡ list_any (value_eq v) vs
counts_has c v vs counts = ap (nat_lt 0) (counts.each v) ∙ any_counted (value_eq v) vs

-- the same counts
pub counts_same : (old new : ValueCounts) (vs : List Value) → Counts old vs → IsSame old new → Counts new vs
counts_same old new vs counts same = record { each = λ w. same.each w ∙ counts.each w }

-- a value put in
pub counts_insert : (old new : ValueCounts) (vs : List Value) (at : ℕ) (v : Value) → Counts old vs → IsOneMore old new v → Counts new (insert vs at v)
counts_insert old new vs at v counts more = record {
  each = λ w. more.each w ∙ ap (λ n. n + once (value_eq w v)) (counts.each w) ∙ sym (sum_by-insert (λ x. cond (value_eq w x) 1 0) vs at v);
}

-- a value taken out
pub counts_remove : (old new : ValueCounts) (vs : List Value) (at : ℕ) (v : Value) → Counts old vs → at < length vs → get_or vs at v ≡ v
    → IsOneMore new old v → Counts new (remove vs at)
counts_remove old new vs at v counts low is more = record {
  each = λ w.
      let f : Value → ℕ = λ x. cond (value_eq w x) 1 0 in
      let whole = sum_by-remove f vs at v low in
      let here : f (get_or vs at v) ≡ f v = ap f is in
      let one : count_of old w ≡ count_of new w + f v = more.each w in
      let all : count_of old w ≡ count_by (value_eq w) vs = counts.each w in
      omega (arith, whole, here, one, all);
}

-- a value put at the end
pub counts_append : (old new : ValueCounts) (vs : List Value) (v : Value) → Counts old vs → IsOneMore old new v → Counts new (vs ++ v ∷ [])
counts_append old new vs v counts more = record {
  each = λ w.
      let f : Value → ℕ = λ x. cond (value_eq w x) 1 0 in
      let last = sum_by-cons f v [] in
      let one : sum_by f (v ∷ []) ≡ f v = omega (arith, last) in
      more.each w ∙ ap (λ n. n + f v) (counts.each w) ∙ ap (λ n. sum_by f vs + n) (sym one) ∙ sym (sum_by-append f vs (v ∷ []));
}

pub one_more_taken : {A : Type 0} (xs : List A) (i : ℕ) (d : A) → i < length xs → d ≡ get_or xs i d → take (i + 1) xs ≡ take i xs ++ d ∷ []
one_more_taken xs i d within is =
    let next : i + 1 ≡ suc i = omega arith in
    ap (λ n. take n xs) next ∙ take-suc xs i d within ∙ ap (λ x. take i xs ++ x ∷ []) (sym is)

-- a value that was taken out, counted again
pub counts_back : (old new : ValueCounts) (vs : List Value) (at : ℕ) (v : Value) → Counts old (remove vs at) → at < length vs → get_or vs at v ≡ v
    → IsOneMore old new v → Counts new vs
counts_back old new vs at v counts low is more = record {
  each = λ w.
      let f : Value → ℕ = λ x. cond (value_eq w x) 1 0 in
      let whole = sum_by-remove f vs at v low in
      let here : f (get_or vs at v) ≡ f v = ap f is in
      more.each w ∙ ap (λ n. n + once (value_eq w v)) (counts.each w) ∙ ap (λ n. count_by (value_eq w) (remove vs at) + n) (sym here) ∙ whole;
}

-- a value of the list is counted
pub counts_some : (c : ValueCounts) (vs : List Value) (at : ℕ) (v : Value) → Counts c vs → at < length vs → get_or vs at v ≡ v → 0 < count_of c v
counts_some c vs at v counts low is =
    let f : Value → ℕ = λ x. cond (value_eq v x) 1 0 in
    let whole = sum_by-remove f vs at v low in
    let here : f (get_or vs at v) ≡ f v = ap f is in
    let own : f v ≡ 1 = ap (λ b. cond b 1 0) (value_equality.own v) in
    let all : count_of c v ≡ count_by (value_eq v) vs = counts.each v in
    omega (arith, whole, here, own, all)
