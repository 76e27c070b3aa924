-- Lists that rise, and what a search from their end passes.
use Rattle.std.proofs.Common.{◌≡◌, ℕ, zero, suc, ◌-◌, ◌<◌, ◌≤◌, List, [], ◌∷◌, ◌++◌, refl, sym, ap, subst, inl, inr, ◌∙◌, drop, length, get_or, set}
use Rattle.std.proofs.Common.{arith, length-set}
use Rattle.std.specs.List.{Contains}
use Rattle.std.specs.Prelude.{◌⊎◌, Option}
use Rattle.std.specs.Option.{option_to_list}
use Rattle.std.specs.declared.vec.Vec.{Vec}
use Rattle.std.specs.declared.alloc.Global.{Global}
use Rattle.std.proofs.lemmas.List.Elements.{Contains-append_cases, Contains-push_cases}
use Rattle.cell_index.specs.Near.{list_at}
use Rattle.cell_index.specs.Standing.{Rise, Rising, Without}
use Rattle.cell_index.proofs.Rows.{at_same, at_other, list_here, same_or_not}

-- ---- one list
rise_bound : (low high : ℕ) (xs : List ℕ) → Rise low high xs → low ≤ high
rise_bound low high [] h = h
rise_bound low high (x ∷ xs) h = let first = h.0 in let rest = rise_bound x high xs h.1 in omega (arith, first, rest)

pub rise_push : (low high : ℕ) (xs : List ℕ) → Rise low high xs → Rise low high (xs ++ high ∷ [])
rise_push low high [] h = (h, omega arith)
rise_push low high (x ∷ xs) h = (h.0, rise_push x high xs h.1)

pub rise_more : (low high more : ℕ) (xs : List ℕ) → high ≤ more → Rise low high xs → Rise low more xs
rise_more low high more [] up h = omega (arith, up, h)
rise_more low high more (x ∷ xs) up h = (h.0, rise_more x high more xs up h.1)

pub rise_first : (low high : ℕ) (xs ys : List ℕ) → Rise low high (xs ++ ys) → Rise low high xs
rise_first low high [] ys h = rise_bound low high ys h
rise_first low high (x ∷ xs) ys h = (h.0, rise_first x high xs ys h.1)

rise_low : (low high : ℕ) (xs : List ℕ) (i : ℕ) → i < length xs → Rise low high xs → low ≤ get_or xs i 0
rise_low low high [] i inside h = absurd (omega (arith, inside))
rise_low low high (x ∷ xs) zero inside h = h.0
rise_low low high (x ∷ xs) (suc i) inside h = let first = h.0 in let rest = rise_low x high xs i (omega (arith, inside)) h.1 in omega (arith, first, rest)

pub first_or_rest : (x : ℕ) (xs : List ℕ) (k : ℕ) → Contains (x ∷ xs) k → (x ≡ k) ⊎ Contains xs k
first_or_rest x xs k h = elim (Contains-append_cases (x ∷ []) xs k h) [
  | inl here ↦ inl (only here)
  | inr there ↦ inr there
]
  where
    only : Contains (x ∷ []) k → x ≡ k
    only h = elim (Contains-push_cases [] x k h) [ inl none ↦ absurd (nowhere none) | inr e ↦ e ]
      where
        nowhere : Contains [] k → ⊥
        nowhere h = let low = h.1 in omega (arith, low)

-- what is above the number of a place stands after it
rise_later : (low high : ℕ) (xs : List ℕ) (i k : ℕ) → i < length xs → Rise low high xs → get_or xs i 0 < k → Contains xs k → Contains (drop (suc i) xs) k
rise_later low high [] i k inside h up has_k = absurd (omega (arith, inside))
rise_later low high (x ∷ xs) zero k inside h up has_k = elim (first_or_rest x xs k has_k) [
  | inl e ↦ absurd (omega (arith, e, up))
  | inr there ↦ there
]
rise_later low high (x ∷ xs) (suc i) k inside h up has_k = elim (first_or_rest x xs k has_k) [
  | inl e ↦ let least = rise_low x high xs i (omega (arith, inside)) h.1 in absurd (omega (arith, e, up, least))
  | inr there ↦ rise_later x high xs i k (omega (arith, inside)) h.1 up there
]

-- what is above the number of a place is no hit, where none after it is
pub passed_above : (xs : List ℕ) (i : ℕ) (hits : ℕ → Type 0) (low : 0 < i) (inside : i ≤ length xs)
    (passed : (k : ℕ) → Contains (drop i xs) k → hits k → ⊥) (high k : ℕ) → Rise 0 high xs → get_or xs (i - 1) 0 < k → Contains xs k → hits k → ⊥
passed_above xs i hits low inside passed high k rise up has_k hit =
    passed k (subst (λ n. Contains (drop n xs) k) (next i low) (rise_later 0 high xs (i - 1) k (omega (arith, low, inside)) rise up has_k)) hit
  where
    next : (i : ℕ) → 0 < i → suc (i - 1) ≡ i
    next i low = omega (arith, low)

-- ---- tables
pub put_rising : (t made : List (Vec ℕ Global)) (s k : ℕ) (v w : Vec ℕ Global) → s < length t → v ≡ get_or t s v → w.items ≡ v.items ++ k ∷ []
    → made ≡ set t s w → Rising t k → Rising made k
put_rising t made s k v w low is more out h r = same_or_not r s
    (λ e. subst (Rise 0 k) (sym (ap (λ m. list_at m r) out ∙ ap (list_at (set t s w)) e ∙ at_same t s w low ∙ more))
    (rise_push 0 k v.items (subst (Rise 0 k) (list_here t s v low is) (h s))))
    (λ f. subst (Rise 0 k) (sym (ap (λ m. list_at m r) out ∙ at_other t s r w f)) (h r))

pub out_without : (t made : List (Vec ℕ Global)) (s k : ℕ) (v w : Vec ℕ Global) → s < length t → v ≡ get_or t s v → made ≡ set t s w
    → ((j : ℕ) → (j ≡ k → ⊥) → Contains v.items j → Contains w.items j) → ((high : ℕ) → Rise 0 high v.items → Rise 0 high w.items) → Without t made k
out_without t made s k v w low is out kept rise = record {
  size = ap length out ∙ length-set t s w;
  kept = λ r j other h. same_or_not r s
      (λ e. subst (λ l. Contains l j) (sym (ap (λ m. list_at m r) out ∙ ap (list_at (set t s w)) e ∙ at_same t s w low))
      (kept j other (subst (λ l. Contains l j) (ap (list_at t) e ∙ list_here t s v low is) h)))
      (λ f. subst (λ l. Contains l j) (sym (ap (λ m. list_at m r) out ∙ at_other t s r w f)) h);
  rising = λ high h r. same_or_not r s
      (λ e. subst (Rise 0 high) (sym (ap (λ m. list_at m r) out ∙ ap (list_at (set t s w)) e ∙ at_same t s w low))
      (rise high (subst (Rise 0 high) (list_here t s v low is) (h s))))
      (λ f. subst (Rise 0 high) (sym (ap (λ m. list_at m r) out ∙ at_other t s r w f)) (h r));
}

pub without_on : (t u v : List (Vec ℕ Global)) (k : ℕ) → Without t u k → Without u v k → Without t v k
without_on t u v k a b = record {
  size = b.size ∙ a.size;
  kept = λ s j other h. b.kept s j other (a.kept s j other h);
  rising = λ high h. b.rising high (a.rising high h);
}

-- a table of empty lists, with one more
pub empty_more : (t : List (Vec ℕ Global)) (v : Vec ℕ Global) → ((s : ℕ) → list_at t s ≡ []) → v.items ≡ [] → (s : ℕ) → list_at (t ++ v ∷ []) s ≡ []
empty_more [] v none is zero = is
empty_more [] v none is (suc s) = refl
empty_more (w ∷ t) v none is zero = none 0
empty_more (w ∷ t) v none is (suc s) = empty_more t v (λ r. none (suc r)) is s

-- the last number of a list goes
pub pop_rise : (old new : List ℕ) (o : Option ℕ) → old ≡ new ++ option_to_list o → (high : ℕ) → Rise 0 high old → Rise 0 high new
pop_rise old new o is high h = rise_first 0 high new (option_to_list o) (subst (Rise 0 high) is h)
