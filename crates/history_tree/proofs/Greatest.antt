-- The greatest of the versions of a list that pass a test.
use Rattle.std.proofs.Common.{◌≡◌, ℕ, zero, suc, ◌<◌, ◌≤◌, Bool, true, false, cond, ◌||◌, max, List, [], ◌∷◌, ◌++◌, get_or, nat_eq, refl, sym, ◌∙◌}
use Rattle.std.proofs.Common.{ap, subst, arith, append-nil, inl, inr, eq-eqb}
use Rattle.std.specs.Prelude.{All, Contains, ◌⊎◌, fold}
use Rattle.std.specs.List.{filter}
use Rattle.std.proofs.lemmas.Bool.{eqb-true}
use Rattle.std.proofs.lemmas.List.Elements.{All-head, All-tail, All-filter, filter-append}
use Rattle.std.proofs.lemmas.List.Folds.{list_any_at, list_any_none}
use Rattle.std.proofs.lemmas.List.Sums.{fold-append}
use Rattle.history_tree.specs.MergeBase.{is_among, greatest}

-- ---- tests
-- tests that agree at each version keep the same
pub filter_same : (p q : ℕ → Bool) (us : List ℕ) → All (λ u. p u ≡ q u) us → filter p us ≡ filter q us
filter_same p q [] same = refl
filter_same p q (u ∷ us) same =
    let here : p u ≡ q u = All-head (λ w. p w ≡ q w) u us same in
    let more : filter p us ≡ filter q us = filter_same p q us (All-tail (λ w. p w ≡ q w) u us same) in
    λ i. cond (here i) (u ∷ more i) (more i)

-- a last version that doesn't pass is left out
pub filter_without : (p : ℕ → Bool) (us : List ℕ) (v : ℕ) → p v ≡ false → filter p (us ++ v ∷ []) ≡ filter p us
filter_without p us v fails = filter-append p us (v ∷ []) ∙ ap (λ b. filter p us ++ cond b (v ∷ []) []) fails ∙ append-nil (filter p us)

-- the greatest is within what bounds all
greatest_within : (us : List ℕ) (a v : ℕ) → a ≤ v → All (λ u. u < v) us → fold max a us ≤ v
greatest_within [] a v low all = low
greatest_within (u ∷ us) a v low all =
    let here : u < v = All-head (λ w. w < v) u us all in
    greatest_within us (max a u) v (omega (arith, here, low)) (All-tail (λ w. w < v) u us all)

-- a last version that passes is the greatest, where it is above the others
pub greatest_last : (p : ℕ → Bool) (us : List ℕ) (v : ℕ) → p v ≡ true → All (λ u. u < v) us → greatest (filter p (us ++ v ∷ [])) ≡ v
greatest_last p us v passes all =
    let low : fold max 0 (filter p us) ≤ v = greatest_within (filter p us) 0 v (omega arith) (All-filter p (λ u. u < v) us all) in
    ap (λ l. fold max 0 l) (filter-append p us (v ∷ []) ∙ ap (λ b. filter p us ++ cond b (v ∷ []) []) passes)
    ∙ fold-append max 0 (filter p us) (v ∷ [])
    ∙ omega (arith, low)

-- ---- what is in a list
pub among_of : (us : List ℕ) (v : ℕ) → Contains us v → is_among us v ≡ true
among_of us v (k, within, is) = list_any_at (nat_eq v) us k v within (eq-eqb v (get_or us k v) (sym is))

pub of_among : (us : List ℕ) (v : ℕ) → is_among us v ≡ true → Contains us v
of_among [] v is = absurd cc
of_among (u ∷ us) v is = by (of_among us v) (nat_eq v u) refl
  where
    by : (is_among us v ≡ true → Contains us v) → (b : Bool) → nat_eq v u ≡ b → Contains (u ∷ us) v
    by further true here = (0, omega arith, sym (eqb-true v u here))
    by further false here =
        let more : Contains us v = further (ap (λ b. b || is_among us v) (sym here) ∙ is) in
        (suc more.0, omega (arith, more.1), more.2)

-- a version above all of a list isn't in it
pub not_among : (us : List ℕ) (v : ℕ) → All (λ u. nat_eq v u ≡ false) us → is_among us v ≡ false
not_among us v all = list_any_none (nat_eq v) us all

-- ---- the greatest is the last that passes
-- r is at least a and each that passes, and is one of these
record Top (p : ℕ → Bool) (us : List ℕ) (a r : ℕ) : Type 0 where
  low : a ≤ r
  last : (u : ℕ) → Contains us u → p u ≡ true → u ≤ r
  reached : (r ≡ a) ⊎ (Contains us r × (p r ≡ true))

contains_cases : (x : ℕ) (xs : List ℕ) (y : ℕ) → Contains (x ∷ xs) y → (x ≡ y) ⊎ Contains xs y
contains_cases x xs y (zero, within, is) = inl is
contains_cases x xs y (suc k, within, is) = inr (k, omega (arith, within), is)

contains_more : (x : ℕ) (xs : List ℕ) (y : ℕ) → Contains xs y → Contains (x ∷ xs) y
contains_more x xs y (k, within, is) = (suc k, omega (arith, within), is)

reached_more : (p : ℕ → Bool) (u : ℕ) (us : List ℕ) (a r : ℕ) → (r ≡ a) ⊎ (Contains us r × (p r ≡ true)) → (r ≡ a) ⊎ (Contains (u ∷ us) r × (p r ≡ true))
reached_more p u us a r (inl is) = inl is
reached_more p u us a r (inr (there, passes)) = inr (contains_more u us r there, passes)

max_cases : (a u : ℕ) → (max a u ≡ a) ⊎ (max a u ≡ u)
max_cases a u = grind arith

reached_max : (p : ℕ → Bool) (u : ℕ) (us : List ℕ) (a r : ℕ) → p u ≡ true → (r ≡ max a u) ⊎ (Contains us r × (p r ≡ true))
    → (r ≡ a) ⊎ (Contains (u ∷ us) r × (p r ≡ true))
reached_max p u us a r passes (inl is) = elim (max_cases a u) [
  | inl first ↦ inl (is ∙ first)
  | inr second ↦ inr ((0, omega arith, sym (is ∙ second)), subst (λ k. p k ≡ true) (sym (is ∙ second)) passes)
]
reached_max p u us a r passes (inr (there, more)) = inr (contains_more u us r there, more)

last_more : (p : ℕ → Bool) (u : ℕ) (us : List ℕ) (r : ℕ) → (p u ≡ true → u ≤ r) → ((w : ℕ) → Contains us w → p w ≡ true → w ≤ r) → (w : ℕ)
    → Contains (u ∷ us) w → p w ≡ true → w ≤ r
last_more p u us r here more w there passes = elim (contains_cases u us w there) [
  | inl same ↦ subst (λ k. k ≤ r) same (here (subst (λ k. p k ≡ true) (sym same) passes))
  | inr later ↦ more w later passes
]

top : (p : ℕ → Bool) (us : List ℕ) (a : ℕ) → Top p us a (fold max a (filter p us))
top p [] a = record {
  low = omega arith;
  last = λ u (k, within, is) passes. absurd (omega (arith, within));
  reached = inl refl;
}
top p (u ∷ us) a = by (top p us) (p u) refl
  where
    by : ((k : ℕ) → Top p us k (fold max k (filter p us))) → (b : Bool) → p u ≡ b → Top p (u ∷ us) a (fold max a (cond b (u ∷ filter p us) (filter p us)))
    by further true is =
        let more = further (max a u) in
        let r : ℕ = fold max (max a u) (filter p us) in
        let low : max a u ≤ r = more.low in
        record {
          low = omega (arith, low);
          last = last_more p u us r (λ passes. omega (arith, low)) more.last;
          reached = reached_max p u us a r is more.reached;
        }
    by further false is =
        let more = further a in
        let r : ℕ = fold max a (filter p us) in
        record {
          low = more.low;
          last = last_more p u us r (λ passes. absurd cc) more.last;
          reached = reached_more p u us a r more.reached;
        }

-- r passes and is in the list, and none that passes is greater
pub record IsGreatest (p : ℕ → Bool) (us : List ℕ) (r : ℕ) : Type 0 where
  pub there : Contains us r
  pub passes : p r ≡ true
  pub last : (u : ℕ) → Contains us u → p u ≡ true → u ≤ r

-- so it is where one is in the list that passes
pub greatest_is : (p : ℕ → Bool) (us : List ℕ) (some : ℕ) → Contains us some → p some ≡ true → IsGreatest p us (greatest (filter p us))
greatest_is p us some there passes =
    let most = top p us 0 in
    by (greatest (filter p us)) most.last most.reached
  where
    by : (r : ℕ) → ((u : ℕ) → Contains us u → p u ≡ true → u ≤ r) → (r ≡ 0) ⊎ (Contains us r × (p r ≡ true)) → IsGreatest p us r
    by r last (inl is) =
        let low : some ≤ r = last some there passes in
        let same : some ≡ r = omega (arith, low, is) in
        record {
          there = subst (λ k. Contains us k) same there;
          passes = subst (λ k. p k ≡ true) same passes;
          last = last;
        }
    by r last (inr (within, most)) = record { there = within; passes = most; last = last }
