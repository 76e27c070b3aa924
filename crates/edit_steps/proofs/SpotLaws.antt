-- Ranks given evenly, and the reranks of a part of a list.
use Rattle.std.proofs.lemmas.Bool.Decides.{nat_tests}
use Rattle.std.proofs.Common.{◌≡◌, ℕ, ◌+◌, ◌-◌, ◌*◌, ◌<◌, ◌≤◌, zero, suc, Bool, true, false, cond, not, List, [], ◌∷◌, ◌++◌, refl, sym, ap, ◌∙◌}
use Rattle.std.proofs.Common.{arith, nat_eq, nat_lt, length, take, get_or, rules}
use Rattle.std.specs.Prelude.{Option, None, Some, is_some, unwrap_or, slice_get}
use Rattle.finite_maps.proofs.EqualLaws.{nat_equality}
use Rattle.model_state.specs.declared.entry.Entry.{Entry}
use Rattle.model_state.specs.declared.step.Step.{Step}
use Rattle.model_state.specs.declared.step.Step.TheVariants.{RerankRow}
use Rattle.model_state.specs.Keys.{IdBytes}
use Rattle.model_state.specs.Ranks.{rank_between, most_entries, rank_gap}
use Rattle.edit_steps.specs.Spot.{rank_for, ranks_of, evened, spot, spot_by}
use Rattle.edit_steps.specs.Rows.{reranks}

even_here : (n : ℕ) (xs : List Entry) (j : ℕ) → j < length xs → slice_get (evened n xs) j ≡ Some ((n + j) * rank_gap)
even_here n [] j h = absurd (omega (arith, h))
even_here n (x ∷ xs) zero h = ap (λ k. Some (k * rank_gap)) (nothing n)
  where
    nothing : (n : ℕ) → n ≡ n + zero
    nothing n = omega arith
even_here n (x ∷ xs) (suc j) h = even_here (n + 1) xs j (less j (length xs) h) ∙ ap (λ k. Some (k * rank_gap)) (moved n j)
  where
    less : (j k : ℕ) → suc j < suc k → j < k
    less j k h = omega arith

    moved : (n j : ℕ) → (n + 1) + j ≡ n + suc j
    moved n j = omega arith

even_past : (n : ℕ) (xs : List Entry) (j : ℕ) → length xs ≤ j → slice_get (evened n xs) j ≡ None
even_past n [] j h = refl
even_past n (x ∷ xs) zero h = absurd (past (length xs) h)
  where
    past : (k : ℕ) → suc k ≤ zero → ⊥
    past k h = omega arith
even_past n (x ∷ xs) (suc j) h = even_past (n + 1) xs j (less j (length xs) h)
  where
    less : (j k : ℕ) → suc k ≤ suc j → k ≤ j
    less j k h = omega arith

even_at : (xs : List Entry) (k : ℕ) → slice_get (evened 1 xs) k ≡ cond (nat_lt k (length xs)) (Some ((k + 1) * rank_gap)) None
even_at xs k =
    elim (nat_lt k (length xs)) as (λ t. nat_lt k (length xs) ≡ t → slice_get (evened 1 xs) k ≡ cond t (Some ((k + 1) * rank_gap)) None) [
      | true ↦ λ less. even_here 1 xs k (below k (length xs) less) ∙ ap (λ n. Some (n * rank_gap)) (turned k)
      | false ↦ λ past. even_past 1 xs k (above k (length xs) past)
    ] refl
  where
    below : (k n : ℕ) → nat_lt k n ≡ true → k < n
    below k n h = grind (arith, nat_tests)

    above : (k n : ℕ) → nat_lt k n ≡ false → n ≤ k
    above k n h = grind (arith, nat_tests)

    turned : (k : ℕ) → 1 + k ≡ k + 1
    turned k = omega arith

even_before : (xs : List Entry) (k : ℕ) → k ≤ length xs → cond (nat_eq k 0) 0 (unwrap_or (slice_get (evened 1 xs) (k - 1)) 0) ≡ k * rank_gap
even_before xs zero h = refl
even_before xs (suc j) h =
    ap (λ b. cond b 0 (unwrap_or (slice_get (evened 1 xs) (suc j - 1)) 0)) (not_zero j) ∙ ap (λ i. unwrap_or (slice_get (evened 1 xs) i) 0) (less j)
    ∙ ap (λ o. unwrap_or o 0) (even_here 1 xs j (under j (length xs) h)) ∙ ap (λ n. n * rank_gap) (turned j)
  where
    less : (j : ℕ) → suc j - 1 ≡ j
    less j = omega arith

    not_zero : (j : ℕ) → nat_eq (suc j) 0 ≡ false
    not_zero j = search rules

    under : (j n : ℕ) → suc j ≤ n → j < n
    under j n h = omega arith

    turned : (j : ℕ) → 1 + j ≡ suc j
    turned j = omega arith

-- the rank at an index of a list that is ranked evenly
pub even_for : (xs : List Entry) (k : ℕ) → k ≤ length xs
    → rank_for (evened 1 xs) k ≡ rank_between (k * rank_gap) (cond (nat_lt k (length xs)) (Some ((k + 1) * rank_gap)) None)
even_for xs k h = ap (λ lo. rank_between lo (slice_get (evened 1 xs) k)) (even_before xs k h) ∙ ap (rank_between (k * rank_gap)) (even_at xs k)

pub spot_anew : (xs : List Entry) (k : ℕ) → k ≤ length xs → rank_for (ranks_of xs) k ≡ None → nat_lt (length xs) most_entries ≡ true
    → (spot xs k).rank ≡ rank_between (k * rank_gap) (cond (nat_lt k (length xs)) (Some ((k + 1) * rank_gap)) None)
spot_anew xs k h none small = ap (λ o. (spot_by o xs k).rank) none ∙ ap (λ t. cond t (rank_for (evened 1 xs) k) None) small ∙ even_for xs k h

-- where there is room the others keep their ranks
pub spot_kept : (xs : List Entry) (k : ℕ) → is_some (rank_for (ranks_of xs) k) ≡ true → (spot xs k).ranks ≡ ranks_of xs
spot_kept xs k h = kept (rank_for (ranks_of xs) k) h
  where
    kept : (o : Option ℕ) → is_some o ≡ true → (spot_by o xs k).ranks ≡ ranks_of xs
    kept None h = cc
    kept (Some r) h = refl

pub no_reranks : (a : IdBytes) (f : ℕ) (xs : List Entry) → reranks a f xs (ranks_of xs) ≡ []
no_reranks a f [] = refl
no_reranks a f (x ∷ xs) =
    ap (λ b. cond b (reranks a f xs (ranks_of xs)) (RerankRow a f x.id x.rank x.rank ∷ reranks a f xs (ranks_of xs))) (nat_equality.own x.rank)
    ∙ no_reranks a f xs

-- one entry more
pub reranks_last : (a : IdBytes) (f : ℕ) (n : ℕ) (xs : List Entry) (x : Entry)
    → reranks a f (xs ++ x ∷ []) (evened n (xs ++ x ∷ [])) ≡ reranks a f xs (evened n xs)
    ++ cond (nat_eq x.rank ((n + length xs) * rank_gap)) [] (RerankRow a f x.id x.rank ((n + length xs) * rank_gap) ∷ [])
reranks_last a f n [] x = ap (λ r. cond (nat_eq x.rank r) [] (RerankRow a f x.id x.rank r ∷ [])) (ap (λ k. k * rank_gap) (nothing n))
  where
    nothing : (n : ℕ) → n ≡ n + 0
    nothing n = omega arith
reranks_last a f n (z ∷ zs) x =
    let rest = reranks_last a f (n + 1) zs x
    ∙ ap (λ r. reranks a f zs (evened (n + 1) zs) ++ cond (nat_eq x.rank r) [] (RerankRow a f x.id x.rank r ∷ []))
    (ap (λ k. k * rank_gap) (moved n (length zs))) in
    elim (nat_eq z.rank (n * rank_gap)) as (λ b.
    cond b (reranks a f (zs ++ x ∷ []) (evened (n + 1) (zs ++ x ∷ [])))
    (RerankRow a f z.id z.rank (n * rank_gap) ∷ reranks a f (zs ++ x ∷ []) (evened (n + 1) (zs ++ x ∷ [])))
    ≡ cond b (reranks a f zs (evened (n + 1) zs)) (RerankRow a f z.id z.rank (n * rank_gap) ∷ reranks a f zs (evened (n + 1) zs))
    ++ cond (nat_eq x.rank ((n + length (z ∷ zs)) * rank_gap)) [] (RerankRow a f x.id x.rank ((n + length (z ∷ zs)) * rank_gap) ∷ [])) [
      | true ↦ rest
      | false ↦ ap (λ ss. RerankRow a f z.id z.rank (n * rank_gap) ∷ ss) rest
    ]
  where
    moved : (n k : ℕ) → (n + 1) + k ≡ n + suc k
    moved n k = omega arith

-- the part of a list up to an index, and the next item
pub take_more : {X : Type 0} (xs : List X) (i : ℕ) (x : X) → i < length xs → x ≡ get_or xs i x → take (i + 1) xs ≡ take i xs ++ x ∷ []
take_more [] i x lt h = absurd (omega (arith, lt))
take_more (z ∷ zs) zero x lt h = ap (λ y. y ∷ []) (sym h)
take_more (z ∷ zs) (suc i) x lt h = ap (λ k. take k (z ∷ zs)) (over i) ∙ ap (λ ys. z ∷ ys) (take_more zs i x (less i (length zs) lt) h)
  where
    over : (i : ℕ) → suc i + 1 ≡ suc (i + 1)
    over i = omega arith

    less : (i n : ℕ) → suc i < suc n → i < n
    less i n h = omega arith

pub is_less : (n k : ℕ) → n < k → nat_lt n k ≡ true
is_less n k h = grind (arith, nat_tests)

pub take_long : {X : Type 0} (xs : List X) (i : ℕ) → i ≤ length xs → length (take i xs) ≡ i
take_long xs zero h = refl
take_long [] (suc i) h = absurd (omega (arith, h))
take_long (x ∷ xs) (suc i) h = let rest = take_long xs i (less i (length xs) h) in omega (arith, rest)
  where
    less : (i n : ℕ) → suc i ≤ suc n → i ≤ n
    less i n h = omega arith

pub not_not : (b c : Bool) → b ≡ not c → b ≡ false → c ≡ true
not_not b true h g = refl
not_not b false h g = cc

pub nothing_added : (xs : List Step) → xs ≡ xs ++ []
nothing_added [] = refl
nothing_added (x ∷ xs) = ap (λ ys. x ∷ ys) (nothing_added xs)
