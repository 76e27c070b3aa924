-- The reranks of a place.
use Rattle.std.proofs.Common.{◌≡◌, ℕ, suc, ◌+◌, ◌*◌, true, false, cond, List, [], ◌∷◌, ◌++◌, refl, ap, ◌∙◌, arith, nat_eq, length}
use Rattle.finite_maps.proofs.EqualLaws.{nat_equality}
use Rattle.model_state.specs.declared.entry.Entry.{Entry}
use Rattle.model_state.specs.declared.step.Step.{Step}
use Rattle.model_state.specs.declared.step.Step.TheVariants.{RerankPlace}
use Rattle.edit_steps.specs.Spot.{evened, ranks_of}
use Rattle.edit_steps.specs.Places.{rerank_places}
use Rattle.model_state.specs.Ranks.{rank_gap}

-- no step for elements that keep their ranks
pub no_reranks : (xs : List Entry) → rerank_places xs (ranks_of xs) ≡ []
no_reranks [] = refl
no_reranks (x ∷ xs) = ap
    (λ b. cond {A = List Step} b (rerank_places xs (ranks_of xs)) (RerankPlace x.id x.rank x.rank ∷ rerank_places xs (ranks_of xs)))
    (nat_equality.own x.rank) ∙ no_reranks xs

-- one element more
pub rerank_last : (n : ℕ) (xs : List Entry) (x : Entry)
    → rerank_places (xs ++ x ∷ []) (evened n (xs ++ x ∷ [])) ≡ rerank_places xs (evened n xs)
    ++ cond (nat_eq x.rank ((n + length xs) * rank_gap)) [] (RerankPlace x.id x.rank ((n + length xs) * rank_gap) ∷ [])
rerank_last n [] x = ap (λ r. cond (nat_eq x.rank r) [] (RerankPlace x.id x.rank r ∷ [])) (ap (λ k. k * rank_gap) (nothing n))
  where
    nothing : (n : ℕ) → n ≡ n + 0
    nothing n = omega arith
rerank_last n (z ∷ zs) x =
    let rest = rerank_last (n + 1) zs x
    ∙ ap (λ r. rerank_places zs (evened (n + 1) zs) ++ cond (nat_eq x.rank r) [] (RerankPlace x.id x.rank r ∷ []))
    (ap (λ k. k * rank_gap) (moved n (length zs))) in
    elim (nat_eq z.rank (n * rank_gap)) as (λ b.
    cond b (rerank_places (zs ++ x ∷ []) (evened (n + 1) (zs ++ x ∷ [])))
    (RerankPlace z.id z.rank (n * rank_gap) ∷ rerank_places (zs ++ x ∷ []) (evened (n + 1) (zs ++ x ∷ [])))
    ≡ cond b (rerank_places zs (evened (n + 1) zs)) (RerankPlace z.id z.rank (n * rank_gap) ∷ rerank_places zs (evened (n + 1) zs))
    ++ cond (nat_eq x.rank ((n + length (z ∷ zs)) * rank_gap)) [] (RerankPlace x.id x.rank ((n + length (z ∷ zs)) * rank_gap) ∷ [])) [
      | true ↦ rest
      | false ↦ ap (λ ss. RerankPlace z.id z.rank (n * rank_gap) ∷ ss) rest
    ]
  where
    moved : (n k : ℕ) → (n + 1) + k ≡ n + suc k
    moved n k = omega arith
