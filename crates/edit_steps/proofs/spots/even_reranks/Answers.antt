use Rattle.std.proofs.Common.{◌≡◌, ℕ, ◌+◌, ◌*◌, ◌<◌, ◌≤◌, true, false, cond, sym, ap, ◌∙◌, arith, nat_eq, List, [], ◌∷◌, ◌++◌, length, take, rules}
use Rattle.std.proofs.lemmas.List.{append-nil}
use Rattle.model_state.specs.declared.entry.Entry.{Entry}
use Rattle.model_state.specs.declared.step.Step.TheVariants.{RerankPlace}
use Rattle.edit_steps.specs.Places.{rerank_places}
use Rattle.edit_steps.specs.Spot.{evened}
use Rattle.edit_steps.proofs.SpotLaws.{take_more, take_long}
use Rattle.edit_steps.proofs.Reranks.{rerank_last}
use Rattle.edit_steps.proofs.spots.even_reranks.Goals as goal
use Rattle.edit_steps.proofs.spots.even_reranks.Goals.{then-x-new+in_ok-copy+in_ok-push, else-x-new}
use Rattle.model_state.specs.Ranks.{rank_gap}

-- the steps for one entry more
grown : (xs : List Entry) (i : ℕ) (x : Entry) → i < length xs → i ≤ length xs → take (i + 1) xs ≡ take i xs ++ x ∷ []
    → rerank_places (take (i + 1) xs) (evened 1 (take (i + 1) xs)) ≡ rerank_places (take i xs) (evened 1 (take i xs))
    ++ cond (nat_eq x.rank ((i + 1) * rank_gap)) [] (RerankPlace x.id x.rank ((i + 1) * rank_gap) ∷ [])
grown xs i x lt le more =
    ap (λ ys. rerank_places ys (evened 1 ys)) more
    ∙ rerank_last 1 (take i xs) x
    ∙ ap (λ n. rerank_places (take i xs) (evened 1 (take i xs))
    ++ cond (nat_eq x.rank (n * rank_gap)) [] (RerankPlace x.id x.rank (n * rank_gap) ∷ [])) (ap (λ k. 1 + k) (take_long xs i le) ∙ turned i)
  where
    turned : (k : ℕ) → 1 + k ≡ k + 1
    turned k = omega arith

unequal : (x y : ℕ) → (x ≡ y → ⊥) → nat_eq x y ≡ false
unequal x y h = search rules

equal : (x y : ℕ) → x ≡ y → nat_eq x y ≡ true
equal x y h = search rules

pub loop-i-preserved : goal.loop-i-preserved
loop-i-preserved c =
    let xs = c.args.list.now in
    let i = c.loop-i.i in
    let x = c.index-list-i.result in
    let so_far = rerank_places (take i xs) (evened 1 (take i xs)) in
    let more = grown xs i x c.loop-i-test.true c.loop-i.auto.i-end (take_more xs i x c.loop-i-test.true c.index-list-i.is) in
    elim c.if-x-new.branch [
      | then-x-new+in_ok-copy+in_ok-push w ↦
          w.steps-is ∙ w.in_ok-push.ensures.ok
          ∙ (λ j. c.loop-i.invariant j ++ RerankPlace (w.in_ok-copy.ensures j) x.rank ((i + 1) * rank_gap) ∷ [])
          ∙ sym (more ∙ ap (λ b. so_far ++ cond b [] (RerankPlace x.id x.rank ((i + 1) * rank_gap) ∷ [])) (unequal x.rank _ w.if-x-new.true))
      | else-x-new w ↦
          w.steps-is ∙ c.loop-i.invariant
          ∙ sym (more ∙ ap (λ b. so_far ++ cond b [] (RerankPlace x.id x.rank ((i + 1) * rank_gap) ∷ [])) (equal x.rank _ w.if-x-new.false) ∙ append-nil so_far)
    ]
