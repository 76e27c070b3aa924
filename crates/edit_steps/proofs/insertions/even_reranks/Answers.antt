use Rattle.std.proofs.Common.{◌≡◌, ℕ, ◌+◌, ◌*◌, ◌<◌, ◌≤◌, true, false, cond, refl, sym, ap, ◌∙◌, arith, nat_eq, List, [], ◌∷◌, ◌++◌, length, take, rules}
use Rattle.model_state.specs.declared.entry.Entry.{Entry}
use Rattle.model_state.specs.declared.step.Step.TheVariants.{RerankRow}
use Rattle.model_state.specs.Keys.{IdBytes}
use Rattle.edit_steps.specs.Rows.{reranks}
use Rattle.edit_steps.specs.Spot.{evened}
use Rattle.edit_steps.proofs.SpotLaws.{reranks_last, take_more, take_long}
use Rattle.edit_steps.proofs.insertions.even_reranks.Goals as goal
use Rattle.edit_steps.proofs.insertions.even_reranks.Goals.{then-x-new+in_ok-copy+in_ok-copy-2+in_ok-push, else-x-new}
use Rattle.model_state.specs.Ranks.{rank_gap}

append_assoc : {X : Type 0} (xs ys zs : List X) → (xs ++ ys) ++ zs ≡ xs ++ (ys ++ zs)
append_assoc [] ys zs = refl
append_assoc (x ∷ xs) ys zs = ap (λ l. x ∷ l) (append_assoc xs ys zs)

append_nil : {X : Type 0} (xs : List X) → xs ++ [] ≡ xs
append_nil [] = refl
append_nil (x ∷ xs) = ap (λ l. x ∷ l) (append_nil xs)

-- the steps for one entry more
grown : (a : IdBytes) (f : ℕ) (xs : List Entry) (i : ℕ) (x : Entry) → i < length xs → i ≤ length xs → take (i + 1) xs ≡ take i xs ++ x ∷ []
    → reranks a f (take (i + 1) xs) (evened 1 (take (i + 1) xs)) ≡ reranks a f (take i xs) (evened 1 (take i xs))
    ++ cond (nat_eq x.rank ((i + 1) * rank_gap)) [] (RerankRow a f x.id x.rank ((i + 1) * rank_gap) ∷ [])
grown a f xs i x lt le more =
    ap (λ ys. reranks a f ys (evened 1 ys)) more
    ∙ reranks_last a f 1 (take i xs) x
    ∙ ap (λ n. reranks a f (take i xs) (evened 1 (take i xs))
    ++ cond (nat_eq x.rank (n * rank_gap)) [] (RerankRow a f x.id x.rank (n * rank_gap) ∷ [])) (ap (λ k. 1 + k) (take_long xs i le) ∙ turned i)
  where
    turned : (k : ℕ) → 1 + k ≡ k + 1
    turned k = omega arith

unequal : (x y : ℕ) → (x ≡ y → ⊥) → nat_eq x y ≡ false
unequal x y h = search rules

equal : (x y : ℕ) → x ≡ y → nat_eq x y ≡ true
equal x y h = search rules

pub loop-i-preserved : goal.loop-i-preserved
loop-i-preserved c =
    let a = c.args.a.now in
    let f = c.args.f in
    let xs = c.args.list.now in
    let i = c.loop-i.i in
    let x = c.index-list-i.result in
    let so_far = reranks a f (take i xs) (evened 1 (take i xs)) in
    let more = grown a f xs i x c.loop-i-test.true c.loop-i.auto.i-end (take_more xs i x c.loop-i-test.true c.index-list-i.is) in
    elim c.if-x-new.branch [
      | then-x-new+in_ok-copy+in_ok-copy-2+in_ok-push w ↦
          w.steps-is ∙ w.in_ok-push.ensures.ok
          ∙ (λ j. c.loop-i.invariant j ++ RerankRow (w.in_ok-copy.ensures j) f (w.in_ok-copy-2.ensures j) x.rank ((i + 1) * rank_gap) ∷ [])
          ∙ append_assoc c.args.steps.now so_far _
          ∙ ap (λ ss. c.args.steps.now ++ ss)
          (sym (more ∙ ap (λ b. so_far ++ cond b [] (RerankRow a f x.id x.rank ((i + 1) * rank_gap) ∷ [])) (unequal x.rank _ w.if-x-new.true)))
      | else-x-new w ↦
          w.steps-is ∙ c.loop-i.invariant
          ∙ ap (λ ss. c.args.steps.now ++ ss)
          (sym (more ∙ ap (λ b. so_far ++ cond b [] (RerankRow a f x.id x.rank ((i + 1) * rank_gap) ∷ [])) (equal x.rank _ w.if-x-new.false)
          ∙ append_nil so_far))
    ]
