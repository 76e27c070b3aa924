use Rattle.std.proofs.Common.{◌≡◌, ℕ, Bool, true, false, [], ◌∷◌, ◌++◌, sym, ap, ◌∙◌, append_assoc, get_or, map, take}
use Rattle.std.specs.List.{filter}
use Rattle.std.proofs.lemmas.List.{take_all}
use Rattle.model_state.specs.Keys.{AttrKey}
use Rattle.model_state.specs.Typing.{kind_of}
use Rattle.edit_steps.specs.Sorts.{passes}
use Rattle.edit_steps.proofs.Walks.{failing, map_last, passing}
use Rattle.edit_steps.proofs.features.push_slots.Goals as goal
use Rattle.edit_steps.proofs.features.push_slots.Goals.{then-passes+in_ok-copy+in_ok-push, else-passes}

pub loop-f-preserved : goal.loop-f-preserved
loop-f-preserved c =
    let e = c.args.e.now in
    let fs = c.features_of-features.result.now in
    let i = c.loop-f.f-index in
    let f = get_or fs i 0 in
    let p : ℕ → Bool = λ n. passes c.args.sort (kind_of c.args.meta.now n) in
    let slot : ℕ → AttrKey = λ n. (e, n) in
    elim c.if-passes.branch [
      | then-passes+in_ok-copy+in_ok-push w ↦
          let pass : p f ≡ true = sym c.passes.ensures ∙ w.if-passes.true in
          w.slots-is ∙ w.in_ok-push.ensures.ok
          ∙ (λ j. c.loop-f.invariant j ++ (w.in_ok-copy.ensures j, f) ∷ [])
          ∙ append_assoc c.args.slots.now (map slot (filter p (take i fs))) (slot f ∷ [])
          ∙ ap (λ l. c.args.slots.now ++ l) (sym (map_last slot (filter p (take i fs)) f) ∙ ap (map slot) (sym (passing p fs i pass c.loop-f-test.true)))
      | else-passes w ↦
          let fail : p f ≡ false = sym c.passes.ensures ∙ w.if-passes.false in
          w.slots-is ∙ c.loop-f.invariant ∙ ap (λ l. c.args.slots.now ++ map slot l) (sym (failing p fs i fail c.loop-f-test.true))
    ]

pub returns : goal.returns
returns c =
    let p : ℕ → Bool = λ n. passes c.args.sort (kind_of c.args.meta.now n) in
    let slot : ℕ → AttrKey = λ n. (c.args.e.now, n) in
    c.loop-f.invariant
    ∙ ap (λ fs. c.args.slots.now ++ map slot (filter p fs)) (take_all c.loop-f.f-index c.features_of-features.result.now c.loop-f-test.false)
    ∙ ap (λ fs. c.args.slots.now ++ map slot fs) (c.features_of-features.ensures (passes c.args.sort))
