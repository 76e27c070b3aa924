use Rattle.std.proofs.Common.{◌≡◌, ℕ, ◌+◌, ◌<◌, List, [], ◌∷◌, ◌++◌, length, take, get_or, sym, ap, ◌∙◌, append_assoc}
use Rattle.std.proofs.lemmas.List.{map-append, take_more}
use Rattle.model_state.specs.Keys.{IdBytes}
use Rattle.model_state.specs.State.{State}
use Rattle.model_state.specs.declared.step.Step.{Step}
use Rattle.state_steps.specs.Whole.{birth, births}
use Rattle.state_steps.proofs.elements.births.Goals as goal

births_more : (m : State) (xs : List IdBytes) (i : ℕ) (x : IdBytes) (before steps after : List Step) (s : Step) → i < length xs → x ≡ get_or xs i x
    → steps ≡ before ++ births m (take i xs) → after ≡ steps ++ s ∷ [] → s ≡ birth m x → after ≡ before ++ births m (take (i + 1) xs)
births_more m xs i x before steps after s within is so_far added born =
    let more : births m (take (i + 1) xs) ≡ births m (take i xs) ++ birth m x ∷ [] =
    ap (births m) (take_more xs i x within ∙ ap (λ (y : IdBytes). take i xs ++ y ∷ []) (sym is)) ∙ map-append (birth m) (take i xs) (x ∷ []) in
    let made : after ≡ (before ++ births m (take i xs)) ++ birth m x ∷ [] =
    added ∙ ap (λ (y : Step). steps ++ y ∷ []) born ∙ ap (λ (l : List Step). l ++ birth m x ∷ []) so_far in
    made ∙ append_assoc before (births m (take i xs)) (birth m x ∷ []) ∙ ap (λ (l : List Step). before ++ l) (sym more)

pub loop-at-preserved : goal.loop-at-preserved
loop-at-preserved g c =
    births_more (g.L.Look.state c.args.look.now) c.args.elements.now c.loop-at.at c.index-elements-at.result c.args.steps.now c.loop-at.steps
    c.push.new.self c.in_ok-birth.field-0
    c.loop-at-test.true c.index-elements-at.is c.loop-at.invariant c.in_ok-push.ensures.ok c.in_ok-birth.ensures
