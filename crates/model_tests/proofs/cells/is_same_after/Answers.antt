-- the steps lead to one model, after which the two can be applied in their order
use Rattle.std.proofs.Common.{◌≡◌, List, [], ◌∷◌, ◌++◌, sym, ap, subst, ◌∙◌, append-nil}
use Rattle.std.specs.Prelude.{Some}
use Rattle.ecore_meta.specs.Meta.{Meta}
use Rattle.model_state.specs.declared.step.Step.{Step}
use Rattle.model_state.specs.declared.operation.Operation.{Operation}
use Rattle.model_state.specs.State.{State, nothing}
use Rattle.model_state.specs.Steps.{fold}
use Rattle.model_state.specs.Packages.{steps_of, fold_package}
use Rattle.model_laws.proofs.Runs.{fold_append}
use Rattle.model_tests.proofs.cells.is_same_after.Goals as goal

both_lead : (meta : Meta) (start m x n k : State) (ss : List Step) (o p : Operation) → fold meta start ss ≡ Some m → fold meta start ss ≡ Some x
    → fold meta m (steps_of o) ≡ Some n → fold meta n (steps_of p) ≡ Some k → (y : State) × (fold_package meta x (o ∷ p ∷ []) ≡ Some y)
both_lead meta start m x n k ss o p h g one two = (
  k,
  subst (λ y. fold_package meta y (o ∷ p ∷ []) ≡ Some k) (same (sym h ∙ g))
      (fold_append meta m n (steps_of o) (steps_of p ++ []) one ∙ ap (fold meta n) (append-nil (steps_of p)) ∙ two),
)
  where
    same : Some m ≡ Some x → m ≡ x
    same e = cc

pub is_left_exchanged-requires-clause-possible : goal.is_left_exchanged-requires-clause-possible
is_left_exchanged-requires-clause-possible c = λ x led.
    let meta = c.args.meta.now in
    both_lead meta nothing _ x _ _ _ c.args.first.now c.args.second.now c.requires.run led
    (ap (fold meta _) (sym c.steps.ensures) ∙ c.in_ok-take_in_order.ensures.done)
    (ap (fold meta _) (sym c.steps-2.ensures) ∙ c.in_ok-take_in_order-2.ensures.done)
