-- Steps of packages: of one package after another, and of a reversed one.
use Rattle.std.proofs.Common.{◌≡◌, List, [], ◌∷◌, ◌++◌, refl, sym, ap, ◌∙◌, append_assoc, append-nil}
use Rattle.model_state.specs.declared.step.Step.{Step}
use Rattle.model_state.specs.declared.operation.Operation.{Operation}
use Rattle.model_state.specs.declared.operation.Operation.TheVariants.{Simple, Composite}
use Rattle.model_state.specs.Steps.{rev, rev_all}
use Rattle.model_state.specs.Packages.{steps_of, steps_all, rev_op, rev_package}

pub steps_append : (p q : List Operation) → steps_all (p ++ q) ≡ steps_all p ++ steps_all q
steps_append [] q = refl
steps_append (o ∷ p) q = ap (λ ss. steps_of o ++ ss) (steps_append p q) ∙ sym (append_assoc (steps_of o) (steps_all p) (steps_all q))

pub rev_append : (ss ts : List Step) → rev_all (ss ++ ts) ≡ rev_all ts ++ rev_all ss
rev_append [] ts = sym (append-nil (rev_all ts))
rev_append (s ∷ ss) ts = ap (λ l. l ++ rev s ∷ []) (rev_append ss ts) ∙ append_assoc (rev_all ts) (rev_all ss) (rev s ∷ [])

pub rev_op_steps : (o : Operation) → steps_of (rev_op o) ≡ rev_all (steps_of o)
rev_op_steps (Simple kind steps) = refl
rev_op_steps (Composite name steps) = refl

-- a reversed package has the reversed steps in reversed order
pub rev_steps : (p : List Operation) → steps_all (rev_package p) ≡ rev_all (steps_all p)
rev_steps [] = refl
rev_steps (o ∷ p) =
    steps_append (rev_package p) (rev_op o ∷ [])
    ∙ ap (λ ss. ss ++ (steps_of (rev_op o) ++ [])) (rev_steps p)
    ∙ ap (λ ss. rev_all (steps_all p) ++ ss) (append-nil (steps_of (rev_op o)) ∙ rev_op_steps o)
    ∙ sym (rev_append (steps_of o) (steps_all p))
