-- Reversal from the last item on.
use Rattle.std.proofs.Common.{◌≡◌, List, [], ◌∷◌, ◌++◌, refl, sym, ap, ◌∙◌, append_assoc}
use Rattle.std.specs.List.{push}
use Rattle.model_state.specs.declared.step.Step.{Step}
use Rattle.model_state.specs.Steps.{rev, rev_all}
use Rattle.model_state.specs.declared.operation.Operation.{Operation}
use Rattle.model_state.specs.Packages.{rev_op, rev_package}

rev_last : (xs : List Step) (s : Step) → rev_all (xs ++ s ∷ []) ≡ rev s ∷ rev_all xs
rev_last [] s = refl
rev_last (x ∷ xs) s = ap (λ l. l ++ rev x ∷ []) (rev_last xs s)

package_last : (xs : List Operation) (o : Operation) → rev_package (xs ++ o ∷ []) ≡ rev_op o ∷ rev_package xs
package_last [] o = refl
package_last (x ∷ xs) o = ap (λ l. l ++ rev_op x ∷ []) (package_last xs o)

-- one step more, taken from the end
pub step_more : (before old new whole : List Step) (s r : Step) → before ++ rev_all old ≡ whole → old ≡ push new s → r ≡ rev s
    → (before ++ r ∷ []) ++ rev_all new ≡ whole
step_more before old new whole s r h last is =
    append_assoc before (r ∷ []) (rev_all new) ∙ ap (λ x. before ++ (x ∷ rev_all new)) is ∙ sym (ap (λ l. before ++ l) (ap rev_all last ∙ rev_last new s)) ∙ h

pub op_more : (before old new whole : List Operation) (o r : Operation) → before ++ rev_package old ≡ whole → old ≡ push new o → r ≡ rev_op o
    → (before ++ r ∷ []) ++ rev_package new ≡ whole
op_more before old new whole o r h last is =
    append_assoc before (r ∷ []) (rev_package new) ∙ ap (λ x. before ++ (x ∷ rev_package new)) is
    ∙ sym (ap (λ l. before ++ l) (ap rev_package last ∙ package_last new o)) ∙ h
