-- Reversal of packages, by that of their steps.
use Rattle.std.proofs.Common.{◌≡◌, List, [], ◌∷◌, ◌++◌, refl, sym, ap, ◌∙◌, append_assoc, append-nil}
use Rattle.model_state.specs.declared.step.Step.{Step}
use Rattle.model_state.specs.declared.step.Step.TheVariants.{Put, Ins, Del, Shift, Link, Unlink, RerankRow, New, Gone, Move, RerankPlace}
use Rattle.model_state.specs.declared.operation.OpKind.{OpKind}
use Rattle.model_state.specs.declared.operation.OpKind.TheVariants.{Create, Delete, Attribute, ManyAttribute, Reference, Move as Moves}
use Rattle.model_state.specs.declared.operation.Operation.{Operation}
use Rattle.model_state.specs.declared.operation.Operation.TheVariants.{Simple, Composite}
use Rattle.model_state.specs.Steps.{rev, rev_all, fold}
use Rattle.model_state.specs.Packages.{steps_all, rev_kind, rev_op, rev_package}
use Rattle.model_laws.proofs.Packages.{rev_append, rev_steps}
use Rattle.model_laws.proofs.Runs.{reversal_undoes, steps_keep_good}
use Rattle.model_laws.specs.Reversals.{PackageReversalUndoes, PackagesKeepGood, TwiceReversedIsSame, OperationTwiceReversedIsSame}

pub packages_undone : PackageReversalUndoes
packages_undone meta sound m n good p runs = ap (fold meta n) (rev_steps p) ∙ reversal_undoes meta sound m n good (steps_all p) runs

pub packages_keep : PackagesKeepGood
packages_keep meta sound m n good p runs = steps_keep_good meta sound m n good (steps_all p) runs

-- twice reversed
step_twice : (s : Step) → rev (rev s) ≡ s
step_twice (Put e f old new) = refl
step_twice (Ins e f at v) = refl
step_twice (Del e f at v) = refl
step_twice (Shift e f from to) = refl
step_twice (Link a f ra b rb) = refl
step_twice (Unlink a f ra b rb) = refl
step_twice (RerankRow a f b old new) = refl
step_twice (New e class place rank) = refl
step_twice (Gone e class place rank) = refl
step_twice (Move e from from_rank to to_rank above_from above_to) = refl
step_twice (RerankPlace e old new) = refl

steps_twice : (ss : List Step) → rev_all (rev_all ss) ≡ ss
steps_twice [] = refl
steps_twice (s ∷ ss) = rev_append (rev_all ss) (rev s ∷ []) ∙ (λ i. step_twice s i ∷ steps_twice ss i)

kind_twice : (kind : OpKind) → rev_kind (rev_kind kind) ≡ kind
kind_twice Create = refl
kind_twice Delete = refl
kind_twice Attribute = refl
kind_twice ManyAttribute = refl
kind_twice Reference = refl
kind_twice Moves = refl

pub operation_twice : OperationTwiceReversedIsSame
operation_twice (Simple kind steps) = λ i. Simple (kind_twice kind i) (steps_twice steps i)
operation_twice (Composite name steps) = ap (Composite name) (steps_twice steps)

package_append : (p q : List Operation) → rev_package (p ++ q) ≡ rev_package q ++ rev_package p
package_append [] q = sym (append-nil (rev_package q))
package_append (o ∷ p) q = ap (λ l. l ++ rev_op o ∷ []) (package_append p q) ∙ append_assoc (rev_package q) (rev_package p) (rev_op o ∷ [])

pub package_twice : TwiceReversedIsSame
package_twice [] = refl
package_twice (o ∷ p) = package_append (rev_package p) (rev_op o ∷ []) ∙ (λ i. operation_twice o i ∷ package_twice p i)
