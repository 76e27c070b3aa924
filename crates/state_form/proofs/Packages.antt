-- Spelled states, and the packages that build them.
use Rattle.std.proofs.Common.{◌≡◌, ◌∙◌, ℕ, ◌<◌, ◌≤◌, ◌^◌, List, [], ◌∷◌, length, refl, ap, arith, append-nil}
use Rattle.std.specs.List.{AllByRecursion}
use Rattle.std.proofs.lemmas.List.Elements.{All-from_recursion, recursion_from_All}
use Rattle.ecore_meta.specs.Meta.{Meta}
use Rattle.model_state.specs.Packages.{steps_of, steps_all}
use Rattle.model_state.specs.State.{State, nothing}
use Rattle.model_state.specs.Steps.{fold}
use Rattle.model_state.specs.declared.operation.OpKind.TheVariants.{Create}
use Rattle.model_state.specs.declared.operation.Operation.{Operation}
use Rattle.model_state.specs.declared.operation.Operation.TheVariants.{Simple, Composite}
use Rattle.model_state.specs.declared.step.Step.{Step}
use Rattle.op_form.specs.Formed.{IsStep, IsOperation, IsPackage}
use Rattle.state_steps.specs.Whole.{as_steps}
use Rattle.state_steps.proofs.Built.{steps_build}
use Rattle.state_form.specs.Form.{as_package, whole_package, state_size}
use Rattle.state_form.specs.Laws.{StepsKeepSpelled, PackagesKeepSpelled, WholeStepsAreSpelled, WholeIsSpelled, WholeLeads}
use Rattle.state_form.proofs.Builds.{whole_given}
use Rattle.state_form.proofs.Bytes.{steps_take_bytes}
use Rattle.state_form.proofs.Keeps.{both, run_keeps}

-- ---- what leads to a state
pub steps_keep_spelled : StepsKeepSpelled
steps_keep_spelled meta sound m n is steps spelled led = run_keeps meta sound m n steps (recursion_from_All IsStep steps spelled) is led

steps_given : (o : Operation) → IsOperation o → AllByRecursion IsStep (steps_of o)
steps_given (Simple kind steps) is = recursion_from_All IsStep steps is.1.2
steps_given (Composite name steps) is = recursion_from_All IsStep steps is.1.2

all_given : (os : List Operation) → AllByRecursion IsOperation os → AllByRecursion IsStep (steps_all os)
all_given [] all = tt
all_given (o ∷ os) all = both IsStep (steps_of o) (steps_all os) (steps_given o all.0) (all_given os all.1)

pub packages_keep_spelled : PackagesKeepSpelled
packages_keep_spelled meta sound m n is os spelled led =
    run_keeps meta sound m n (steps_all os) (all_given os (recursion_from_All IsOperation os spelled.1)) is led

-- ---- the package of a state
pub as_package_none : (ss : List Step) → length ss ≤ 0 → [] ≡ as_package ss
as_package_none [] none = refl
as_package_none (s ∷ ss) none = absurd (omega (arith, none))

pub as_package_some : (ss : List Step) → 0 < length ss → Simple Create ss ∷ [] ≡ as_package ss
as_package_some [] some = absurd (omega (arith, some))
as_package_some (s ∷ ss) some = refl

pub as_package_steps : (ss : List Step) → steps_all (as_package ss) ≡ ss
as_package_steps [] = refl
as_package_steps (s ∷ ss) = append-nil (s ∷ ss)

as_package_spelled : (ss : List Step) → AllByRecursion IsStep ss → length ss < 2 ^ 32 → IsPackage (as_package ss)
as_package_spelled [] all few = (omega arith, All-from_recursion IsOperation [] tt)
as_package_spelled (s ∷ ss) all few =
    (omega arith, All-from_recursion IsOperation (Simple Create (s ∷ ss) ∷ []) ((tt, (omega arith, few, All-from_recursion IsStep (s ∷ ss) all)), tt))

pub whole_steps_are_spelled : WholeStepsAreSpelled
whole_steps_are_spelled meta m good is = All-from_recursion IsStep (as_steps meta m) (whole_given meta m good is)

pub whole_is_spelled : WholeIsSpelled
whole_is_spelled meta m good is few = as_package_spelled (as_steps meta m) (whole_given meta m good is) few

pub whole_leads : WholeLeads
whole_leads meta sound m good = ap (fold meta nothing) (as_package_steps (as_steps meta m)) ∙ steps_build meta sound m good

-- so many steps take as many bytes
pub long_size : (meta : Meta) (m : State) (n : ℕ) → n ≤ length (as_steps meta m) → n ≤ state_size meta m
long_size meta m n long =
    let bytes = steps_take_bytes (whole_package meta m) in
    let same : length (steps_all (whole_package meta m)) ≡ length (as_steps meta m) = ap length (as_package_steps (as_steps meta m)) in
    omega (arith, long, bytes, same)
