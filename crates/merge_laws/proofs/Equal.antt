-- Packages are tested for equality, and whether one is tidy goes by its length.
use Rattle.std.proofs.Common.{◌≡◌, true, List, [], ◌∷◌, length, refl, ap, subst, ◌∙◌, ◌≤◌, arith}
use Rattle.finite_maps.proofs.EqualLaws.{IsEquality, and_first, and_second, and_both, text_equality, list_equality}
use Rattle.ecore_meta.specs.Meta.{Meta}
use Rattle.model_state.specs.declared.operation.OpKind.{OpKind}
use Rattle.model_state.specs.declared.operation.OpKind.TheVariants.{Create, Delete, Attribute, ManyAttribute, Reference, Move}
use Rattle.model_state.specs.declared.operation.Operation.{Operation}
use Rattle.model_state.specs.declared.operation.Operation.TheVariants.{Simple, Composite}
use Rattle.merge_laws.specs.Joins.{step_eq, steps_eq}
use Rattle.merge_laws.proofs.StepEqual.{step_equality}
use Rattle.merge_laws.specs.Equal.{kind_eq, operation_eq, package_eq}
use Rattle.merge_laws.specs.Split.{own_kind, split, is_single}
use Rattle.merge_laws.specs.Rules.{Settles, done, more}
use Rattle.merge_laws.specs.Tidy.{tidy, is_tidy}
use Rattle.merge_laws.specs.TidyLaws.{TidyTestIsExact}
use Rattle.std.specs.List.{list_all}
use Rattle.merge_laws.proofs.Again.{Own, EachOwn, own_split, tidy_own}
use Rattle.merge_laws.proofs.Whole.{shorter, tidy_follows_rules}

-- ---- kinds, operations and packages
kind_exact : (k l : OpKind) → kind_eq k l ≡ true → k ≡ l
kind_exact Create Create h = refl
kind_exact Delete Delete h = refl
kind_exact Attribute Attribute h = refl
kind_exact ManyAttribute ManyAttribute h = refl
kind_exact Reference Reference h = refl
kind_exact Move Move h = refl
kind_exact k l h = cc

kind_own : (k : OpKind) → kind_eq k k ≡ true
kind_own Create = refl
kind_own Delete = refl
kind_own Attribute = refl
kind_own ManyAttribute = refl
kind_own Reference = refl
kind_own Move = refl

steps_equality : IsEquality steps_eq
steps_equality = list_equality step_eq step_equality

operation_exact : (o p : Operation) → operation_eq o p ≡ true → o ≡ p
operation_exact (Simple kind steps) (Simple other later) h =
    let first = kind_exact kind other (and_first _ _ h) in
    let second = steps_equality.exact steps later (and_second _ _ h) in
    λ i. Simple (first i) (second i)
operation_exact (Simple kind steps) (Composite name later) h = cc
operation_exact (Composite name steps) (Simple kind later) h = cc
operation_exact (Composite name steps) (Composite other later) h =
    let first = text_equality.exact name other (and_first _ _ h) in
    let second = steps_equality.exact steps later (and_second _ _ h) in
    λ i. Composite (first i) (second i)

operation_own : (o : Operation) → operation_eq o o ≡ true
operation_own (Simple kind steps) = and_both _ _ (kind_own kind) (steps_equality.own steps)
operation_own (Composite name steps) = and_both _ _ (text_equality.own name) (steps_equality.own steps)

package_equality : IsEquality package_eq
package_equality = list_equality operation_eq (record { exact = operation_exact; own = operation_own })

pub tidy_test_is_exact : TidyTestIsExact
unfolding is_tidy
tidy_test_is_exact meta p = (
  package_equality.exact (tidy meta p) p,
  λ same. ap (λ q. package_eq q p) same ∙ package_equality.own p,
)

-- ---- operations of one step each
own_of : (o : Operation) → is_single o ≡ true → Own o
own_of (Simple kind []) h = cc
own_of (Simple kind (s ∷ [])) h = kind_exact kind (own_kind s) h
own_of (Simple kind (s ∷ t ∷ ss)) h = cc
own_of (Composite name steps) h = tt

of_own : (o : Operation) → Own o → is_single o ≡ true
of_own (Simple kind []) h = absurd h
of_own (Simple kind (s ∷ [])) h = ap (λ k. kind_eq k (own_kind s)) h ∙ kind_own (own_kind s)
of_own (Simple kind (s ∷ t ∷ ss)) h = absurd h
of_own (Composite name steps) h = refl

each_own : (p : List Operation) → list_all is_single p ≡ true → EachOwn p
each_own [] h = tt
each_own (o ∷ os) h = (own_of o (and_first _ _ h), each_own os (and_second _ _ h))

each_single : (p : List Operation) → EachOwn p → list_all is_single p ≡ true
each_single [] h = refl
each_single (o ∷ os) h = and_both _ _ (of_own o h.0) (each_single os h.1)

-- ---- a tidy package
settled_fewer : (meta : Meta) (p q : List Operation) → Settles meta p q → length q ≤ length p
settled_fewer meta p q (done none) = omega arith
settled_fewer meta p q (more {q = mid} r rest) = let first = shorter meta p mid r in let later = settled_fewer meta mid q rest in omega (arith, first, later)

settled_same : (meta : Meta) (p q : List Operation) → Settles meta p q → length q ≡ length p → q ≡ p
settled_same meta p q (done none) same = refl
settled_same meta p q (more {q = mid} r rest) same = let first = shorter meta p mid r in let later = settled_fewer meta mid q rest
    in absurd (omega (arith, first, later, same))

-- a package of operations of one step each is tidy where tidying takes none away
pub tidy_length : (meta : Meta) (p : List Operation) → list_all is_single p ≡ true → length (tidy meta p) ≡ length p → tidy meta p ≡ p
tidy_length meta p single same =
    let cut : split p ≡ p = own_split p (each_own p single) in
    settled_same meta p (tidy meta p) (subst (λ l. Settles meta l (tidy meta p)) cut (tidy_follows_rules meta p)) same

-- a tidy package has operations of one step each
pub tidy_single : (meta : Meta) (p : List Operation) → tidy meta p ≡ p → list_all is_single p ≡ true
tidy_single meta p same = each_single p (subst EachOwn same (tidy_own meta p))
