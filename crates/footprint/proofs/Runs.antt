-- Runs of packages, by runs of their steps: one after another, undone, exchanged.
use Rattle.std.proofs.Common.{◌≡◌, false, List, [], ◌∷◌, ◌++◌, refl, sym, ap, subst, ◌∙◌, append-nil}
use Rattle.std.specs.Prelude.{Some}
use Rattle.ecore_meta.specs.Meta.{Meta}
use Rattle.model_state.specs.declared.step.Step.{Step}
use Rattle.model_state.specs.State.{State}
use Rattle.model_state.specs.Steps.{apply, fold}
use Rattle.model_laws.proofs.Runs.{fold_first, fold_more, fold_append, reversal_undoes, steps_keep_good}
use Rattle.model_state.specs.Good.{Good, Sound}
use Rattle.model_laws.proofs.Packages.{steps_append, rev_steps}
use Rattle.model_laws.proofs.Apart.{exchange_holds, side_by_side}
use Rattle.model_state.specs.declared.operation.Operation.{Operation}
use Rattle.model_state.specs.Packages.{steps_of, steps_all, fold_package, rev_package}
use Rattle.footprint.specs.Interference.{interferes}
use Rattle.footprint.specs.Laws.{OperationsExchange, PackagesExchange, PackagesSideBySide}
use Rattle.footprint.proofs.Pairs.{packages_apart}

-- the package leads from the one state to the other
abbrev pub Leads : Meta → State → List Operation → State → Type 0
Leads meta m p n = fold_package meta m p ≡ Some n

pub one_end : (meta : Meta) (m : State) (p : List Operation) (n k : State) → Leads meta m p n → Leads meta m p k → n ≡ k
one_end meta m p n k h g = same (sym h ∙ g)
  where
    same : Some n ≡ Some k → n ≡ k
    same e = cc

-- ---- runs
fold_cut : (meta : Meta) (m k : State) (ss ts : List Step) → fold meta m (ss ++ ts) ≡ Some k
    → (n : State) × (fold meta m ss ≡ Some n) × (fold meta n ts ≡ Some k)
fold_cut meta m k [] ts h = (m, refl, h)
fold_cut meta m k (s ∷ ss) ts h =
    let p = fold_first meta m k s (ss ++ ts) h in
    let rest = fold_cut meta (apply meta m s) k ss ts p.1 in
    (rest.0, fold_more meta m s ss p.0 ∙ rest.1, rest.2)

-- a run is cut where its package is cut, and put together so
pub cut : (meta : Meta) (m k : State) (p q : List Operation) → Leads meta m (p ++ q) k → (n : State) × Leads meta m p n × Leads meta n q k
cut meta m k p q h = fold_cut meta m k (steps_all p) (steps_all q) (ap (fold meta m) (sym (steps_append p q)) ∙ h)

pub join : (meta : Meta) (m n k : State) (p q : List Operation) → Leads meta m p n → Leads meta n q k → Leads meta m (p ++ q) k
join meta m n k p q h g = ap (fold meta m) (steps_append p q) ∙ fold_append meta m n (steps_all p) (steps_all q) h ∙ g

-- ---- the laws
pub package_undone : (meta : Meta) → Sound meta → (m n : State) → Good meta m → (p : List Operation) → Leads meta m p n → Leads meta n (rev_package p) m
package_undone meta sound m n good p h = ap (fold meta n) (rev_steps p) ∙ reversal_undoes meta sound m n good (steps_all p) h

pub packages_keep : (meta : Meta) → Sound meta → (m n : State) → Good meta m → (p : List Operation) → Leads meta m p n → Good meta n
packages_keep meta sound m n good p h = steps_keep_good meta sound m n good (steps_all p) h

pub packages_exchange : PackagesExchange
packages_exchange meta sound p q m k good none h =
    let c = cut meta m k p q h in
    let e = exchange_holds meta sound (steps_all p) (steps_all q) m c.0 k good (packages_apart meta p q none) c.1 c.2 in
    join meta m e.0 k q p e.1 e.2

pub packages_side_by_side : PackagesSideBySide
packages_side_by_side meta sound p q m n k good none h g =
    let e = side_by_side meta sound (steps_all p) (steps_all q) m n k good (packages_apart meta p q none) h g in
    (e.0, join meta m n e.0 p q h e.1, join meta m k e.0 q p g e.2)

pub operations_exchange : OperationsExchange
operations_exchange meta sound o p m k good free h = packages_exchange meta sound (o ∷ []) (p ∷ []) m k good ((free, tt), tt) h

-- ---- two operations, the second of them first
alone : (meta : Meta) (m n : State) (o : Operation) → fold meta m (steps_of o) ≡ Some n → Leads meta m (o ∷ []) n
alone meta m n o h = ap (fold meta m) (append-nil (steps_of o)) ∙ h

pub turned_run : (meta : Meta) (o p : Operation) (m n k : State) → fold meta m (steps_of p) ≡ Some n → fold meta n (steps_of o) ≡ Some k
    → Leads meta m (p ∷ o ∷ []) k
turned_run meta o p m n k one two = join meta m n k (p ∷ []) (o ∷ []) (alone meta m n p one) (alone meta n k o two)

pub second_first : (meta : Meta) → Sound meta → (o p : Operation) (m n k : State) → Good meta m → interferes meta o p ≡ false
    → (x : State) × Leads meta m (o ∷ p ∷ []) x → fold meta m (steps_of p) ≡ Some n → fold meta n (steps_of o) ≡ Some k → Leads meta m (o ∷ p ∷ []) k
second_first meta sound o p m n k good free x one two =
    let turned = operations_exchange meta sound o p m x.0 good free x.1 in
    subst (λ y. Leads meta m (o ∷ p ∷ []) y) (one_end meta m (p ∷ o ∷ []) x.0 k turned (turned_run meta o p m n k one two)) x.1
