-- Packages taken one operation after another, and versions one after another.
use Rattle.std.proofs.Math.ListN.{get_or}
use Rattle.std.proofs.Math.Seq.{drop-cons}
use Rattle.std.proofs.Common.{◌≡◌, ◌≢◌, ℕ, suc, ◌+◌, ◌<◌, List, [], ◌∷◌, ◌++◌, length, drop, Option, Some, None, Result, Ok, Err, ⊎_elim, refl, sym}
use Rattle.std.proofs.Common.{◌∙◌, ap, arith}
use Rattle.std.specs.Prelude.{IfErr, option_map}
use Rattle.std.specs.Result.{IsErr, IsErrAnd}
use Rattle.model_state.specs.declared.step.StepFault.TheVariants.{Memory}
use Rattle.model_state.specs.Faults.{IsApplyFault, IsFault}
use Rattle.model_state.specs.declared.step.ApplyFault.{ApplyFault}
use Rattle.model_laws.proofs.Stops.{stop_is_fault}
use Rattle.ecore_meta.specs.Meta.{Meta}
use Rattle.model_state.specs.State.{State}
use Rattle.model_state.specs.declared.step.Step.{Step}
use Rattle.model_state.specs.declared.step.StepFault.{StepFault}
use Rattle.model_state.specs.Steps.{fold, fault, fault_along, first_stop, apply}
use Rattle.model_state.specs.declared.operation.Operation.{Operation}
use Rattle.model_state.specs.Packages.{steps_of, steps_all, fold_package}
use Rattle.model_laws.proofs.Packages.{steps_append}
use Rattle.model_laws.proofs.Runs.{fold_append}
use Rattle.history_tree.specs.declared.version.Version.{Version}
use Rattle.history_tree.specs.States.{package_of_version, operations_of}

-- steps with one that can't be taken lead nowhere
pub fold_none : (meta : Meta) (m : State) (ss : List Step) (e : StepFault) → fault_along meta m ss ≡ Some e → fold meta m ss ≡ None
fold_none meta m [] e is = cc
fold_none meta m (s ∷ ss) e is = by (fault meta m s) (fold_none meta (apply meta m s) ss e) is
  where
    by : (o : Option StepFault) → (fault_along meta (apply meta m s) ss ≡ Some e → fold meta (apply meta m s) ss ≡ None)
        → ◌≡◌ {A = Option StepFault} (elim o [ None ↦ fault_along meta (apply meta m s) ss | Some f ↦ Some f ]) (Some e)
        → ◌≡◌ {A = Option State} (elim o [ None ↦ fold meta (apply meta m s) ss | Some _ ↦ None ]) None
    by None below h = below h
    by (Some f) below h = refl

-- nor do they with more after them
pub fold_append_none : (meta : Meta) (m : State) (ss ts : List Step) → fold meta m ss ≡ None → fold meta m (ss ++ ts) ≡ None
fold_append_none meta m [] ts is = cc
fold_append_none meta m (s ∷ ss) ts is = by (fault meta m s) (fold_append_none meta (apply meta m s) ss ts) is
  where
    by : (o : Option StepFault) → (fold meta (apply meta m s) ss ≡ None → fold meta (apply meta m s) (ss ++ ts) ≡ None)
        → ◌≡◌ {A = Option State} (elim o [ None ↦ fold meta (apply meta m s) ss | Some _ ↦ None ]) None
        → ◌≡◌ {A = Option State} (elim o [ None ↦ fold meta (apply meta m s) (ss ++ ts) | Some _ ↦ None ]) None
    by None below h = below h
    by (Some f) below h = refl

-- the fault where they stop
pub fault_at_stop : (meta : Meta) (m : State) (ss : List Step) (x : ApplyFault) → first_stop meta m ss ≡ Some x → fault_along meta m ss ≡ Some x.fault
fault_at_stop meta m ss x stops = sym (stop_is_fault meta m ss) ∙ ap (option_map (λ (y : ApplyFault). y.fault)) stops

-- the first operation taken, or not
pub package_on : (meta : Meta) (m n : State) (o : Operation) (os : List Operation) → fold meta m (steps_of o) ≡ Some n
    → fold_package meta m (o ∷ os) ≡ fold_package meta n os
package_on meta m n o os is = fold_append meta m n (steps_of o) (steps_all os) is

pub package_none : (meta : Meta) (m : State) (o : Operation) (os : List Operation) → fold meta m (steps_of o) ≡ None → fold_package meta m (o ∷ os) ≡ None
package_none meta m o os is = fold_append_none meta m (steps_of o) (steps_all os) is

-- the place in a package moves on by an operation that is taken, or stands at one that can't be
pub operation_on : (meta : Meta) (m n : State) (os : List Operation) (i : ℕ) (d : Operation) → i < length os
    → fold meta m (steps_of (get_or os i d)) ≡ Some n → fold_package meta m (drop i os) ≡ fold_package meta n (drop (i + 1) os)
operation_on meta m n os i d below is =
    ap (λ l. fold_package meta m l) (drop-cons os i d below) ∙ package_on meta m n (get_or os i d) (drop (suc i) os) is
    ∙ ap (λ (k : ℕ). fold_package meta n (drop k os)) next
  where
    next : suc i ≡ i + 1
    next = omega arith

pub operation_none : (meta : Meta) (m : State) (os : List Operation) (i : ℕ) (d : Operation) → i < length os
    → fold meta m (steps_of (get_or os i d)) ≡ None → fold_package meta m (drop i os) ≡ None
operation_none meta m os i d below is = ap (λ l. fold_package meta m l) (drop-cons os i d below) ∙ package_none meta m (get_or os i d) (drop (suc i) os) is

-- a call that failed at a step that can't be taken failed at a package that can't be
pub cannot_fold : (meta : Meta) (start m : State) (os : List Operation) (i : ℕ) (d : Operation) (e : StepFault) (r : Result (Unit {0}) StepFault)
    → IsErr r → IsErrAnd r (λ f. f ≡ e) → i < length os
    → fold_package meta start os ≡ fold_package meta m (drop i os) → IsFault (fault_along meta m (steps_of (get_or os i d))) e
    → IfErr r (λ f. f ≢ Memory → fold_package meta start os ≡ None)
cannot_fold meta start m os i d e (Ok x) is_err is below same cannot = absurd cc
cannot_fold meta start m os i d e (Err f) is_err is below same cannot = λ not_memory. ⊎_elim
    (λ memory. absurd (not_memory (is ∙ memory)))
    (λ at. same ∙ operation_none meta m os i d below (fold_none meta m (steps_of (get_or os i d)) e at)) cannot

-- nor does a package of which an operation stops
pub stop_folds_none : (meta : Meta) (start m : State) (os : List Operation) (i : ℕ) (d : Operation) (x : ApplyFault) → i < length os → x.fault ≢ Memory
    → fold_package meta start os ≡ fold_package meta m (drop i os) → IsApplyFault (first_stop meta m (steps_of (get_or os i d))) x
    → fold_package meta start os ≡ None
stop_folds_none meta start m os i d x below not_memory same stops =
    same
    ∙ operation_none meta m os i d below (⊎_elim (λ memory. absurd (not_memory memory))
    (λ at. fold_none meta m (steps_of (get_or os i d)) x.fault (fault_at_stop meta m (steps_of (get_or os i d)) x at)) stops)

-- ---- versions
-- the place on a path moves on by a version whose package is taken
pub version_on : (meta : Meta) (m n : State) (vs : List Version) (us : List ℕ) (i d : ℕ) → i < length us
    → fold_package meta m (package_of_version vs (get_or us i d)) ≡ Some n
    → fold_package meta m (operations_of vs (drop i us)) ≡ fold_package meta n (operations_of vs (drop (i + 1) us))
version_on meta m n vs us i d below is =
    ap (λ l. fold_package meta m (operations_of vs l)) (drop-cons us i d below)
    ∙ ap (fold meta m) (steps_append (package_of_version vs (get_or us i d)) (operations_of vs (drop (suc i) us)))
    ∙ fold_append meta m n (steps_all (package_of_version vs (get_or us i d))) (steps_all (operations_of vs (drop (suc i) us))) is
    ∙ ap (λ (k : ℕ). fold_package meta n (operations_of vs (drop k us))) next
  where
    next : suc i ≡ i + 1
    next = omega arith

-- one whose package can't be taken leads nowhere
pub version_none : (meta : Meta) (m : State) (vs : List Version) (us : List ℕ) (i d : ℕ) → i < length us
    → fold_package meta m (package_of_version vs (get_or us i d)) ≡ None → fold_package meta m (operations_of vs (drop i us)) ≡ None
version_none meta m vs us i d below is =
    ap (λ l. fold_package meta m (operations_of vs l)) (drop-cons us i d below)
    ∙ ap (fold meta m) (steps_append (package_of_version vs (get_or us i d)) (operations_of vs (drop (suc i) us)))
    ∙ fold_append_none meta m (steps_all (package_of_version vs (get_or us i d))) (steps_all (operations_of vs (drop (suc i) us))) is

-- a call that failed at a version whose package can't be taken failed on a path that leads nowhere
pub cannot_follow : (meta : Meta) (start m : State) (vs : List Version) (us : List ℕ) (i d : ℕ) (e : StepFault) (r : Result (Unit {0}) StepFault)
    → IsErr r → IsErrAnd r (λ f. f ≡ e) → i < length us
    → fold_package meta start (operations_of vs us) ≡ fold_package meta m (operations_of vs (drop i us))
    → (e ≢ Memory → fold_package meta m (package_of_version vs (get_or us i d)) ≡ None)
    → IfErr r (λ f. f ≢ Memory → fold_package meta start (operations_of vs us) ≡ None)
cannot_follow meta start m vs us i d e (Ok x) is_err is below same cannot = absurd cc
cannot_follow meta start m vs us i d e (Err f) is_err is below same cannot =
    λ not_memory. same ∙ version_none meta m vs us i d below (cannot (λ memory. not_memory (is ∙ memory)))
