-- Runs of steps: what is recorded in a workspace, after the operations up to its base.
use Rattle.std.proofs.Common.{◌≡◌, ℕ, ◌-◌, List, [], ◌∷◌, ◌++◌, true, false, length, take, drop, take-append-drop, Option, None, Some, is_some, refl}
use Rattle.std.proofs.Common.{sym, ◌∙◌, ap, subst, append-nil, append_assoc}
use Rattle.std.specs.Prelude.{not, unwrap_or}
use Rattle.std.specs.List.{AllByRecursion}
use Rattle.std.proofs.lemmas.List.Elements.{recursion_from_All}
use Rattle.ecore_meta.specs.Meta.{Meta}
use Rattle.model_state.specs.State as models
use Rattle.model_state.specs.State.{nothing}
use Rattle.model_state.specs.Steps.{fold}
use Rattle.model_state.specs.Packages.{steps_of, steps_all, fold_package}
use Rattle.model_state.specs.declared.step.Step.{Step}
use Rattle.model_state.specs.declared.operation.Operation.{Operation}
use Rattle.model_state.specs.declared.operation.Operation.TheVariants.{Simple, Composite}
use Rattle.model_laws.proofs.Runs.{fold_append}
use Rattle.op_form.specs.Formed.{IsStep, IsOperation}
use Rattle.history_tree.specs.History.{History}
use Rattle.history_tree.specs.States.{state_folded, state_of}
use Rattle.plain_repository.specs.State.{Workspace, Composite as Open, untouched, open_steps, recorded_steps, folded, model_of, is_closed}
use Rattle.plain_repository.specs.Edits.{added, takes, can_follow}
use Rattle.plain_repository.specs.Composites.{with_open, with_closed}
use Rattle.plain_repository.specs.Local.{without_last}
use Rattle.plain_repository.specs.Orderly.{IsRun, RunsTo, Runs, steps_to}
use Rattle.plain_repository.proofs.Encodings.{and_right}
use Rattle.plain_repository.proofs.Places.{both, front}
use Rattle.plain_repository.proofs.Recorded.{ByWay, by_way, steps_append, more_steps, opened_steps, closed_steps}

pub same_run : (meta : Meta) (ss ts : List Step) → ss ≡ ts → IsRun meta ts → IsRun meta ss
same_run meta ss ts same run = subst (IsRun meta) (sym same) run

pub front_run : (meta : Meta) (ss ts : List Step) → IsRun meta (ss ++ ts) → IsRun meta ss
front_run meta ss ts r =
    let way : ByWay meta nothing r.model ss ts = by_way meta nothing r.model ss ts r.run in
    record { model = way.way; run = way.first; spelled = front IsStep ss ts r.spelled }

pub longer_run : (meta : Meta) (ss ts : List Step) (r : IsRun meta ss) → is_some (fold meta r.model ts) ≡ true → AllByRecursion IsStep ts
    → IsRun meta (ss ++ ts)
longer_run meta ss ts r taken spelled = by (fold meta r.model ts) refl taken
  where
    by : (o : Option models.State) → fold meta r.model ts ≡ o → is_some o ≡ true → IsRun meta (ss ++ ts)
    by None is some = absurd cc
    by (Some m) is some = record { model = m; run = fold_append meta nothing r.model ss ts r.run ∙ is; spelled = both IsStep ss ts r.spelled spelled }

-- the steps of operations that have a spelling have one
operation_spelled : (o : Operation) → IsOperation o → AllByRecursion IsStep (steps_of o)
operation_spelled (Simple kind steps) is = recursion_from_All IsStep steps is.1.2
operation_spelled (Composite name steps) is = recursion_from_All IsStep steps is.1.2

operations_spelled : (os : List Operation) → AllByRecursion IsOperation os → AllByRecursion IsStep (steps_all os)
operations_spelled [] all = tt
operations_spelled (o ∷ os) all = both IsStep (steps_of o) (steps_all os) (operation_spelled o all.0) (operations_spelled os all.1)

-- ---- versions
-- the state of a version is the model that they lead to
pub version_folded : (meta : Meta) (h : History) (v : ℕ) (r : RunsTo meta h v) → state_folded meta h v ≡ Some r.model
version_folded meta h v r = r.run

pub version_model : (meta : Meta) (h : History) (v : ℕ) (r : RunsTo meta h v) → state_of meta h v ≡ r.model
version_model meta h v r = ap (λ (o : Option models.State). unwrap_or o nothing) r.run

-- ---- workspaces
-- the recorded steps lead from the base's state to the model of the run
pub workspace_folded : (meta : Meta) (h : History) (w : Workspace) (r : Runs meta h w) → folded meta h w ≡ Some r.model
workspace_folded meta h w r =
    let way : ByWay meta nothing r.model (steps_to h w.base) (recorded_steps w) = by_way meta nothing r.model (steps_to h w.base) (recorded_steps w) r.run in
    ap (λ (m : models.State). fold meta m (recorded_steps w)) (ap (λ (o : Option models.State). unwrap_or o nothing) way.first) ∙ way.rest

pub workspace_model : (meta : Meta) (h : History) (w : Workspace) (r : Runs meta h w) → model_of meta h w ≡ r.model
workspace_model meta h w r = ap (λ (o : Option models.State). unwrap_or o nothing) (workspace_folded meta h w r)

pub untouched_runs : (meta : Meta) (h : History) (branch base : ℕ) → RunsTo meta h base → Runs meta h (untouched branch base)
untouched_runs meta h branch base = same_run meta (steps_to h base ++ []) (steps_to h base) (append-nil (steps_to h base))

-- the steps of further operations come last
pub more_runs : (meta : Meta) (h : History) (more : List Operation) → AllByRecursion IsOperation more → (w : Workspace)
    → can_follow meta h (Some w) more ≡ true → Runs meta h w → (c : Option Open) → w.composite ≡ c
    → IsRun meta (steps_to h w.base ++ recorded_steps (added more c w))
more_runs meta h [] spelled w can r c is = absurd cc
more_runs meta h (o ∷ os) spelled w can r c is =
    same_run meta (steps_to h w.base ++ recorded_steps (added (o ∷ os) c w)) ((steps_to h w.base ++ recorded_steps w) ++ steps_all (o ∷ os))
    (ap (λ (l : List Step). steps_to h w.base ++ l) (more_steps (o ∷ os) c w is)
    ∙ sym (append_assoc (steps_to h w.base) (recorded_steps w) (steps_all (o ∷ os))))
    (longer_run meta (steps_to h w.base ++ recorded_steps w) (steps_all (o ∷ os)) r
    (subst (λ (m : models.State). is_some (fold_package meta m (o ∷ os)) ≡ true) (workspace_model meta h w r)
    (and_right (takes w.composite (o ∷ os)) (is_some (fold_package meta (model_of meta h w) (o ∷ os))) can))
    (operations_spelled (o ∷ os) spelled))

pub not_open : (c : Option Open) → not (is_some c) ≡ true → is_some c ≡ false
not_open None closed = refl
not_open (Some c) closed = absurd cc

pub open_runs : (meta : Meta) (h : History) (name : List ℕ) (w : Workspace) → is_closed (Some w) ≡ true → Runs meta h w → Runs meta h (with_open name w)
open_runs meta h name w closed =
    same_run meta (steps_to h w.base ++ recorded_steps (with_open name w)) (steps_to h w.base ++ recorded_steps w)
    (ap (λ (l : List Step). steps_to h w.base ++ l) (opened_steps w.operations w.composite (not_open w.composite closed)))

pub closed_runs : (meta : Meta) (h : History) (w : Workspace) → Runs meta h w → Runs meta h (with_closed w)
closed_runs meta h w =
    same_run meta (steps_to h w.base ++ recorded_steps (with_closed w)) (steps_to h w.base ++ recorded_steps w)
    (ap (λ (l : List Step). steps_to h w.base ++ l) (closed_steps w.operations w.composite))

-- the steps of the first operations come first
first_steps : (os : List Operation) (n : ℕ) (c : Option Open) → is_some c ≡ false
    → (steps_all (take n os) ++ open_steps c) ++ steps_all (drop n os) ≡ steps_all os ++ open_steps c
first_steps os n None closed =
    ap (λ (l : List Step). l ++ steps_all (drop n os)) (append-nil (steps_all (take n os))) ∙ sym (steps_append (take n os) (drop n os))
    ∙ ap steps_all (take-append-drop n os) ∙ sym (append-nil (steps_all os))
first_steps os n (Some c) closed = absurd cc

pub last_runs : (meta : Meta) (h : History) (w : Workspace) → is_closed (Some w) ≡ true → Runs meta h w → Runs meta h (without_last w)
last_runs meta h w closed r =
    let n : ℕ = length w.operations - 1 in
    let gone : List Step = steps_all (drop n w.operations) in
    let left : List Step = recorded_steps (without_last w) in
    front_run meta (steps_to h w.base ++ left) gone
    (same_run meta ((steps_to h w.base ++ left) ++ gone) (steps_to h w.base ++ recorded_steps w)
    (append_assoc (steps_to h w.base) left gone
    ∙ ap (λ (l : List Step). steps_to h w.base ++ l) (first_steps w.operations n w.composite (not_open w.composite closed))) r)

-- where no composite is open, the steps are those of the operations
pub closed_steps_are : (w : Workspace) (c : Option Open) → w.composite ≡ c → is_closed (Some w) ≡ true → recorded_steps w ≡ steps_all w.operations
closed_steps_are w None is closed = ap (λ (c : Option Open). steps_all w.operations ++ open_steps c) is ∙ append-nil (steps_all w.operations)
closed_steps_are w (Some c) is closed = absurd (by (ap (λ (c : Option Open). not (is_some c)) (sym is) ∙ closed))
  where
    by : false ≡ true → ⊥
    by e = cc
