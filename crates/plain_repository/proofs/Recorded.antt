-- The steps recorded in a workspace, and where the first of some steps lead.
use Rattle.std.proofs.Common.{◌≡◌, ℕ, List, [], ◌∷◌, ◌++◌, false, Option, None, Some, is_some, refl, sym, ◌∙◌, ap, append_assoc, append-nil}
use Rattle.ecore_meta.specs.Meta.{Meta}
use Rattle.model_state.specs.State.{State}
use Rattle.model_state.specs.Steps.{apply, fold}
use Rattle.model_state.specs.Packages.{steps_of, steps_all}
use Rattle.model_state.specs.declared.step.Step.{Step}
use Rattle.model_state.specs.declared.operation.Operation.{Operation}
use Rattle.model_laws.proofs.Runs.{fold_first, fold_more}
use Rattle.plain_repository.specs.State.{Composite, Workspace, recorded_steps, open_steps}
use Rattle.plain_repository.specs.Edits.{added}
use Rattle.plain_repository.specs.Composites.{composed, operation_of_open}

-- where steps lead by way of what the first of them lead to
pub record ByWay (meta : Meta) (m n : State) (ss ts : List Step) : Type 0 where
  pub way : State
  pub first : fold meta m ss ≡ Some way
  pub rest : fold meta way ts ≡ Some n

pub by_way : (meta : Meta) (m n : State) (ss ts : List Step) → fold meta m (ss ++ ts) ≡ Some n → ByWay meta m n ss ts
by_way meta m n [] ts is = record { way = m; first = refl; rest = is }
by_way meta m n (s ∷ ss) ts is =
    let step = fold_first meta m n s (ss ++ ts) is in
    let at : ByWay meta (apply meta m s) n ss ts = by_way meta (apply meta m s) n ss ts step.1 in
    record { way = at.way; first = fold_more meta m s ss step.0 ∙ at.first; rest = at.rest }

pub steps_append : (ps qs : List Operation) → steps_all (ps ++ qs) ≡ steps_all ps ++ steps_all qs
steps_append [] qs = refl
steps_append (p ∷ ps) qs = ap (λ l. steps_of p ++ l) (steps_append ps qs) ∙ sym (append_assoc (steps_of p) (steps_all ps) (steps_all qs))

-- the steps of operations that are added after those that are there, or join the composite that is open
pub more_steps : (more : List Operation) (c : Option Composite) (w : Workspace) → w.composite ≡ c
    → recorded_steps (added more c w) ≡ recorded_steps w ++ steps_all more
more_steps more None w is =
    append-nil (steps_all (w.operations ++ more)) ∙ steps_append w.operations more
    ∙ ap (λ (l : List Step). l ++ steps_all more) (sym (append-nil (steps_all w.operations)))
    ∙ ap (λ (c : Option Composite). (steps_all w.operations ++ open_steps c) ++ steps_all more) (sym is)
more_steps more (Some c) w is =
    sym (append_assoc (steps_all w.operations) c.steps (steps_all more))
    ∙ ap (λ (c : Option Composite). (steps_all w.operations ++ open_steps c) ++ steps_all more) (sym is)

-- a composite that is opened where none is has no step
pub opened_steps : (os : List Operation) (c : Option Composite) → is_some c ≡ false → steps_all os ++ [] ≡ steps_all os ++ open_steps c
opened_steps os None closed = refl
opened_steps os (Some c) closed = absurd cc

-- the steps of a composite stay where they are when it is closed
pub closed_steps : (os : List Operation) (c : Option Composite) → steps_all (os ++ operation_of_open c) ++ [] ≡ steps_all os ++ open_steps c
closed_steps os None = ap (λ (l : List Operation). steps_all l ++ []) (append-nil os)
closed_steps os (Some c) = filled os c.name c.steps
  where
    filled : (os : List Operation) (name : List ℕ) (steps : List Step) → steps_all (os ++ composed name steps) ++ [] ≡ steps_all os ++ steps
    filled os name [] = ap (λ (l : List Operation). steps_all l ++ []) (append-nil os)
    filled os name (s ∷ ss) =
        append-nil (steps_all (os ++ composed name (s ∷ ss))) ∙ steps_append os (composed name (s ∷ ss))
        ∙ ap (λ (l : List Step). steps_all os ++ l) (append-nil (s ∷ ss))
