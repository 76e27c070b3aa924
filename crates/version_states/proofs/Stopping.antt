-- The first step that can't be taken, after steps that can be, and where there is none.
use Rattle.std.proofs.Common.{◌≡◌, ℕ, suc, ◌+◌, List, [], ◌∷◌, ◌++◌, length, true, Option, Some, None, is_some, refl, sym, ◌∙◌, ap, arith}
use Rattle.std.specs.Prelude.{option_map}
use Rattle.std.proofs.lemmas.Option.{same_Some}
use Rattle.ecore_meta.specs.Meta.{Meta}
use Rattle.model_state.specs.State.{State}
use Rattle.model_state.specs.declared.step.ApplyFault.{ApplyFault}
use Rattle.model_state.specs.declared.step.Step.{Step}
use Rattle.model_state.specs.declared.operation.Operation.{Operation}
use Rattle.model_state.specs.Steps.{apply, first_stop, fold, further_on}
use Rattle.model_state.specs.Packages.{fold_package, steps_all}
use Rattle.model_laws.proofs.Runs.{fold_first}
use Rattle.model_laws.proofs.Stops.{further_none, no_stop_leads, stop_more}

pub further_sum : (a b : ℕ) (o : Option ApplyFault) → further_on a (further_on b o) ≡ further_on (a + b) o
further_sum a b None = refl
further_sum a b (Some x) = ap (λ k. Some (record { at = k; fault = x.fault })) (sums a b x.at)
  where
    sums : (a b k : ℕ) → a + (b + k) ≡ (a + b) + k
    sums a b k = omega arith

-- after steps that can be taken a stop is as many places further on
pub first_append : (meta : Meta) (m n : State) (ss ts : List Step) → fold meta m ss ≡ Some n
    → first_stop meta m (ss ++ ts) ≡ further_on (length ss) (first_stop meta n ts)
first_append meta m n [] ts run = ap (λ (x : State). first_stop meta x ts) (same_Some m n run) ∙ sym (further_none (first_stop meta n ts))
first_append meta m n (s ∷ ss) ts run =
    let first = fold_first meta m n s ss run in
    stop_more meta m s (ss ++ ts) first.0 ∙ ap (further_on 1) (first_append meta (apply meta m s) n ss ts first.1)
    ∙ further_sum 1 (length ss) (first_stop meta n ts) ∙ ap (λ (k : ℕ). further_on k (first_stop meta n ts)) (one (length ss))
  where
    one : (k : ℕ) → 1 + k ≡ suc k
    one k = omega arith

-- ---- where none can't be taken, all lead
no_stop : (o : Option ApplyFault) → None ≡ option_map (λ (x : ApplyFault). x.at) o → o ≡ None
no_stop None is = refl
no_stop (Some x) is = absurd cc

pub none_stops : (meta : Meta) (m : State) (os : List Operation) → None ≡ option_map (λ (x : ApplyFault). x.at) (first_stop meta m (steps_all os))
    → is_some (fold_package meta m os) ≡ true
none_stops meta m os is = ap is_some (no_stop_leads meta m (steps_all os) (no_stop (first_stop meta m (steps_all os)) is)).1
