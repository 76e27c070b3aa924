-- The first step that can't be taken.
use Rattle.std.proofs.Common.{◌≡◌, ℕ, suc, zero, ◌+◌, List, [], ◌∷◌, ◌++◌, refl, sym, ap, subst, ◌∙◌, arith, take}
use Rattle.std.specs.Prelude.{Option, None, Some, slice_get}
use Rattle.std.specs.Option.{option_map}
use Rattle.ecore_meta.specs.Meta.{Meta}
use Rattle.model_state.specs.declared.step.ApplyFault.{ApplyFault}
use Rattle.model_state.specs.declared.step.Step.{Step}
use Rattle.model_state.specs.declared.step.StepFault.{StepFault}
use Rattle.model_state.specs.State.{State}
use Rattle.model_state.specs.Steps.{Can, fault, apply, fold, first_stop, fault_along, further_on}
use Rattle.model_laws.specs.Laws.{Stops, StopIsFirst, FirstIsStop, NoStopLeads, LeadsNoStop, StopIsFault}
use Rattle.model_laws.proofs.Runs.{fold_more, fold_first, fold_append, same_state}

-- a stop further on is that of the whole where the step can be taken, and the step's own where it can't
pub stop_more : (meta : Meta) (m : State) (s : Step) (ss : List Step) → Can meta m s
    → first_stop meta m (s ∷ ss) ≡ further_on 1 (first_stop meta (apply meta m s) ss)
stop_more meta m s ss can =
    ap (λ (o : Option StepFault).
    elim o as (λ _. Option ApplyFault) [ None ↦ further_on 1 (first_stop meta (apply meta m s) ss) | Some e ↦ Some (record { at = 0; fault = e }) ]) can

pub stop_here : (meta : Meta) (m : State) (s : Step) (ss : List Step) (e : StepFault) → fault meta m s ≡ Some e
    → first_stop meta m (s ∷ ss) ≡ Some (record { at = 0; fault = e })
stop_here meta m s ss e is =
    ap (λ (o : Option StepFault).
    elim o as (λ _. Option ApplyFault) [ None ↦ further_on 1 (first_stop meta (apply meta m s) ss) | Some e ↦ Some (record { at = 0; fault = e }) ]) is

pub further_twice : (n : ℕ) (o : Option ApplyFault) → further_on n (further_on 1 o) ≡ further_on (n + 1) o
further_twice n None = refl
further_twice n (Some x) = ap (λ k. Some (record { at = k; fault = x.fault })) (sums n x.at)
  where
    sums : (n k : ℕ) → n + (1 + k) ≡ (n + 1) + k
    sums n k = omega arith

pub further_none : (o : Option ApplyFault) → further_on 0 o ≡ o
further_none None = refl
further_none (Some x) = ap (λ k. Some (record { at = k; fault = x.fault })) (nothing x.at)
  where
    nothing : (k : ℕ) → 0 + k ≡ k
    nothing k = omega arith

-- one step more is taken
pub fold_last : (meta : Meta) (m n : State) (ss : List Step) (s : Step) → fold meta m ss ≡ Some n → Can meta n s
    → fold meta m (ss ++ s ∷ []) ≡ Some (apply meta n s)
fold_last meta m n ss s run can = fold_append meta m n ss (s ∷ []) run ∙ fold_more meta n s [] can

-- ---- the first stop
-- a place among the later steps, one further on
later : (meta : Meta) (m : State) (s : Step) (ss : List Step) → Can meta m s → (y : ApplyFault) → Stops meta (apply meta m s) ss y
    → Stops meta m (s ∷ ss) (record { at = suc y.at; fault = y.fault })
later meta m s ss can y stops = record {
  before = stops.before;
  step = stops.step;
  taken = fold_more meta m s (take y.at ss) can ∙ stops.taken;
  here = stops.here;
  cannot = stops.cannot;
}

same_stop : (x y : ApplyFault) → Some x ≡ Some y → x ≡ y
same_stop x y e = cc

further_is : (n : ℕ) → 1 + n ≡ suc n
further_is n = omega arith

pub stop_is_first : StopIsFirst
stop_is_first meta m [] x is = cc
stop_is_first meta m (s ∷ ss) x is =
    elim (fault meta m s) as (λ o. fault meta m s ≡ o
    → (elim o as (λ _. Option ApplyFault) [
      | None ↦ further_on 1 (first_stop meta (apply meta m s) ss)
      | Some e ↦ Some
          (record { at = 0; fault = e })
    ]) ≡ Some x → Stops meta m (s ∷ ss) x) [
      | None ↦ λ can there.
          elim (first_stop meta (apply meta m s) ss) as (λ o. first_stop meta (apply meta m s) ss ≡ o → further_on 1 o ≡ Some x → Stops meta m (s ∷ ss) x) [
            | None ↦ λ _ none. cc
            | Some y ↦ λ at same.
                subst (Stops meta m (s ∷ ss)) (ap (λ n. record { at = n; fault = y.fault }) (sym (further_is y.at)) ∙ same_stop _ x same)
                (later meta m s ss can y (stop_is_first meta (apply meta m s) ss y at))
          ] refl there
      | Some e ↦ λ cannot same. subst (Stops meta m (s ∷ ss)) (same_stop _ x same) (record { before = m; step = s; taken = refl; here = refl; cannot = cannot })
    ] refl is

same_step : (s t : Step) → Some s ≡ Some t → s ≡ t
same_step s t e = cc

stop_at : (meta : Meta) (m : State) (ss : List Step) (at : ℕ) (e : StepFault) (n : State) (t : Step) → fold meta m (take at ss) ≡ Some n
    → slice_get ss at ≡ Some t → fault meta n t ≡ Some e → first_stop meta m ss ≡ Some (record { at = at; fault = e })
stop_at meta m [] at e n t taken here cannot = cc
stop_at meta m (s ∷ ss) zero e n t taken here cannot = stop_here meta m s ss e ((λ i. fault meta (same_state m n taken i) (same_step s t here i)) ∙ cannot)
stop_at meta m (s ∷ ss) (suc k) e n t taken here cannot =
    let first = fold_first meta m n s (take k ss) taken in
    stop_more meta m s ss first.0 ∙ ap (further_on 1) (stop_at meta (apply meta m s) ss k e n t first.1 here cannot)
    ∙ ap (λ n. Some (record { at = n; fault = e })) (further_is k)

pub first_is_stop : FirstIsStop
first_is_stop meta m steps x stops = stop_at meta m steps x.at x.fault stops.before stops.step stops.taken stops.here stops.cannot

pub no_stop_leads : NoStopLeads
no_stop_leads meta m [] none = (m, refl)
no_stop_leads meta m (s ∷ ss) none =
    elim (fault meta m s) as (λ o. fault meta m s ≡ o
    → (elim o as (λ _. Option ApplyFault) [
      | None ↦ further_on 1 (first_stop meta (apply meta m s) ss)
      | Some e ↦ Some
          (record { at = 0; fault = e })
    ]) ≡ None → (n : State) × (fold meta m (s ∷ ss) ≡ Some n)) [
      | None ↦ λ can further.
          let rest = no_stop_leads meta (apply meta m s) ss (nothing (first_stop meta (apply meta m s) ss) further) in
          (rest.0, fold_more meta m s ss can ∙ rest.1)
      | Some e ↦ λ _ some. cc
    ] refl none
  where
    nothing : (o : Option ApplyFault) → further_on 1 o ≡ None → o ≡ None
    nothing None h = refl
    nothing (Some x) h = cc

pub leads_no_stop : LeadsNoStop
leads_no_stop meta m n [] run = refl
leads_no_stop meta m n (s ∷ ss) run =
    let first = fold_first meta m n s ss run in
    stop_more meta m s ss first.0 ∙ ap (further_on 1) (leads_no_stop meta (apply meta m s) n ss first.1)

pub stop_is_fault : StopIsFault
stop_is_fault meta m [] = refl
stop_is_fault meta m (s ∷ ss) =
    elim (fault meta m s) as (λ o.
    option_map (λ (x : ApplyFault). x.fault)
    (elim o as (λ _. Option ApplyFault) [ None ↦ further_on 1 (first_stop meta (apply meta m s) ss) | Some e ↦ Some (record { at = 0; fault = e }) ])
    ≡ elim o as (λ _. Option StepFault) [ None ↦ fault_along meta (apply meta m s) ss | Some e ↦ Some e ]) [
      | None ↦ same_fault (first_stop meta (apply meta m s) ss) ∙ stop_is_fault meta (apply meta m s) ss
      | Some e ↦ refl
    ]
  where
    same_fault : (o : Option ApplyFault) → option_map (λ (x : ApplyFault). x.fault) (further_on 1 o) ≡ option_map (λ (x : ApplyFault). x.fault) o
    same_fault None = refl
    same_fault (Some x) = refl
