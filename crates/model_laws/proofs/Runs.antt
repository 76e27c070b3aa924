-- Each step, and runs of steps.
use Rattle.std.proofs.Common.{◌≡◌, List, [], ◌∷◌, ◌++◌, refl, sym, ap, subst, ◌∙◌}
use Rattle.std.specs.Prelude.{Option, None, Some}
use Rattle.ecore_meta.specs.Meta.{Meta}
use Rattle.model_state.specs.declared.step.Step.{Step}
use Rattle.model_state.specs.declared.step.Step.TheVariants.{Put, Ins, Del, Shift, Link, Unlink, RerankRow, New, Gone, Move, RerankPlace}
use Rattle.model_state.specs.declared.step.StepFault.{StepFault}
use Rattle.model_state.specs.State.{State}
use Rattle.model_state.specs.Steps.{Can, fault, apply, rev, rev_all, fold, fault_along}
use Rattle.model_state.specs.Good.{Good, Sound}
use Rattle.model_laws.specs.Laws.{ReversalUndoes, StepsKeepGood}
use Rattle.model_laws.proofs.Attrs.{put_undone, put_back, put_keeps}
use Rattle.model_laws.proofs.Births.{new_undone, new_back, new_keeps, gone_undone, gone_back, gone_keeps}
use Rattle.model_laws.proofs.Links.{link_undone, link_back, link_keeps, unlink_undone, unlink_back, unlink_keeps}
use Rattle.model_laws.proofs.Many.{shift_undone, shift_returns, shift_keeps, ins_undone, ins_back, ins_keeps, del_undone, del_back, del_keeps}
use Rattle.model_laws.proofs.RowRanks.{row_undone, row_back, row_keeps}
use Rattle.model_laws.proofs.Moves.{move_undone, move_back, move_keeps}
use Rattle.model_laws.proofs.Ranks.{place_undone, place_back, place_keeps}

-- equal options hold equal states
pub same_state : (m n : State) → Some m ≡ Some n → m ≡ n
same_state m n e = cc

-- what is proved of each step that can be taken
pub record Undoes (meta : Meta) (m : State) (s : Step) : Type 0 where
  pub keeps : Good meta (apply meta m s)
  pub back : Can meta (apply meta m s) (rev s)
  pub undone : apply meta (apply meta m s) (rev s) ≡ m

pub undoes : (meta : Meta) → Sound meta → (m : State) → Good meta m → (s : Step) → Can meta m s → Undoes meta m s
undoes meta sound m good (Put e f old new) can =
    record { keeps = put_keeps meta m good e f old new can; back = put_back meta m e f old new can; undone = put_undone meta m e f old new can }
undoes meta sound m good (New e class place rank) can =
    record {
      keeps = new_keeps meta m good e class place rank can;
      back = new_back meta m good e class place rank can;
      undone =
          new_undone meta m good e class place rank can;
    }
undoes meta sound m good (Gone e class place rank) can =
    record {
      keeps = gone_keeps meta m good e class place rank can;
      back = gone_back meta m good e class place rank can;
      undone =
          gone_undone meta m good e class place rank can;
    }
undoes meta sound m good (Link a f ra b rb) can =
    record {
      keeps = link_keeps meta sound m good a f ra b rb can;
      back = link_back meta sound m good a f ra b rb can;
      undone =
          link_undone meta sound m good a f ra b rb can;
    }
undoes meta sound m good (Unlink a f ra b rb) can =
    record {
      keeps = unlink_keeps meta sound m good a f ra b rb can;
      back = unlink_back meta sound m good a f ra b rb can;
      undone =
          unlink_undone meta sound m good a f ra b rb can;
    }
undoes meta sound m good (RerankPlace e old new) can =
    record { keeps = place_keeps meta m e old new can good; back = place_back meta m e old new can; undone = place_undone meta m e old new can }
undoes meta sound m good (Ins e f at v) can =
    record { keeps = ins_keeps meta m good e f at v can; back = ins_back meta m good e f at v can; undone = ins_undone meta m good e f at v can }
undoes meta sound m good (Del e f at v) can =
    record { keeps = del_keeps meta m good e f at v can; back = del_back meta m good e f at v can; undone = del_undone meta m good e f at v can }
undoes meta sound m good (Shift e f from to) can =
    record {
      keeps = shift_keeps meta m good e f from to can;
      back = shift_returns meta m good e f from to can;
      undone =
          shift_undone meta m good e f from to can;
    }
undoes meta sound m good (RerankRow a f b old new) can =
    record { keeps = row_keeps meta m a f b old new can good; back = row_back meta m a f b old new can; undone = row_undone meta m a f b old new can }
undoes meta sound m good (Move e from from_rank to to_rank above_from above_to) can =
    record {
      keeps = move_keeps meta m e from from_rank to to_rank above_from above_to can good;
      back =
          move_back meta m e from from_rank to to_rank above_from above_to can good;
      undone =
          move_undone meta m e from from_rank to to_rank above_from above_to can;
    }

-- a run goes on where the step can be taken
pub fold_more : (meta : Meta) (m : State) (s : Step) (ss : List Step) → Can meta m s → fold meta m (s ∷ ss) ≡ fold meta (apply meta m s) ss
fold_more meta m s ss can = ap (λ (o : Option StepFault). elim o as (λ _. Option State) [ None ↦ fold meta (apply meta m s) ss | Some _ ↦ None ]) can

-- a fault further on is the fault of the whole where the step can be taken, and the step's own where it can't
pub fault_more : (meta : Meta) (m : State) (s : Step) (ss : List Step) → Can meta m s → fault_along meta m (s ∷ ss) ≡ fault_along meta (apply meta m s) ss
fault_more meta m s ss can =
    ap (λ (o : Option StepFault). elim o as (λ _. Option StepFault) [ None ↦ fault_along meta (apply meta m s) ss | Some e ↦ Some e ]) can

pub fault_here : (meta : Meta) (m : State) (s : Step) (ss : List Step) (e : StepFault) → fault meta m s ≡ Some e → fault_along meta m (s ∷ ss) ≡ Some e
fault_here meta m s ss e is =
    ap (λ (o : Option StepFault). elim o as (λ _. Option StepFault) [ None ↦ fault_along meta (apply meta m s) ss | Some e ↦ Some e ]) is

-- from a run to its first step
pub fold_first : (meta : Meta) (m n : State) (s : Step) (ss : List Step) → fold meta m (s ∷ ss) ≡ Some n
    → Can meta m s × (fold meta (apply meta m s) ss ≡ Some n)
fold_first meta m n s ss h =
    elim (fault meta m s) as (λ o. fault meta m s ≡ o
    → (elim o as (λ _. Option State) [ None ↦ fold meta (apply meta m s) ss | Some _ ↦ None ]) ≡ Some n
    → Can meta m s × (fold meta (apply meta m s) ss ≡ Some n)) [
      | None ↦ λ is g. (is, g)
      | Some x ↦ λ _ g. cc
    ] refl h

-- one run after another
pub fold_append : (meta : Meta) (m n : State) (ss ts : List Step) → fold meta m ss ≡ Some n → fold meta m (ss ++ ts) ≡ fold meta n ts
fold_append meta m n [] ts h = ap (λ x. fold meta x ts) (same_state m n h)
fold_append meta m n (s ∷ ss) ts h =
    let p = fold_first meta m n s ss h in
    fold_more meta m s (ss ++ ts) p.0 ∙ fold_append meta (apply meta m s) n ss ts p.1

pub reversal_undoes : ReversalUndoes
reversal_undoes meta sound m n good [] h = sym h
reversal_undoes meta sound m n good (s ∷ ss) h =
    let p = fold_first meta m n s ss h in
    let u = undoes meta sound m good s p.0 in
    fold_append meta n (apply meta m s) (rev_all ss) (rev s ∷ []) (reversal_undoes meta sound (apply meta m s) n u.keeps ss p.1)
    ∙ fold_more meta (apply meta m s) (rev s) [] u.back ∙ ap Some u.undone

pub steps_keep_good : StepsKeepGood
steps_keep_good meta sound m n good [] h = subst (λ x. Good meta x) (same_state m n h) good
steps_keep_good meta sound m n good (s ∷ ss) h =
    let p = fold_first meta m n s ss h in
    steps_keep_good meta sound (apply meta m s) n (undoes meta sound m good s p.0).keeps ss p.1
