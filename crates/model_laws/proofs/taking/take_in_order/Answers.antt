-- one step more
use Rattle.std.proofs.Common.{◌≡◌, Some, suc, ◌+◌, ◌<◌, length, drop, take, ◌∷◌, [], ◌++◌, ap, sym, subst, ◌∙◌, add-one, drop-cons}
use Rattle.std.proofs.lemmas.List.{take_more}
use Rattle.model_state.specs.Steps.{Can, fold, apply, first_stop, further_on}
use Rattle.model_state.specs.Good.{Good}
use Rattle.model_laws.proofs.Runs.{undoes, fold_more}
use Rattle.model_laws.proofs.Stops.{stop_more, further_twice, fold_last}
use Rattle.model_laws.proofs.taking.take_in_order.Goals as goal

pub loop-at-preserved : goal.loop-at-preserved
loop-at-preserved g c =
    let meta = c.args.meta.now in
    let start = g.M.Look.state c.args.model.now in
    let m = g.M.Look.state c.loop-at.model in
    let s = c.index-steps-at.result in
    let i = c.loop-at.at in
    let steps = c.args.steps.now in
    let can : Can meta m s = c.in_default.ensures.can in
    let done : g.M.Look.state c.apply.new.self ≡ apply meta m s = c.in_default.ensures.done in
    let inside : i < length steps = c.loop-at-test.true in
    let so_far : take (i + 1) steps ≡ take i steps ++ s ∷ [] = take_more steps i s inside ∙ ap (λ x. take i steps ++ x ∷ []) (sym c.index-steps-at.is) in
    let next : drop i steps ≡ s ∷ drop (i + 1) steps = rw (add-one, drop-cons steps i s) (ap (λ x. x ∷ drop (suc i) steps) (sym c.index-steps-at.is)) in
    record {
      good = subst (λ x. Good meta x) (sym done) (undoes meta c.recall_soundness.ensures m c.loop-at.invariant.good s can).keeps;
      taken = ap (fold meta start) so_far ∙ fold_last meta start m (take i steps) s c.loop-at.invariant.taken can ∙ ap Some (sym done);
      rest = ap (λ x. fold meta x (drop (i + 1) steps)) done ∙ sym (fold_more meta m s (drop (i + 1) steps) can) ∙ ap (fold meta m) (sym next)
          ∙ c.loop-at.invariant.rest;
      stops = ap (λ x. further_on (i + 1) (first_stop meta x (drop (i + 1) steps))) done
          ∙ sym (further_twice i (first_stop meta (apply meta m s) (drop (i + 1) steps)))
          ∙ ap (further_on i) (sym (stop_more meta m s (drop (i + 1) steps) can) ∙ ap (first_stop meta m) (sym next)) ∙ c.loop-at.invariant.stops;
    }
