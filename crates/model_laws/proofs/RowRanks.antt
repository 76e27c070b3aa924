-- RerankRow: it undoes another, and keeps the invariant.
use Rattle.std.proofs.Common.{◌≡◌, ℕ, ◌+◌, sym, ap, subst, ◌∙◌, ◌&&◌, arith, nat_eq}
use Rattle.std.specs.Prelude.{Some, is_some}
use Rattle.std.specs.FinMap.{get}
use Rattle.finite_maps.specs.Equal.{option_eq, text_eq}
use Rattle.finite_maps.specs.Maps.{set, count, counts, is_within}
use Rattle.finite_maps.proofs.MapLaws.{set_back, get-set_same, get-set_other, by_key}
use Rattle.finite_maps.proofs.CountLaws.{count-set}
use Rattle.finite_maps.proofs.EqualLaws.{apart, nat_equality}
use Rattle.ecore_meta.specs.Meta.{Meta}
use Rattle.model_state.specs.declared.step.Step.TheVariants.{RerankRow}
use Rattle.model_state.specs.Keys.{IdBytes, RowKey}
use Rattle.model_state.specs.Typing.{row_upper}
use Rattle.model_state.specs.State.{State}
use Rattle.model_state.specs.Steps.{tests, Can, apply}
use Rattle.model_state.specs.Good.{RowOk, Good}
use Rattle.model_state.proofs.Orders.{row_order}
use Rattle.model_state.proofs.StepTests.{passed, pass, number_equality}
use Rattle.finite_maps.proofs.Cases.{not_false, not_true}

module _ (meta : Meta) (m : State) (a : IdBytes) (f : ℕ) (b : IdBytes) (old new : ℕ) (can : Can meta m (RerankRow a f b old new)) where
  was : get m.row (a, f, b) ≡ Some old
  was = number_equality.exact _ _ (passed (tests meta m (RerankRow a f b old new)) can).1.1.1.1.1.0

  pub row_undone : apply meta (apply meta m (RerankRow a f b old new)) (RerankRow a f b new old) ≡ m
  row_undone = ap (λ r. record m { row = r }) (set_back row_order m.row (a, f, b) (Some old) (Some new) was)

  pub row_back : Can meta (apply meta m (RerankRow a f b old new)) (RerankRow a f b new old)
  row_back =
      let p = passed (tests meta m (RerankRow a f b old new)) can in
      let here = get-set_same row_order m.row (a, f, b) (Some new) in
      pass (tests meta (apply meta m (RerankRow a f b old new)) (RerankRow a f b new old)) (
        p.0,
        (
          p.1.0,
          (
            p.1.1.0,
            (
              ap is_some here,
              (
                not_false _ (apart nat_eq nat_equality old new (not_true _ p.1.1.1.1.0)),
                (ap (λ o. option_eq nat_eq o (Some new)) here ∙ number_equality.own (Some new), tt),
              ),
            ),
          ),
        ),
      )

  there : (q : RowKey) → is_some (get (set m.row (a, f, b) (Some new)) q) ≡ is_some (get m.row q)
  there q = by_key row_order (λ q. is_some (get (set m.row (a, f, b) (Some new)) q) ≡ is_some (get m.row q)) (a, f, b) q
      (ap is_some (get-set_same row_order m.row (a, f, b) (Some new)) ∙ sym (ap is_some was))
      (λ other. ap is_some (get-set_other row_order m.row (a, f, b) (Some new) q other))

  pub row_keeps : Good meta m → Good meta (apply meta m (RerankRow a f b old new))
  row_keeps good = record {
    places = good.places;
    attrs = good.attrs;
    rows = record {
      typed = λ x h y. by_key row_order (λ q. RowOk meta (get m.kind q.0) q.1 (get m.kind q.2) (get (set m.row (a, f, b) (Some new)) q)) (a, f, b) (x, h, y)
          (subst (λ o. RowOk meta (get m.kind a) f (get m.kind b) o) (sym (get-set_same row_order m.row (a, f, b) (Some new)))
          (subst (λ o. RowOk meta (get m.kind a) f (get m.kind b) o) was (good.rows.typed a f b)))
          (λ other. subst (λ o. RowOk meta (get m.kind x) h (get m.kind y) o)
          (sym (get-set_other row_order m.row (a, f, b) (Some new) (x, h, y) other)) (good.rows.typed x h y));
      mirrored = λ x h y k opp. there (x, h, y) ∙ good.rows.mirrored x h y k opp ∙ sym (there (y, k, x));
      bound = λ x h.
          let p = λ (e : RowKey × ℕ). text_eq x e.0.0 && nat_eq h e.0.1 in
          let sum : count p (set m.row (a, f, b) (Some new)) + counts p (a, f, b) (get m.row (a, f, b)) ≡ count p m.row + counts p (a, f, b)
          (Some new) = count-set row_order p m.row (a, f, b) (Some new) in
          let one : counts p (a, f, b) (get m.row (a, f, b)) ≡ counts p (a, f, b) (Some new) = ap (counts p (a, f, b)) was in
          let same : count p (set m.row (a, f, b) (Some new)) ≡ count p m.row = omega (arith, sum, one) in
          ap (λ n. is_within n (row_upper meta h)) same ∙ good.rows.bound x h;
    };
  }
