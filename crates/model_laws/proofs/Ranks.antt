-- RerankPlace: it undoes another, and keeps the invariant.
use Rattle.std.proofs.Common.{◌≡◌, ℕ, sym, ap, subst, ◌∙◌, nat_eq}
use Rattle.std.specs.Prelude.{Option, None, Some}
use Rattle.std.specs.FinMap.{FinMap, get}
use Rattle.finite_maps.specs.Equal.{option_eq}
use Rattle.finite_maps.specs.Maps.{set}
use Rattle.finite_maps.proofs.MapLaws.{set_back, get-set_same, get-set_other, by_key}
use Rattle.finite_maps.proofs.EqualLaws.{apart, nat_equality}
use Rattle.ecore_meta.specs.Meta.{Meta}
use Rattle.model_state.specs.declared.step.Place.{Place}
use Rattle.model_state.specs.declared.step.Step.TheVariants.{RerankPlace}
use Rattle.model_state.specs.Keys.{IdBytes, id_cmp}
use Rattle.model_state.specs.State.{State}
use Rattle.model_state.specs.Steps.{tests, Can, apply}
use Rattle.model_state.specs.Good.{PlaceOk, Good}
use Rattle.model_state.proofs.Orders.{id_order}
use Rattle.model_state.proofs.StepTests.{passed, pass, number_equality}
use Rattle.finite_maps.proofs.Cases.{not_false, not_true}

-- the rank's value does not matter
any_rank : (meta : Meta) (kind : FinMap id_cmp ℕ) (c : Option ℕ) (p : Option Place) (r : Option ℕ) (old new : ℕ) → r ≡ Some old
    → PlaceOk meta kind c p r → PlaceOk meta kind c p (Some new)
any_rank meta kind None None None old new is h = cc
any_rank meta kind None None (Some r) old new is h = absurd h
any_rank meta kind None (Some p) r old new is h = absurd h
any_rank meta kind (Some c) None r old new is h = absurd h
any_rank meta kind (Some c) (Some p) None old new is h = absurd h
any_rank meta kind (Some c) (Some p) (Some r) old new is h = h

module _ (meta : Meta) (m : State) (e : IdBytes) (old new : ℕ) (can : Can meta m (RerankPlace e old new)) where
  was : get m.prank e ≡ Some old
  was = number_equality.exact _ _ (passed (tests meta m (RerankPlace e old new)) can).1.1.0

  pub place_undone : apply meta (apply meta m (RerankPlace e old new)) (RerankPlace e new old) ≡ m
  place_undone = ap (λ r. record m { prank = r }) (set_back id_order m.prank e (Some old) (Some new) was)

  pub place_back : Can meta (apply meta m (RerankPlace e old new)) (RerankPlace e new old)
  place_back =
      let p = passed (tests meta m (RerankPlace e old new)) can in
      pass (tests meta (apply meta m (RerankPlace e old new)) (RerankPlace e new old)) (
        p.0,
        (
          not_false _ (apart nat_eq nat_equality old new (not_true _ p.1.0)),
          (ap (λ o. option_eq nat_eq o (Some new)) (get-set_same id_order m.prank e (Some new)) ∙ number_equality.own (Some new), tt),
        ),
      )

  pub place_keeps : Good meta m → Good meta (apply meta m (RerankPlace e old new))
  place_keeps good = record {
    places = record {
      stands = λ x. by_key id_order (λ x. PlaceOk meta m.kind (get m.kind x) (get m.place x) (get (set m.prank e (Some new)) x)) e x
          (subst (λ r. PlaceOk meta m.kind (get m.kind e) (get m.place e) r) (sym (get-set_same id_order m.prank e (Some new)))
          (any_rank meta m.kind (get m.kind e) (get m.place e) (get m.prank e) old new was (good.places.stands e)))
          (λ apart. subst (λ r. PlaceOk meta m.kind (get m.kind x) (get m.place x) r) (sym (get-set_other id_order m.prank e (Some new) x apart))
          (good.places.stands x));
      bound = good.places.bound;
      ends = good.places.ends;
    };
    attrs = good.attrs;
    rows = good.rows;
  }
