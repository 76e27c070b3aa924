-- The empty state is good.
use Rattle.std.proofs.Common.{ℕ, sym, ap, subst, ◌∙◌, ◌&&◌, nat_eq}
use Rattle.std.specs.Prelude.{None, is_some}
use Rattle.std.specs.FinMap.{get, empty, get-empty}
use Rattle.finite_maps.specs.Equal.{text_eq}
use Rattle.finite_maps.specs.Maps.{is_within}
use Rattle.finite_maps.proofs.CountLaws.{count_none}
use Rattle.model_state.specs.declared.step.Place.{Place}
use Rattle.model_state.specs.declared.step.Place.TheVariants.{Inside}
use Rattle.model_state.specs.Keys.{IdBytes, RowKey, id_cmp, attr_cmp, row_cmp}
use Rattle.model_state.specs.Typing.{row_upper, child_upper}
use Rattle.model_state.specs.State.{nothing, place_eq}
use Rattle.model_state.specs.Good.{AttrOk, RowOk, PlaceOk}
use Rattle.model_laws.specs.Laws.{StartsGood}
use Rattle.model_state.proofs.Orders.{id_order, row_order}
use Rattle.model_laws.proofs.Births.{carry}
use Rattle.model_laws.proofs.Many.{within_none}
use Rattle.finite_maps.proofs.Cases.{some_none}

pub starts_good : StartsGood
starts_good meta = record {
  places = record {
    stands = λ e. carry (λ c p r. PlaceOk meta empty c p r) None _ None _ None _ (get-empty id_cmp e) (get-empty id_cmp e) (get-empty id_cmp e) tt;
    bound = λ a f. ap (λ n. is_within n (child_upper meta f))
        (count_none id_order (λ (x : IdBytes × Place). place_eq (Inside a f) x.1) empty
        (λ q v is. absurd (some_none (get empty q) v is (get-empty id_cmp q)))) ∙ within_none (child_upper meta f);
    ends = λ e p is. absurd (some_none (get empty e) p is (get-empty id_cmp e));
  };
  attrs = record { typed = λ e f. subst (λ o. AttrOk meta (get nothing.kind e) f o) (sym (get-empty attr_cmp (e, f))) tt };
  rows = record {
    typed = λ a f b. subst (λ o. RowOk meta (get nothing.kind a) f (get nothing.kind b) o) (sym (get-empty row_cmp (a, f, b))) tt;
    mirrored = λ a f b g is. ap is_some (get-empty row_cmp (a, f, b)) ∙ sym (ap is_some (get-empty row_cmp (b, g, a)));
    bound = λ a f. ap (λ n. is_within n (row_upper meta f))
        (count_none row_order (λ (e : RowKey × ℕ). text_eq a e.0.0 && nat_eq f e.0.1) empty
        (λ q v is. absurd (some_none (get empty q) v is (get-empty row_cmp q)))) ∙ within_none (row_upper meta f);
  };
}
