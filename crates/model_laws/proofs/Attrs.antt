-- Put: it undoes another, and keeps the invariant.
use Rattle.std.proofs.Common.{◌≡◌, ℕ, true, not, [], ◌∷◌, sym, ap, subst}
use Rattle.std.specs.Prelude.{Option, None, Some}
use Rattle.std.specs.FinMap.{get}
use Rattle.finite_maps.specs.Equal.{option_eq, list_eq}
use Rattle.finite_maps.specs.Maps.{set}
use Rattle.finite_maps.proofs.MapLaws.{set_back, get-set_same, get-set_other, by_key}
use Rattle.finite_maps.proofs.EqualLaws.{apart, option_equality}
use Rattle.ecore_meta.specs.Meta.{Meta}
use Rattle.ecore_meta.specs.declared.meta.Value.{Value}
use Rattle.model_state.specs.declared.step.Step.TheVariants.{Put}
use Rattle.model_state.specs.Keys.{IdBytes}
use Rattle.ecore_meta.specs.declared.meta.Kind.{Kind}
use Rattle.ecore_meta.specs.declared.meta.Kind.TheVariants.{Attr, AttrMany, Bounded, Free, Contains, Container, Skip}
use Rattle.model_state.specs.Typing.{value_eq, is_attr, attr_fits, is_default, kind_of}
use Rattle.model_state.specs.Good.{AttrOk, ValuesOk, Good}
use Rattle.model_state.specs.State.{State}
use Rattle.model_state.specs.Steps.{tests, Can, apply, single, class_has, value_fits, not_default}
use Rattle.model_state.proofs.Orders.{attr_order}
use Rattle.model_state.proofs.StepTests.{passed, pass, value_equality, values_equality}
use Rattle.finite_maps.proofs.Cases.{not_false, not_true}

-- a value that Put may set is one that the attribute may hold
value_ok : (meta : Meta) (k : Kind) (upper : Option ℕ) (v : Value) → is_attr k ≡ true → attr_fits meta k v ≡ true → not (is_default k v) ≡ true
    → ValuesOk meta k upper (v ∷ [])
value_ok meta (Attr scalar default) upper v is fit other = (fit, not_true _ other)
value_ok meta (AttrMany scalar unique) upper v is fit other = cc
value_ok meta (Bounded target opposite) upper v is fit other = cc
value_ok meta (Free target opposite) upper v is fit other = cc
value_ok meta (Contains target opposite) upper v is fit other = cc
value_ok meta (Container target opposite) upper v is fit other = cc
value_ok meta Skip upper v is fit other = cc

put_ok : (meta : Meta) (c : Option ℕ) (f : ℕ) (new : Option Value) → class_has meta c f ≡ true → is_attr (kind_of meta f) ≡ true
    → value_fits meta f new ≡ true → not_default meta f new ≡ true → AttrOk meta c f (single new)
put_ok meta c f None has is fit other = tt
put_ok meta None f (Some v) has is fit other = cc
put_ok meta (Some c) f (Some v) has is fit other = (has, value_ok meta (kind_of meta f) _ v is fit other)

module _ (meta : Meta) (m : State) where
  pub put_undone : (e : IdBytes) (f : ℕ) (old new : Option Value) → Can meta m (Put e f old new)
      → apply meta (apply meta m (Put e f old new)) (Put e f new old) ≡ m
  put_undone e f old new can =
      let p = passed (tests meta m (Put e f old new)) can in
      let was = values_equality.exact _ _ p.1.1.1.1.1.1.1.1.0 in
      ap (λ a. record m { attr = a }) (set_back attr_order m.attr (e, f) (single old) (single new) was)

  pub put_back : (e : IdBytes) (f : ℕ) (old new : Option Value) → Can meta m (Put e f old new) → Can meta (apply meta m (Put e f old new)) (Put e f new old)
  put_back e f old new can =
      let p = passed (tests meta m (Put e f old new)) can in
      let q = p.1.1.1 in
      pass (tests meta (apply meta m (Put e f old new)) (Put e f new old)) (
        p.0,
        (
          p.1.0,
          (
            p.1.1.0,
            (
              q.1.0,
              (
                q.0,
                (
                  not_false _ (apart (option_eq value_eq) (option_equality value_eq value_equality) old new (not_true _ q.1.1.0)),
                  (
                    q.1.1.1.1.0,
                    (
                      q.1.1.1.0,
                      (
                        subst (λ x. option_eq (list_eq value_eq) x (single new) ≡ true) (sym (get-set_same attr_order m.attr (e, f) (single new)))
                            (values_equality.own (single new)),
                        tt,
                      ),
                    ),
                  ),
                ),
              ),
            ),
          ),
        ),
      )

  pub put_keeps : Good meta m → (e : IdBytes) (f : ℕ) (old new : Option Value) → Can meta m (Put e f old new) → Good meta (apply meta m (Put e f old new))
  put_keeps good e f old new can =
      let p = passed (tests meta m (Put e f old new)) can in
      record {
        places = good.places;
        attrs = record {
          typed = λ x h.
              by_key attr_order (λ q. AttrOk meta (get m.kind q.0) q.1 (get (set m.attr (e, f) (single new)) q)) (e, f) (x, h)
              (subst (λ o. AttrOk meta (get m.kind e) f o) (sym (get-set_same attr_order m.attr (e, f) (single new)))
              (put_ok meta (get m.kind e) f new p.1.0 p.1.1.0 p.1.1.1.1.0 p.1.1.1.1.1.1.1.0))
              (λ apart. subst (λ o. AttrOk meta (get m.kind x) h o) (sym (get-set_other attr_order m.attr (e, f) (single new) (x, h) apart))
              (good.attrs.typed x h));
        };
        rows = good.rows;
      }
