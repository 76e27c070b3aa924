-- A good state is good with the metamodel that grew.
use Rattle.std.proofs.Common.{◌≡◌, ℕ, true, false, refl, sym, ap, subst, ◌∙◌, ◌&&◌, nat_eq, List, [], ◌∷◌}
use Rattle.std.specs.Prelude.{Option, None, Some, is_some}
use Rattle.std.specs.FinMap.{FinMap, get}
use Rattle.finite_maps.specs.Equal.{text_eq}
use Rattle.finite_maps.specs.Maps.{is_within, count}
use Rattle.finite_maps.proofs.EqualLaws.{and_first, and_second, text_equality, nat_equality}
use Rattle.finite_maps.proofs.CountLaws.{count_none}
use Rattle.finite_maps.proofs.Cases.{not_so, true_false}
use Rattle.ecore_meta.specs.Meta.{Meta}
use Rattle.ecore_meta.specs.Typing.{opposite_of, kind_of, upper_of}
use Rattle.ecore_meta.specs.declared.meta.Kind.{Kind}
use Rattle.ecore_meta.specs.declared.meta.Kind.TheVariants.{Attr, AttrMany}
use Rattle.ecore_meta.specs.declared.meta.Value.{Value}
use Rattle.model_state.specs.declared.step.Place.{Place}
use Rattle.model_state.specs.declared.step.Place.TheVariants.{Root, Inside}
use Rattle.model_state.specs.Keys.{IdBytes, RowKey, id_cmp}
use Rattle.model_state.specs.Typing.{row_upper, child_upper}
use Rattle.model_state.specs.State.{State, place_eq}
use Rattle.model_state.specs.Steps.{class_has, may_link}
use Rattle.model_state.specs.Good.{AttrOk, ValuesOk, RowOk, PlaceOk, StandsOk, Good, Sound}
use Rattle.model_state.proofs.Orders.{id_order, row_order}
use Rattle.model_state.proofs.StepTests.{place_equality}
use Rattle.model_laws.proofs.Many.{within_none}
use Rattle.growth_laws.proofs.Keeps.{Keeps}
use Rattle.growth_laws.proofs.Kept.{Same, same_kind, same_upper, same_opposite, same_row_upper, same_child_upper, has_kept, same_had, all_fit}
use Rattle.growth_laws.proofs.Kept.{fits_kept, contains_kept, link_same, link_kept}

-- an element that stands inside another stands in a feature of its class
pub stood_has : (o : Meta) (kind : FinMap id_cmp ℕ) (c : Option ℕ) (a : IdBytes) (f : ℕ) (r : Option ℕ)
    → PlaceOk o kind c (Some (Inside a f)) r → class_has o (get kind a) f ≡ true
stood_has o kind None a f r h = absurd h
stood_has o kind (Some c) a f None h = absurd h
stood_has o kind (Some c) a f (Some r) h = h.1.0

pub link_has : (o : Meta) (c : Option ℕ) (f : ℕ) (d : Option ℕ) → may_link o c f d ≡ true → class_has o c f ≡ true
link_has o None f d h = cc
link_has o (Some c) f None h = cc
link_has o (Some c) f (Some d) h = and_first _ _ h

module _ (o n : Meta) (keeps : Keeps o n) where
  values_kept : (k : Kind) (upper : Option ℕ) (vs : List Value) → ValuesOk o k upper vs → ValuesOk n k upper vs
  values_kept (Attr scalar default) upper (v ∷ []) h = (fits_kept o n keeps scalar v h.0, h.1)
  values_kept (AttrMany scalar unique) upper (v ∷ vs) h = (all_fit o n keeps scalar (v ∷ vs) h.0, h.1, h.2, h.3)
  values_kept k upper vs h = absurd h

  attr_ok : (c : Option ℕ) (f : ℕ) (vs : Option (List Value)) → AttrOk o c f vs → AttrOk n c f vs
  attr_ok c f None h = tt
  attr_ok None f (Some vs) h = absurd h
  attr_ok (Some c) f (Some vs) h =
      let s = same_had o n keeps (Some c) f h.0 in (
        has_kept o n keeps (Some c) f h.0,
        subst (λ k. ValuesOk n k (upper_of n f) vs) (sym (same_kind o n f s))
            (subst (λ u. ValuesOk n (kind_of o f) u vs) (sym (same_upper o n f s)) (values_kept (kind_of o f) (upper_of o f) vs h.1)),
      )

  row_ok : (c : Option ℕ) (f : ℕ) (d r : Option ℕ) → RowOk o c f d r → RowOk n c f d r
  row_ok c f d None h = tt
  row_ok c f d (Some r) h = link_kept o n keeps c f d h

  stands_ok : (kind : FinMap id_cmp ℕ) (c : ℕ) (p : Place) → StandsOk o kind c p → StandsOk n kind c p
  stands_ok kind c Root h = tt
  stands_ok kind c (Inside a f) h = (has_kept o n keeps (get kind a) f h.0, contains_kept o n keeps f (same_had o n keeps (get kind a) f h.0) c h.1)

  place_ok : (kind : FinMap id_cmp ℕ) (c : Option ℕ) (p : Option Place) (r : Option ℕ) → PlaceOk o kind c p r → PlaceOk n kind c p r
  place_ok kind None None None h = tt
  place_ok kind (Some c) (Some p) (Some r) h = (keeps.concrete c h.0, stands_ok kind c p h.1)
  place_ok kind c p r h = absurd h

  module _ (new_sound : Sound n) (m : State) (good : Good o m) where
    -- a place of another feature is empty
    pub none_stands : (a : IdBytes) (f : ℕ) → class_has o (get m.kind a) f ≡ false → count (λ (e : IdBytes × Place). place_eq (Inside a f) e.1) m.place ≡ 0
    none_stands a f lacks = count_none id_order (λ (e : IdBytes × Place). place_eq (Inside a f) e.1) m.place
        (λ q v is. not_so (place_eq (Inside a f) v) (λ same.
        let here : get m.place q ≡ Some (Inside a f) = is ∙ ap Some (sym (place_equality.exact (Inside a f) v same)) in
        true_false _ (stood_has o m.kind (get m.kind q) a f (get m.prank q)
        (subst (λ p. PlaceOk o m.kind (get m.kind q) p (get m.prank q)) here (good.places.stands q))) lacks))

    -- there is no row of another feature
    pub none_linked : (a : IdBytes) (f : ℕ) → class_has o (get m.kind a) f ≡ false → count (λ (e : RowKey × ℕ). text_eq a e.0.0 && nat_eq f e.0.1) m.row ≡ 0
    none_linked a f lacks = count_none row_order (λ (e : RowKey × ℕ). text_eq a e.0.0 && nat_eq f e.0.1) m.row
        (λ q v is. not_so (text_eq a q.0 && nat_eq f q.1) (λ same.
        let may : may_link o (get m.kind q.0) q.1 (get m.kind q.2) ≡ true = subst (λ r. RowOk o (get m.kind q.0) q.1 (get m.kind q.2) r) is
        (good.rows.typed q.0 q.1 q.2) in
        let has : class_has o (get m.kind q.0) q.1 ≡ true = link_has o (get m.kind q.0) q.1 (get m.kind q.2) may in
        let name : a ≡ q.0 = text_equality.exact a q.0 (and_first _ _ same) in
        let number : f ≡ q.1 = nat_equality.exact f q.1 (and_second _ _ same) in
        true_false (class_has o (get m.kind a) f)
        (subst (λ x. class_has o (get m.kind x) f ≡ true) (sym name)
        (subst (λ g. class_has o (get m.kind q.0) g ≡ true) (sym number) has)) lacks))

    place_bound : (a : IdBytes) (f : ℕ) → is_within (count (λ (e : IdBytes × Place). place_eq (Inside a f) e.1) m.place) (child_upper n f) ≡ true
    place_bound a f =
        elim (class_has o (get m.kind a) f) as (λ b. class_has o (get m.kind a) f ≡ b
        → is_within (count (λ (e : IdBytes × Place). place_eq (Inside a f) e.1) m.place) (child_upper n f) ≡ true) [
          | true ↦ λ has. subst (λ u. is_within (count (λ (e : IdBytes × Place). place_eq (Inside a f) e.1) m.place) u ≡ true)
              (sym (same_child_upper o n f (same_had o n keeps (get m.kind a) f has))) (good.places.bound a f)
          | false ↦ λ lacks. ap (λ x. is_within x (child_upper n f)) (none_stands a f lacks) ∙ within_none (child_upper n f)
        ] refl

    row_bound : (a : IdBytes) (f : ℕ) → is_within (count (λ (e : RowKey × ℕ). text_eq a e.0.0 && nat_eq f e.0.1) m.row) (row_upper n f) ≡ true
    row_bound a f =
        elim (class_has o (get m.kind a) f) as (λ b. class_has o (get m.kind a) f ≡ b
        → is_within (count (λ (e : RowKey × ℕ). text_eq a e.0.0 && nat_eq f e.0.1) m.row) (row_upper n f) ≡ true) [
          | true ↦ λ has. subst (λ u. is_within (count (λ (e : RowKey × ℕ). text_eq a e.0.0 && nat_eq f e.0.1) m.row) u ≡ true)
              (sym (same_row_upper o n f (same_had o n keeps (get m.kind a) f has))) (good.rows.bound a f)
          | false ↦ λ lacks. ap (λ x. is_within x (row_upper n f)) (none_linked a f lacks) ∙ within_none (row_upper n f)
        ] refl

    row_same : (a : IdBytes) (f : ℕ) (b : IdBytes) (r : ℕ) → get m.row (a, f, b) ≡ Some r → Same o n f
    row_same a f b r is = link_same o n keeps (get m.kind a) f (get m.kind b)
        (subst (λ x. RowOk o (get m.kind a) f (get m.kind b) x) is (good.rows.typed a f b))

    mirrored : (a : IdBytes) (f : ℕ) (b : IdBytes) (g : ℕ) → opposite_of n f ≡ Some g → is_some (get m.row (a, f, b)) ≡ is_some (get m.row (b, g, a))
    mirrored a f b g is =
        elim (get m.row (a, f, b)) as (λ x. get m.row (a, f, b) ≡ x → is_some (get m.row (a, f, b)) ≡ is_some (get m.row (b, g, a))) [
          | Some r ↦ λ here. good.rows.mirrored a f b g (sym (same_opposite o n f (row_same a f b r here)) ∙ is)
          | None ↦ λ here. elim (get m.row (b, g, a)) as (λ y. get m.row (b, g, a) ≡ y → is_some (get m.row (a, f, b)) ≡ is_some (get m.row (b, g, a))) [
            | Some r ↦ λ there. sym (good.rows.mirrored b g a f (sym (same_opposite o n g (row_same b g a r there)) ∙ new_sound.both f g is))
            | None ↦ λ there. ap is_some (here ∙ sym there)
          ] refl
        ] refl

    pub good_kept : Good n m
    good_kept = record {
      places = record {
        stands = λ e. place_ok m.kind (get m.kind e) (get m.place e) (get m.prank e) (good.places.stands e);
        bound = place_bound;
        ends = good.places.ends;
      };
      attrs = record { typed = λ e f. attr_ok (get m.kind e) f (get m.attr (e, f)) (good.attrs.typed e f) };
      rows = record {
        typed = λ a f b. row_ok (get m.kind a) f (get m.kind b) (get m.row (a, f, b)) (good.rows.typed a f b);
        mirrored = mirrored;
        bound = row_bound;
      };
    }
