-- New and Gone: each undoes the other, and both keep the invariant.
use Rattle.std.proofs.Common.{◌≡◌, ℕ, ◌+◌, Bool, true, false, cond, not, List, [], ◌∷◌, refl, sym, ap, subst, ◌∙◌, ◌||◌, arith, nat_eq}
use Rattle.std.specs.Prelude.{Option, None, Some, is_some}
use Rattle.std.specs.Ordering.{eq_by_cmp}
use Rattle.std.specs.FinMap.{FinMap, get}
use Rattle.finite_maps.specs.Equal.{option_eq, text_eq}
use Rattle.finite_maps.specs.Maps.{is_within, set, count, counts}
use Rattle.finite_maps.proofs.MapLaws.{set_back, get-set_same, get-set_other, by_key, same_key}
use Rattle.finite_maps.proofs.CountLaws.{count-set, count_none, none_counted, one_more, one_less, one_free}
use Rattle.finite_maps.proofs.EqualLaws.{and_first, and_second, and_both, option_equality, text_equality, nat_equality}
use Rattle.ecore_meta.specs.Meta.{Meta}
use Rattle.ecore_meta.specs.declared.meta.Value.{Value}
use Rattle.model_state.specs.declared.step.Place.{Place}
use Rattle.model_state.specs.declared.step.Place.TheVariants.{Root, Inside}
use Rattle.model_state.specs.declared.step.Step.TheVariants.{New, Gone}
use Rattle.model_state.specs.Keys.{IdBytes, id_cmp}
use Rattle.model_state.specs.Typing.{kind_of, child_upper, contains_to}
use Rattle.model_state.specs.State.{State, place_eq, is_inside, value_count, link_count, inner_count}
use Rattle.model_state.specs.Steps.{tests, Can, apply, class_has, place_live, may_stand, has_room}
use Rattle.model_state.specs.Good.{AttrOk, RowOk, StandsOk, PlaceOk, IsChain, GoodAttrs, GoodRows, Good}
use Rattle.model_state.proofs.Orders.{id_order, attr_order, row_order}
use Rattle.model_state.proofs.StepTests.{passed, pass, place_equality, number_equality}
use Rattle.finite_maps.proofs.Cases.{no_some, not_so, not_true, some_none, true_false}

pub no_attr : (meta : Meta) (f : ℕ) (o : Option (List Value)) → AttrOk meta None f o → o ≡ None
no_attr meta f None h = refl
no_attr meta f (Some vs) h = absurd h

pub no_row_from : (meta : Meta) (f : ℕ) (d : Option ℕ) (o : Option ℕ) → RowOk meta None f d o → o ≡ None
no_row_from meta f d None h = refl
no_row_from meta f d (Some r) h = cc

pub no_row_to : (meta : Meta) (f : ℕ) (c : Option ℕ) (o : Option ℕ) → RowOk meta c f None o → o ≡ None
no_row_to meta f c None h = refl
no_row_to meta f None (Some r) h = cc
no_row_to meta f (Some c) (Some r) h = cc

-- an element that is not live has no place and no rank
pub no_place : (meta : Meta) (kind : FinMap id_cmp ℕ) (p : Option Place) (r : Option ℕ) → PlaceOk meta kind None p r → (p ≡ None) × (r ≡ None)
no_place meta kind None None h = (refl, refl)
no_place meta kind None (Some r) h = absurd h
no_place meta kind (Some p) r h = absurd h

-- the parent of an element has the feature that it stands in
pub parent_has : (meta : Meta) (kind : FinMap id_cmp ℕ) (c : Option ℕ) (a : IdBytes) (f : ℕ) (r : Option ℕ)
    → PlaceOk meta kind c (Some (Inside a f)) r → class_has meta (get kind a) f ≡ true
parent_has meta kind None a f r h = absurd h
parent_has meta kind (Some c) a f None h = absurd h
parent_has meta kind (Some c) a f (Some r) h = h.1.0

-- an id that is not live holds nothing
module _ (meta : Meta) (m : State) (good : Good meta m) (e : IdBytes) (dead : get m.kind e ≡ None) where
  pub dead_attr : (f : ℕ) → get m.attr (e, f) ≡ None
  dead_attr f = no_attr meta f _ (subst (λ k. AttrOk meta k f (get m.attr (e, f))) dead (good.attrs.typed e f))

  pub dead_from : (f : ℕ) (b : IdBytes) → get m.row (e, f, b) ≡ None
  dead_from f b = no_row_from meta f (get m.kind b) _ (subst (λ k. RowOk meta k f (get m.kind b) (get m.row (e, f, b))) dead (good.rows.typed e f b))

  pub dead_to : (a : IdBytes) (f : ℕ) → get m.row (a, f, e) ≡ None
  dead_to a f = no_row_to meta f (get m.kind a) _ (subst (λ k. RowOk meta (get m.kind a) f k (get m.row (a, f, e))) dead (good.rows.typed a f e))

  pub dead_place : (get m.place e ≡ None) × (get m.prank e ≡ None)
  dead_place = no_place meta m.kind _ _ (subst (λ k. PlaceOk meta m.kind k (get m.place e) (get m.prank e)) dead (good.places.stands e))

  pub dead_values : value_count m e ≡ 0
  dead_values = count_none attr_order (λ x. text_eq e x.0.0) m.attr (λ q v is. not_so _ (λ same.
      let here : q.0 ≡ e = sym (text_equality.exact _ _ same) in
      let none : get m.attr q ≡ None = ap (λ x. get m.attr (x, q.1)) here ∙ dead_attr q.1 in
      cc))

  pub dead_links : link_count m e ≡ 0
  dead_links = count_none row_order (λ x. text_eq e x.0.0 || text_eq e x.0.2) m.row (λ q v is. not_so (text_eq e q.0 || text_eq e q.2) (λ same.
      elim (text_eq e q.0) as (λ b. text_eq e q.0 ≡ b → b || text_eq e q.2 ≡ true → ⊥) [
        | true ↦ λ s _.
            let here : q.0 ≡ e = sym (text_equality.exact e q.0 s) in
            some_none (get m.row q) v is (ap (λ x. get m.row (x, q.1, q.2)) here ∙ dead_from q.1 q.2)
        | false ↦ λ _ s.
            let here : q.2 ≡ e = sym (text_equality.exact e q.2 s) in
            some_none (get m.row q) v is (ap (λ x. get m.row (q.0, q.1, x)) here ∙ dead_to q.0 q.1)
      ] refl same))

  -- no place is inside it
  pub dead_inner : (q : IdBytes) (p : Place) → get m.place q ≡ Some p → is_inside e p ≡ false
  dead_inner q Root is = refl
  dead_inner q (Inside a f) is = not_so _ (λ same.
      let here : a ≡ e = sym (text_equality.exact _ _ same) in
      let stands : PlaceOk meta m.kind (get m.kind q) (Some (Inside a f)) (get m.prank q) =
      subst (λ o. PlaceOk meta m.kind (get m.kind q) o (get m.prank q)) is (good.places.stands q) in
      let has : class_has meta (get m.kind a) f ≡ true = parent_has meta m.kind (get m.kind q) a f (get m.prank q) stands in
      let none : class_has meta (get m.kind a) f ≡ false = ap (λ x. class_has meta (get m.kind x) f) here ∙ ap (λ k. class_has meta k f) dead in
      cc)

  pub dead_children : inner_count m e ≡ 0
  dead_children = count_none id_order (λ x. is_inside e x.1) m.place (λ q v is. dead_inner q v is)

-- a chain stays where each place on it stays
pub chain_stays : (place place' : FinMap id_cmp Place) → ((q : IdBytes) (p : Place) → get place q ≡ Some p → get place' q ≡ Some p)
    → (o : Option Place) (xs : List IdBytes) → IsChain place o xs → IsChain place' o xs
chain_stays place place' stays None xs h = absurd h
chain_stays place place' stays (Some Root) [] h = tt
chain_stays place place' stays (Some Root) (x ∷ xs) h = absurd h
chain_stays place place' stays (Some (Inside a f)) [] h = absurd h
chain_stays place place' stays (Some (Inside a f)) (x ∷ xs) h = (
  h.0,
  elim (get place x) as (λ o. get place x ≡ o → IsChain place o xs → IsChain place' (get place' x) xs) [
    | None ↦ λ _ g. absurd g
    | Some p ↦ λ is g. subst (λ o. IsChain place' o xs) (sym (stays x p is)) (chain_stays place place' stays (Some p) xs g)
  ] refl h.1,
)

-- where an element may stand, among classes that were there before
pub stands_still : (meta : Meta) (kind kind' : FinMap id_cmp ℕ) (c : ℕ) (p : Place)
    → ((a : IdBytes) (f : ℕ) → p ≡ Inside a f → get kind' a ≡ get kind a) → StandsOk meta kind c p → StandsOk meta kind' c p
stands_still meta kind kind' c Root stays h = tt
stands_still meta kind kind' c (Inside a f) stays h = (ap (λ k. class_has meta k f) (stays a f refl) ∙ h.0, h.1)

pub places_still : (meta : Meta) (kind kind' : FinMap id_cmp ℕ) (c : Option ℕ) (p : Option Place) (r : Option ℕ)
    → ((a : IdBytes) (f : ℕ) → p ≡ Some (Inside a f) → get kind' a ≡ get kind a) → PlaceOk meta kind c p r → PlaceOk meta kind' c p r
places_still meta kind kind' None None None stays h = tt
places_still meta kind kind' None None (Some r) stays h = absurd h
places_still meta kind kind' None (Some p) r stays h = absurd h
places_still meta kind kind' (Some c) None r stays h = absurd h
places_still meta kind kind' (Some c) (Some p) None stays h = absurd h
places_still meta kind kind' (Some c) (Some p) (Some r) stays h = (h.0, stands_still meta kind kind' c p (λ a f is. stays a f (ap Some is)) h.1)

pub has_class : (meta : Meta) (c : Option ℕ) (f : ℕ) → class_has meta c f ≡ true → is_some c ≡ true
has_class meta None f h = cc
has_class meta (Some c) f h = refl

or_true : (b : Bool) → b || true ≡ true
or_true true = refl
or_true false = refl

live_has_place : (meta : Meta) (kind : FinMap id_cmp ℕ) (c : Option ℕ) (o : Option Place) (r : Option ℕ) → is_some c ≡ true → o ≡ None
    → PlaceOk meta kind c o r → ⊥
live_has_place meta kind None o r live none h = cc
live_has_place meta kind (Some c) None r live none h = h
live_has_place meta kind (Some c) (Some p) r live none h = cc

-- a fact of three values, carried along equations
pub carry : {A B C : Type 0} (P : A → B → C → Type 0) (a a' : A) (b b' : B) (c c' : C) → a' ≡ a → b' ≡ b → c' ≡ c → P a b c → P a' b' c'
carry P a a' b b' c c' p q r h = subst (λ x. P x b' c') (sym p) (subst (λ y. P a y c') (sym q) (subst (λ z. P a b z) (sym r) h))

-- the place of a live element has a chain
chain_at : (meta : Meta) (m : State) → Good meta m → (place' : FinMap id_cmp Place)
    → ((q : IdBytes) (p : Place) → get m.place q ≡ Some p → get place' q ≡ Some p) → (p : Place) → place_live m p ≡ true
    → (xs : List IdBytes) × IsChain place' (Some p) xs
chain_at meta m good place' stays Root live = ([], tt)
chain_at meta m good place' stays (Inside a f) live =
    elim (get m.place a) as (λ o. get m.place a ≡ o → (xs : List IdBytes) × IsChain place' (Some (Inside a f)) xs) [
      | None ↦ λ none. absurd (live_has_place meta m.kind (get m.kind a) (get m.place a) (get m.prank a) live none (good.places.stands a))
      | Some p ↦ λ is.
          let old = good.places.ends a p is in
          (a ∷ old.0, (refl, subst (λ o. IsChain place' o old.0) (sym (stays a p is)) (chain_stays m.place place' stays (Some p) old.0 old.1)))
    ] refl

-- ---- New
-- what New's tests say of the place, among the classes after it
new_may : (meta : Meta) (m : State) (kind' : FinMap id_cmp ℕ) (c : ℕ) (p : Place)
    → ((a : IdBytes) → is_some (get m.kind a) ≡ true → get kind' a ≡ get m.kind a) → may_stand meta m c p ≡ true → StandsOk meta kind' c p
new_may meta m kind' c Root stays h = tt
new_may meta m kind' c (Inside a f) stays h =
    let has : class_has meta (get m.kind a) f ≡ true = and_first _ _ h in
    (ap (λ k. class_has meta k f) (stays a (has_class meta (get m.kind a) f has)) ∙ has, and_second (class_has meta (get m.kind a) f) _ h)

-- an element that is live differs from one that is not
live_apart : (kind : FinMap id_cmp ℕ) (e a : IdBytes) → get kind e ≡ None → is_some (get kind a) ≡ true → eq_by_cmp id_cmp a e ≡ false
live_apart kind e a dead live = not_so _ (λ same.
    let here : is_some (get kind a) ≡ is_some (get kind e) = ap (λ x. is_some (get kind x)) (same_key id_order a e same) in
    let none : is_some (get kind e) ≡ false = ap is_some dead in
    cc)

-- an outer place is not inside the element
outside : (kind : FinMap id_cmp ℕ) (e : IdBytes) (p : Place) (m : State) → get m.kind e ≡ None → place_live m p ≡ true → is_inside e p ≡ false
outside kind e Root m dead live = refl
outside kind e (Inside a f) m dead live = not_so _ (λ same.
    let here : is_some (get m.kind e) ≡ is_some (get m.kind a) = ap (λ x. is_some (get m.kind x)) (text_equality.exact _ _ same) in
    let none : is_some (get m.kind e) ≡ false = ap is_some dead in
    cc)

module _ (meta : Meta) (m : State) (good : Good meta m) (e : IdBytes) (class : ℕ) (place : Place) (rank : ℕ) (can : Can meta m (New e class place rank)) where
  new_dead : get m.kind e ≡ None
  new_dead = no_some _ (not_true _ (passed (tests meta m (New e class place rank)) can).0)

  pub new_undone : apply meta (apply meta m (New e class place rank)) (Gone e class place rank) ≡ m
  new_undone =
      let none = dead_place meta m good e new_dead in
      let k = set_back id_order m.kind e None (Some class) new_dead in
      let p = set_back id_order m.place e None (Some place) none.0 in
      let r = set_back id_order m.prank e None (Some rank) none.1 in
      λ i. record m { kind = k i; place = p i; prank = r i }

  pub new_back : Can meta (apply meta m (New e class place rank)) (Gone e class place rank)
  new_back =
      let after = apply meta m (New e class place rank) in
      let p = passed (tests meta m (New e class place rank)) can in
      let none = dead_place meta m good e new_dead in
      let kind_is : get after.kind e ≡ Some class = get-set_same id_order m.kind e (Some class) in
      let place_is : get after.place e ≡ Some place = get-set_same id_order m.place e (Some place) in
      let rank_is : get after.prank e ≡ Some rank = get-set_same id_order m.prank e (Some rank) in
      let sum : inner_count after e + counts (λ (x : IdBytes × Place). is_inside e x.1) e (get m.place e) ≡ inner_count m e + counts
      (λ (x : IdBytes × Place). is_inside e x.1) e (Some place) = count-set id_order (λ x. is_inside e x.1) m.place e (Some place) in
      let was : counts (λ (x : IdBytes × Place). is_inside e x.1) e (get m.place e) ≡ 0 = ap (counts (λ (x : IdBytes × Place). is_inside e x.1) e) none.0 in
      let now : counts (λ (x : IdBytes × Place). is_inside e x.1) e (Some place) ≡ 0 = ap (λ b. cond b 1 0) (outside m.kind e place m new_dead p.1.0) in
      let before : inner_count m e ≡ 0 = dead_children meta m good e new_dead in
      let inner : inner_count after e ≡ 0 = omega (arith, sum, was, now, before) in
      pass (tests meta after (Gone e class place rank)) (
        ap is_some kind_is,
        (
          (ap (λ o. option_eq nat_eq o (Some class)) kind_is ∙ number_equality.own (Some class)),
          (
            (ap (λ o. option_eq place_eq o (Some place)) place_is ∙ place_equality.own place),
            (
              (ap (λ o. option_eq nat_eq o (Some rank)) rank_is ∙ number_equality.own (Some rank)),
              (
                ap (λ n. nat_eq n 0) (dead_values meta m good e new_dead),
                (
                  ap (λ n. nat_eq n 0) (dead_links meta m good e new_dead),
                  (
                    ap (λ n. nat_eq n 0) inner,
                    tt,
                  ),
                ),
              ),
            ),
          ),
        ),
      )

  new_attrs : GoodAttrs meta (set m.kind e (Some class)) m.attr
  new_attrs = record {
    typed = λ x f.
        by_key id_order (λ x. AttrOk meta (get (set m.kind e (Some class)) x) f (get m.attr (x, f))) e x
        (subst (λ o. AttrOk meta (get (set m.kind e (Some class)) e) f o) (sym (dead_attr meta m good e new_dead f)) tt)
        (λ apart. subst (λ k. AttrOk meta k f (get m.attr (x, f))) (sym (get-set_other id_order m.kind e (Some class) x apart)) (good.attrs.typed x f));
  }

  new_rows : GoodRows meta (set m.kind e (Some class)) m.row
  new_rows =
      let kind = set m.kind e (Some class) in
      record {
        typed = λ a f b.
            by_key id_order (λ a. RowOk meta (get kind a) f (get kind b) (get m.row (a, f, b))) e a
            (subst (λ o. RowOk meta (get kind e) f (get kind b) o) (sym (dead_from meta m good e new_dead f b)) tt)
            (λ apart. by_key id_order (λ b. RowOk meta (get kind a) f (get kind b) (get m.row (a, f, b))) e b
            (subst (λ o. RowOk meta (get kind a) f (get kind e) o) (sym (dead_to meta m good e new_dead a f)) tt)
            (λ apart'. subst (λ k. RowOk meta k f (get kind b) (get m.row (a, f, b))) (sym (get-set_other id_order m.kind e (Some class) a apart))
            (subst (λ k. RowOk meta (get m.kind a) f k (get m.row (a, f, b))) (sym (get-set_other id_order m.kind e (Some class) b apart'))
            (good.rows.typed a f b))));
        mirrored = good.rows.mirrored;
        bound = good.rows.bound;
      }

  new_stays : (a : IdBytes) → is_some (get m.kind a) ≡ true → get (set m.kind e (Some class)) a ≡ get m.kind a
  new_stays a live = get-set_other id_order m.kind e (Some class) a (live_apart m.kind e a new_dead live)

  new_place_stays : (q : IdBytes) (p : Place) → get m.place q ≡ Some p → get (set m.place e (Some place)) q ≡ Some p
  new_place_stays q p is = get-set_other id_order m.place e (Some place) q (not_so _ (λ same.
      some_none (get m.place q) p is (ap (λ x. get m.place x) (same_key id_order q e same) ∙ (dead_place meta m good e new_dead).0))) ∙ is

  new_stands : (x : IdBytes)
      → PlaceOk meta (set m.kind e (Some class)) (get (set m.kind e (Some class)) x) (get (set m.place e (Some place)) x)
      (get (set m.prank e (Some rank)) x)
  new_stands x =
      let kind' = set m.kind e (Some class) in
      let p = passed (tests meta m (New e class place rank)) can in
      by_key id_order (λ x. PlaceOk meta kind' (get kind' x) (get (set m.place e (Some place)) x) (get (set m.prank e (Some rank)) x)) e x
      (carry (λ c o r. PlaceOk meta kind' c o r) _ _ _ _ _ _ (get-set_same id_order m.kind e (Some class))
      (get-set_same id_order m.place e (Some place)) (get-set_same id_order m.prank e (Some rank))
      (p.1.1.0, new_may meta m kind' class place new_stays p.1.1.1.0))
      (λ apart. carry (λ c o r. PlaceOk meta kind' c o r) _ _ _ _ _ _ (get-set_other id_order m.kind e (Some class) x apart)
      (get-set_other id_order m.place e (Some place) x apart) (get-set_other id_order m.prank e (Some rank) x apart)
      (places_still meta m.kind kind' (get m.kind x) (get m.place x) (get m.prank x)
      (λ a f is. new_stays a
      (has_class meta (get m.kind a) f
      (parent_has meta m.kind (get m.kind x) a f (get m.prank x)
      (subst (λ o. PlaceOk meta m.kind (get m.kind x) o (get m.prank x)) is (good.places.stands x)))))
      (good.places.stands x)))

  new_bound : (a : IdBytes) (f : ℕ)
      → is_within (count (λ (x : IdBytes × Place). place_eq (Inside a f) x.1) (set m.place e (Some place))) (child_upper meta f) ≡ true
  new_bound a f =
      let p = passed (tests meta m (New e class place rank)) can in
      one_more id_order (λ (x : IdBytes × Place). place_eq (Inside a f) x.1) m.place e place (child_upper meta f)
      (dead_place meta m good e new_dead).0 (good.places.bound a f)
      (λ same. subst (λ q. has_room meta m q ≡ true) (sym (place_equality.exact (Inside a f) place same)) p.1.1.1.1.0)

  new_ends : (x : IdBytes) (p : Place) → get (set m.place e (Some place)) x ≡ Some p → (xs : List IdBytes) × IsChain (set m.place e (Some place)) (Some p) xs
  new_ends x p is =
      let place' = set m.place e (Some place) in
      elim (eq_by_cmp id_cmp x e) as (λ b. eq_by_cmp id_cmp x e ≡ b → (xs : List IdBytes) × IsChain place' (Some p) xs) [
        | true ↦ λ same.
            let here : get place' x ≡ Some place = ap (λ q. get place' q) (same_key id_order x e same) ∙ get-set_same id_order m.place e (Some place) in
            let it : Some place ≡ Some p = sym here ∙ is in
            subst (λ o. (xs : List IdBytes) × IsChain place' o xs) it
            (chain_at meta m good place' new_place_stays place (passed (tests meta m (New e class place rank)) can).1.0)
        | false ↦ λ apart.
            let old = good.places.ends x p (sym (get-set_other id_order m.place e (Some place) x apart) ∙ is) in
            (old.0, chain_stays m.place place' new_place_stays (Some p) old.0 old.1)
      ] refl

  pub new_keeps : Good meta (apply meta m (New e class place rank))
  new_keeps = record { places = record { stands = new_stands; bound = new_bound; ends = new_ends }; attrs = new_attrs; rows = new_rows }

-- ---- Gone
-- an option that has no value
pub no_value : {A : Type 0} (o : Option A) → ((v : A) → o ≡ Some v → ⊥) → o ≡ None
no_value None h = refl
no_value (Some v) h = absurd (h v refl)

-- an id that is not the element, by its bytes, is another key
pub other_key : (e a : IdBytes) → text_eq e a ≡ false → eq_by_cmp id_cmp a e ≡ false
other_key e a h = not_so _ (λ same. true_false (text_eq e a) (subst (λ x. text_eq e x ≡ true) (sym (same_key id_order a e same)) (text_equality.own e)) h)

module _ (meta : Meta) (m : State) (good : Good meta m) (e : IdBytes) (class : ℕ) (place : Place) (rank : ℕ) (can : Can meta m (Gone e class place rank)) where
  gone_kind : get m.kind e ≡ Some class
  gone_kind = number_equality.exact _ _ (passed (tests meta m (Gone e class place rank)) can).1.0

  gone_place : get m.place e ≡ Some place
  gone_place = (option_equality place_eq place_equality).exact _ _ (passed (tests meta m (Gone e class place rank)) can).1.1.0

  gone_rank : get m.prank e ≡ Some rank
  gone_rank = number_equality.exact _ _ (passed (tests meta m (Gone e class place rank)) can).1.1.1.0

  pub gone_undone : apply meta (apply meta m (Gone e class place rank)) (New e class place rank) ≡ m
  gone_undone =
      let k = set_back id_order m.kind e (Some class) None gone_kind in
      let p = set_back id_order m.place e (Some place) None gone_place in
      let r = set_back id_order m.prank e (Some rank) None gone_rank in
      λ i. record m { kind = k i; place = p i; prank = r i }

  gone_attr : (f : ℕ) → get m.attr (e, f) ≡ None
  gone_attr f =
      let zero = nat_equality.exact _ _ (passed (tests meta m (Gone e class place rank)) can).1.1.1.1.0 in
      no_value _ (λ v is. true_false (text_eq e e) (text_equality.own e) (none_counted attr_order (λ x. text_eq e x.0.0) m.attr zero (e, f) v is))

  gone_from : (f : ℕ) (b : IdBytes) → get m.row (e, f, b) ≡ None
  gone_from f b =
      let zero = nat_equality.exact _ _ (passed (tests meta m (Gone e class place rank)) can).1.1.1.1.1.0 in
      no_value _ (λ v is. true_false (text_eq e e || text_eq e b) (ap (λ x. x || text_eq e b) (text_equality.own e))
      (none_counted row_order (λ x. text_eq e x.0.0 || text_eq e x.0.2) m.row zero (e, f, b) v is))

  gone_to : (a : IdBytes) (f : ℕ) → get m.row (a, f, e) ≡ None
  gone_to a f =
      let zero = nat_equality.exact _ _ (passed (tests meta m (Gone e class place rank)) can).1.1.1.1.1.0 in
      no_value _ (λ v is. true_false (text_eq e a || text_eq e e) (ap (λ x. text_eq e a || x) (text_equality.own e) ∙ or_true (text_eq e a))
      (none_counted row_order (λ x. text_eq e x.0.0 || text_eq e x.0.2) m.row zero (a, f, e) v is))

  gone_inner : (q : IdBytes) (p : Place) → get m.place q ≡ Some p → is_inside e p ≡ false
  gone_inner q p is =
      let zero = nat_equality.exact _ _ (passed (tests meta m (Gone e class place rank)) can).1.1.1.1.1.1.0 in
      none_counted id_order (λ x. is_inside e x.1) m.place zero q p is

  gone_stays : (a : IdBytes) (f : ℕ) (q : IdBytes) → get m.place q ≡ Some (Inside a f) → get (set m.kind e None) a ≡ get m.kind a
  gone_stays a f q is = get-set_other id_order m.kind e None a (other_key e a (gone_inner q (Inside a f) is))

  gone_attrs : GoodAttrs meta (set m.kind e None) m.attr
  gone_attrs = record {
    typed = λ x f.
        by_key id_order (λ x. AttrOk meta (get (set m.kind e None) x) f (get m.attr (x, f))) e x
        (subst (λ o. AttrOk meta (get (set m.kind e None) e) f o) (sym (gone_attr f)) tt)
        (λ apart. subst (λ k. AttrOk meta k f (get m.attr (x, f))) (sym (get-set_other id_order m.kind e None x apart)) (good.attrs.typed x f));
  }

  gone_rows : GoodRows meta (set m.kind e None) m.row
  gone_rows =
      let kind = set m.kind e None in
      record {
        typed = λ a f b.
            by_key id_order (λ a. RowOk meta (get kind a) f (get kind b) (get m.row (a, f, b))) e a
            (subst (λ o. RowOk meta (get kind e) f (get kind b) o) (sym (gone_from f b)) tt)
            (λ apart. by_key id_order (λ b. RowOk meta (get kind a) f (get kind b) (get m.row (a, f, b))) e b
            (subst (λ o. RowOk meta (get kind a) f (get kind e) o) (sym (gone_to a f)) tt)
            (λ apart'. subst (λ k. RowOk meta k f (get kind b) (get m.row (a, f, b))) (sym (get-set_other id_order m.kind e None a apart))
            (subst (λ k. RowOk meta (get m.kind a) f k (get m.row (a, f, b))) (sym (get-set_other id_order m.kind e None b apart')) (good.rows.typed a f b))));
        mirrored = good.rows.mirrored;
        bound = good.rows.bound;
      }

  gone_stands : (x : IdBytes) → PlaceOk meta (set m.kind e None) (get (set m.kind e None) x) (get (set m.place e None) x) (get (set m.prank e None) x)
  gone_stands x =
      let kind' = set m.kind e None in
      by_key id_order (λ x. PlaceOk meta kind' (get kind' x) (get (set m.place e None) x) (get (set m.prank e None) x)) e x
      (carry (λ c o r. PlaceOk meta kind' c o r) None _ None _ None _ (get-set_same id_order m.kind e None) (get-set_same id_order m.place e None)
      (get-set_same id_order m.prank e None) tt)
      (λ apart. carry (λ c o r. PlaceOk meta kind' c o r) _ _ _ _ _ _ (get-set_other id_order m.kind e None x apart)
      (get-set_other id_order m.place e None x apart) (get-set_other id_order m.prank e None x apart)
      (places_still meta m.kind kind' (get m.kind x) (get m.place x) (get m.prank x) (λ a f is. gone_stays a f x is) (good.places.stands x)))

  -- no chain goes through it
  gone_chain : (p : Place) (xs : List IdBytes) → is_inside e p ≡ false → IsChain m.place (Some p) xs → IsChain (set m.place e None) (Some p) xs
  gone_chain Root [] out h = tt
  gone_chain Root (x ∷ xs) out h = absurd h
  gone_chain (Inside a f) [] out h = absurd h
  gone_chain (Inside a f) (x ∷ xs) out h =
      let stays : get (set m.place e None) x ≡ get m.place x =
      get-set_other id_order m.place e None x (other_key e x (subst (λ y. text_eq e y ≡ false) (sym h.0) out)) in (
        h.0,
        subst (λ o. IsChain (set m.place e None) o xs) (sym stays)
            (elim (get m.place x) as (λ o. get m.place x ≡ o → IsChain m.place o xs → IsChain (set m.place e None) o xs) [
              | None ↦ λ _ g. absurd g
              | Some p ↦ λ is g. gone_chain p xs (gone_inner x p is) g
            ] refl h.1),
      )

  gone_ends : (x : IdBytes) (p : Place) → get (set m.place e None) x ≡ Some p → (xs : List IdBytes) × IsChain (set m.place e None) (Some p) xs
  gone_ends x p is =
      elim (eq_by_cmp id_cmp x e) as (λ b. eq_by_cmp id_cmp x e ≡ b → (xs : List IdBytes) × IsChain (set m.place e None) (Some p) xs) [
        | true ↦ λ same. absurd (some_none _ p is (ap (λ q. get (set m.place e None) q) (same_key id_order x e same) ∙ get-set_same id_order m.place e None))
        | false ↦ λ apart.
            let was : get m.place x ≡ Some p = sym (get-set_other id_order m.place e None x apart) ∙ is in
            let old = good.places.ends x p was in
            (old.0, gone_chain p old.0 (gone_inner x p was) old.1)
      ] refl

  pub gone_keeps : Good meta (apply meta m (Gone e class place rank))
  gone_keeps = record {
    places = record {
      stands = gone_stands;
      bound =
          λ a f. one_less id_order (λ x. place_eq (Inside a f) x.1) m.place e (child_upper meta f) (good.places.bound a f);
      ends = gone_ends;
    };
    attrs = gone_attrs;
    rows = gone_rows;
  }

  gone_was : PlaceOk meta m.kind (Some class) (Some place) (Some rank)
  gone_was = carry (λ c o r. PlaceOk meta m.kind c o r) _ _ _ _ _ _ (sym gone_kind) (sym gone_place) (sym gone_rank) (good.places.stands e)

  gone_outer : (p : Place) → get m.place e ≡ Some p → StandsOk meta m.kind class p → place_live (apply meta m (Gone e class place rank)) p ≡ true
  gone_outer Root is h = refl
  gone_outer (Inside a f) is h = ap is_some (gone_stays a f e is) ∙ has_class meta (get m.kind a) f h.0

  gone_may : (p : Place) → get m.place e ≡ Some p → StandsOk meta m.kind class p → may_stand meta (apply meta m (Gone e class place rank)) class p ≡ true
  gone_may Root is h = refl
  gone_may (Inside a f) is h = and_both _ (contains_to meta (kind_of meta f) class) (ap (λ k. class_has meta k f) (gone_stays a f e is) ∙ h.0) h.1

  gone_room : (p : Place) → get m.place e ≡ Some p → has_room meta (apply meta m (Gone e class place rank)) p ≡ true
  gone_room Root is = refl
  gone_room (Inside a f) is =
      one_free id_order (λ x. place_eq (Inside a f) x.1) m.place e (Inside a f) (child_upper meta f) is (place_equality.own (Inside a f))
      (good.places.bound a f)

  pub gone_back : Can meta (apply meta m (Gone e class place rank)) (New e class place rank)
  gone_back =
      let after = apply meta m (Gone e class place rank) in
      pass (tests meta after (New e class place rank)) (
        ap (λ o. not (is_some o)) (get-set_same id_order m.kind e None),
        (
          gone_outer place gone_place gone_was.1,
          (
            gone_was.0,
            (
              gone_may place gone_place gone_was.1,
              (
                gone_room place gone_place,
                tt,
              ),
            ),
          ),
        ),
      )
