-- Link and Unlink: each undoes the other, and both keep the invariant.
use Rattle.std.proofs.Common.{◌≡◌, ℕ, Bool, true, false, cond, not, refl, sym, ap, subst, ◌∙◌, ◌&&◌, nat_eq}
use Rattle.std.specs.Prelude.{Option, None, Some, is_some}
use Rattle.std.specs.Ordering.{eq_by_cmp}
use Rattle.std.specs.FinMap.{FinMap, get}
use Rattle.std.proofs.lemmas.Option.{same_Some}
use Rattle.finite_maps.specs.Equal.{option_eq, text_eq}
use Rattle.finite_maps.specs.Maps.{is_below, is_within, set, set_all, count, counts}
use Rattle.finite_maps.proofs.MapLaws.{set_back, set_two_back, get-set, get-set_same, get-set_other, by_key, same_key, own_key}
use Rattle.finite_maps.proofs.CountLaws.{one_more, one_less, one_free, count_same, still_room}
use Rattle.finite_maps.proofs.EqualLaws.{apart, and_first, and_second, and_both, text_equality, nat_equality}
use Rattle.ecore_meta.specs.Meta.{Meta}
use Rattle.model_state.specs.declared.step.Step.TheVariants.{Link, Unlink}
use Rattle.model_state.specs.Keys.{IdBytes, RowKey, id_cmp, row_cmp}
use Rattle.model_state.specs.Typing.{opposite_of, row_upper}
use Rattle.model_state.specs.State.{State, row_count}
use Rattle.model_state.specs.Steps.{tests, Can, apply, may_link, mirror_write, mirror_given, mirror_at, mirror_room}
use Rattle.model_state.specs.Good.{RowOk, GoodRows, Good, Sound}
use Rattle.model_state.proofs.Orders.{row_order}
use Rattle.model_state.proofs.StepTests.{passed, pass, number_equality}
use Rattle.finite_maps.proofs.Cases.{no_some, not_so, not_true, some_none, true_false}

-- two rows of different features
rows_apart : (a : IdBytes) (f : ℕ) (b : IdBytes) (x : IdBytes) (g : ℕ) (y : IdBytes) → nat_eq f g ≡ false → eq_by_cmp row_cmp (a, f, b) (x, g, y) ≡ false
rows_apart a f b x g y differ = not_so (eq_by_cmp row_cmp (a, f, b) (x, g, y)) (λ same.
    true_false (nat_eq f g) (ap (λ (q : RowKey). nat_eq f q.1) (sym (same_key row_order (a, f, b) (x, g, y) same)) ∙ nat_equality.own f) differ)

-- the rows after a row and its mirror are written
abbrev two : FinMap row_cmp ℕ → IdBytes → ℕ → IdBytes → Option ℕ → Option ℕ → Option ℕ → FinMap row_cmp ℕ
two row a f b o v w = set_all (set row (a, f, b) v) (mirror_write o a b w)

-- the opposite of a reference that may stand may stand too
mirror_may : (meta : Meta) → Sound meta → (c : Option ℕ) (f : ℕ) (d : Option ℕ) (g : ℕ) → opposite_of meta f ≡ Some g → may_link meta c f d ≡ true
    → may_link meta d g c ≡ true
mirror_may meta sound None f d g is h = cc
mirror_may meta sound (Some c) f None g is h = cc
mirror_may meta sound (Some c) f (Some d) g is h = sound.mirrors c f d g is h

module _ (meta : Meta) (sound : Sound meta) (row : FinMap row_cmp ℕ) (a : IdBytes) (f : ℕ) (b : IdBytes) where
  -- to write the old ranks back undoes both
  two_back : (o : Option ℕ) → opposite_of meta f ≡ o → (was v mirror w : Option ℕ) → get row (a, f, b) ≡ was
      → ((g : ℕ) → o ≡ Some g → get row (b, g, a) ≡ mirror) → two (two row a f b o v w) a f b o was mirror ≡ row
  two_back None is was v mirror w here there = set_back row_order row (a, f, b) was v here
  two_back (Some g) is was v mirror w here there =
      set_two_back row_order row (a, f, b) (b, g, a) was mirror v w (rows_apart a f b b g a (sound.other f g is)) here (there g refl)

  two_here : (o : Option ℕ) → opposite_of meta f ≡ o → (v w : Option ℕ) → get (two row a f b o v w) (a, f, b) ≡ v
  two_here None is v w = get-set_same row_order row (a, f, b) v
  two_here (Some g) is v w =
      get-set_other row_order (set row (a, f, b) v) (b, g, a) w (a, f, b) (rows_apart a f b b g a (sound.other f g is))
      ∙ get-set_same row_order row (a, f, b) v

  two_there : (g : ℕ) → (v w : Option ℕ) → get (two row a f b (Some g) v w) (b, g, a) ≡ w
  two_there g v w = get-set_same row_order (set row (a, f, b) v) (b, g, a) w

key_true : (q k : RowKey) → q ≡ k → eq_by_cmp row_cmp q k ≡ true
key_true q k e = subst (λ x. eq_by_cmp row_cmp q x ≡ true) e (own_key row_order q)

same_tests : (b c : Bool) → (b ≡ true → c ≡ true) → (c ≡ true → b ≡ true) → b ≡ c
same_tests true c to from = sym (to refl)
same_tests false true to from = from refl
same_tests false false to from = refl

-- what two writes leave at a row and at its mirror
both_there : (s t : Bool) (v w r r' : Option ℕ) → is_some v ≡ is_some w → is_some r ≡ is_some r'
    → is_some (cond t w (cond s v r)) ≡ is_some (cond s w (cond t v r'))
both_there true true v w r r' e f = refl
both_there true false v w r r' e f = e
both_there false true v w r r' e f = sym e
both_there false false v w r r' e f = f

module _ (meta : Meta) (sound : Sound meta) (kind : FinMap id_cmp ℕ) (row : FinMap row_cmp ℕ) (good : GoodRows meta kind row) (a : IdBytes) (f : ℕ)
    (b : IdBytes) (v w : Option ℕ) where
  one_typed : RowOk meta (get kind a) f (get kind b) v → (q : RowKey) → RowOk meta (get kind q.0) q.1 (get kind q.2) (get (set row (a, f, b) v) q)
  one_typed here q =
      by_key row_order (λ q. RowOk meta (get kind q.0) q.1 (get kind q.2) (get (set row (a, f, b) v) q)) (a, f, b) q
      (subst (λ x. RowOk meta (get kind a) f (get kind b) x) (sym (get-set_same row_order row (a, f, b) v)) here)
      (λ apart. subst (λ x. RowOk meta (get kind q.0) q.1 (get kind q.2) x) (sym (get-set_other row_order row (a, f, b) v q apart)) (good.typed q.0 q.1 q.2))

  two_typed : (o : Option ℕ) → RowOk meta (get kind a) f (get kind b) v → ((g : ℕ) → o ≡ Some g → RowOk meta (get kind b) g (get kind a) w)
      → (q : RowKey) → RowOk meta (get kind q.0) q.1 (get kind q.2) (get (two row a f b o v w) q)
  two_typed None here there q = one_typed here q
  two_typed (Some g) here there q =
      by_key row_order (λ q. RowOk meta (get kind q.0) q.1 (get kind q.2) (get (two row a f b (Some g) v w) q)) (b, g, a) q
      (subst (λ x. RowOk meta (get kind b) g (get kind a) x) (sym (get-set_same row_order (set row (a, f, b) v) (b, g, a) w)) (there g refl))
      (λ apart. subst (λ x. RowOk meta (get kind q.0) q.1 (get kind q.2) x) (sym (get-set_other row_order (set row (a, f, b) v) (b, g, a) w q apart))
      (one_typed here q))

  two_mirrored : (o : Option ℕ) → opposite_of meta f ≡ o → ((g : ℕ) → o ≡ Some g → is_some v ≡ is_some w)
      → (x : IdBytes) (h : ℕ) (y : IdBytes) (k : ℕ) → opposite_of meta h ≡ Some k
      → is_some (get (two row a f b o v w) (x, h, y)) ≡ is_some (get (two row a f b o v w) (y, k, x))
  two_mirrored None is alike x h y k opp =
      let away : eq_by_cmp row_cmp (x, h, y) (a, f, b) ≡ false = not_so (eq_by_cmp row_cmp (x, h, y) (a, f, b)) (λ same.
      some_none _ k (ap (λ (q : RowKey). opposite_of meta q.1) (sym (same_key row_order (x, h, y) (a, f, b) same)) ∙ opp) is) in
      let away' : eq_by_cmp row_cmp (y, k, x) (a, f, b) ≡ false = not_so (eq_by_cmp row_cmp (y, k, x) (a, f, b)) (λ same.
      some_none _ h (ap (λ (q : RowKey). opposite_of meta q.1) (sym (same_key row_order (y, k, x) (a, f, b) same)) ∙ sound.both h k opp) is) in
      ap is_some (get-set_other row_order row (a, f, b) v (x, h, y) away) ∙ good.mirrored x h y k opp
      ∙ sym (ap is_some (get-set_other row_order row (a, f, b) v (y, k, x) away'))
  two_mirrored (Some g) is alike x h y k opp =
      let s = eq_by_cmp row_cmp (x, h, y) (a, f, b) in
      let t = eq_by_cmp row_cmp (x, h, y) (b, g, a) in
      let back = sound.both h k opp in
      let turn : eq_by_cmp row_cmp (y, k, x) (b, g, a) ≡ s = same_tests _ _
      (λ same.
      let e = same_key row_order (y, k, x) (b, g, a) same in
      let feature : h ≡ f = same_Some h f (sym back ∙ ap (λ (q : RowKey). opposite_of meta q.1) e ∙ sound.both f g is) in
      key_true (x, h, y) (a, f, b) (λ i. ((e i).2, feature i, (e i).0)))
      (λ same.
      let e = same_key row_order (x, h, y) (a, f, b) same in
      let feature : k ≡ g = same_Some k g (sym opp ∙ ap (λ (q : RowKey). opposite_of meta q.1) e ∙ is) in
      key_true (y, k, x) (b, g, a) (λ i. ((e i).2, feature i, (e i).0))) in
      let turn' : eq_by_cmp row_cmp (y, k, x) (a, f, b) ≡ t = same_tests _ _
      (λ same.
      let e = same_key row_order (y, k, x) (a, f, b) same in
      let feature : h ≡ g = same_Some h g (sym back ∙ ap (λ (q : RowKey). opposite_of meta q.1) e ∙ is) in
      key_true (x, h, y) (b, g, a) (λ i. ((e i).2, feature i, (e i).0)))
      (λ same.
      let e = same_key row_order (x, h, y) (b, g, a) same in
      let feature : k ≡ f = same_Some k f (sym opp ∙ ap (λ (q : RowKey). opposite_of meta q.1) e ∙ sound.both f g is) in
      key_true (y, k, x) (a, f, b) (λ i. ((e i).2, feature i, (e i).0))) in
      let at : (q : RowKey) → get (two row a f b (Some g) v w) q ≡ cond (eq_by_cmp row_cmp q (b, g, a)) w
      (cond (eq_by_cmp row_cmp q (a, f, b)) v (get row q)) = λ q.
      get-set row_order (set row (a, f, b) v) (b, g, a) w q ∙ ap (cond (eq_by_cmp row_cmp q (b, g, a)) w) (get-set row_order row (a, f, b) v q) in
      ap is_some (at (x, h, y))
      ∙ both_there s t v w (get row (x, h, y)) (get row (y, k, x)) (alike g refl) (good.mirrored x h y k opp)
      ∙ sym (ap is_some (at (y, k, x)) ∙ ap (λ z. is_some (cond z w (cond (eq_by_cmp row_cmp (y, k, x) (a, f, b)) v (get row (y, k, x))))) turn
      ∙ ap (λ z. is_some (cond s w (cond z v (get row (y, k, x))))) turn')

-- the rows of a feature of an element
abbrev of_list : IdBytes → ℕ → RowKey × ℕ → Bool
of_list a f e = text_eq a e.0.0 && nat_eq f e.0.1

-- room in the one list that a row is of
list_room : (meta : Meta) (m : State) (a : IdBytes) (f : ℕ) (x : IdBytes) (h : ℕ) → text_eq x a && nat_eq h f ≡ true
    → is_below (row_count m a f) (row_upper meta f) ≡ true → is_below (count (of_list x h) m.row) (row_upper meta h) ≡ true
list_room meta m a f x h passes room =
    let e : x ≡ a = text_equality.exact x a (and_first _ _ passes) in
    let d : h ≡ f = nat_equality.exact h f (and_second (text_eq x a) _ passes) in
    subst (λ y. is_below (count (of_list y h) m.row) (row_upper meta h) ≡ true) (sym e)
    (subst (λ k. is_below (count (of_list a k) m.row) (row_upper meta k) ≡ true) (sym d) room)

module _ (meta : Meta) (sound : Sound meta) (m : State) (good : Good meta m) (a : IdBytes) (f : ℕ) (ra : ℕ) (b : IdBytes) (rb : Option ℕ)
    (can : Can meta m (Link a f ra b rb)) where
  link_none : get m.row (a, f, b) ≡ None
  link_none = no_some _ (not_true _ (passed (tests meta m (Link a f ra b rb)) can).1.1.1.1.0)

  link_no_mirror : (g : ℕ) → opposite_of meta f ≡ Some g → get m.row (b, g, a) ≡ None
  link_no_mirror g is = no_some _ (sym (good.rows.mirrored a f b g is) ∙ ap is_some link_none)

  pub link_undone : apply meta (apply meta m (Link a f ra b rb)) (Unlink a f ra b rb) ≡ m
  link_undone = ap (λ r. record m { row = r }) (two_back meta sound m.row a f b (opposite_of meta f) refl None (Some ra) None rb link_none link_no_mirror)

  pub link_back : Can meta (apply meta m (Link a f ra b rb)) (Unlink a f ra b rb)
  link_back =
      let p = passed (tests meta m (Link a f ra b rb)) can in
      let after = apply meta m (Link a f ra b rb) in
      let here : get after.row (a, f, b) ≡ Some ra = two_here meta sound m.row a f b (opposite_of meta f) refl (Some ra) rb in
      pass (tests meta after (Unlink a f ra b rb)) (
        p.0,
        (
          p.1.0,
          (
            p.1.1.0,
            (
              p.1.1.1.0,
              (
                ap is_some here,
                (
                  ap (λ o. option_eq nat_eq o (Some ra)) here ∙ number_equality.own (Some ra),
                  (
                    link_mirror (opposite_of meta f),
                    tt,
                  ),
                ),
              ),
            ),
          ),
        ),
      )
    where
      link_mirror : (o : Option ℕ) → mirror_at (record m { row = two m.row a f b o (Some ra) rb }) o a b rb ≡ true
      link_mirror None = refl
      link_mirror (Some g) = ap (λ x. option_eq nat_eq x rb) (two_there meta sound m.row a f b g (Some ra) rb) ∙ number_equality.own rb

  -- the targets of a feature, after the row and after its mirror
  row_bound : (x : IdBytes) (h : ℕ) → is_within (count (of_list x h) (set m.row (a, f, b) (Some ra))) (row_upper meta h) ≡ true
  row_bound x h =
      one_more row_order (of_list x h) m.row (a, f, b) ra (row_upper meta h) link_none (good.rows.bound x h)
      (λ passes. list_room meta m a f x h passes (passed (tests meta m (Link a f ra b rb)) can).1.1.1.1.1.0)

  mirror_bound : (g : ℕ) → opposite_of meta f ≡ Some g → is_below (row_count m b g) (row_upper meta g) ≡ true → (w : Option ℕ) (x : IdBytes) (h : ℕ)
      → is_within (count (of_list x h) (set (set m.row (a, f, b) (Some ra)) (b, g, a) w)) (row_upper meta h) ≡ true
  mirror_bound g is room None x h = one_less row_order (of_list x h) (set m.row (a, f, b) (Some ra)) (b, g, a) (row_upper meta h) (row_bound x h)
  mirror_bound g is room (Some r) x h =
      let other = sound.other f g is in
      let none : get (set m.row (a, f, b) (Some ra)) (b, g, a) ≡ None =
      get-set_other row_order m.row (a, f, b) (Some ra) (b, g, a) (rows_apart b g a a f b (apart nat_eq nat_equality f g other))
      ∙ link_no_mirror g is in
      one_more row_order (of_list x h) (set m.row (a, f, b) (Some ra)) (b, g, a) r (row_upper meta h) none (row_bound x h)
      (λ passes.
      let d : h ≡ g = nat_equality.exact h g (and_second (text_eq x b) _ passes) in
      let fails : of_list x h ((a, f, b), ra) ≡ false =
      not_so (of_list x h ((a, f, b), ra))
      (λ t. true_false (nat_eq f g)
      (ap (λ z. nat_eq z g) (sym (nat_equality.exact h f (and_second (text_eq x a) _ t))) ∙ ap (λ z. nat_eq z g) d ∙ nat_equality.own g) other) in
      let unchanged : count (of_list x h) (set m.row (a, f, b) (Some ra)) ≡ count (of_list x h) m.row =
      count_same row_order (of_list x h) m.row (a, f, b) (Some ra) (ap (counts (of_list x h) (a, f, b)) link_none) (ap (λ z. cond z 1 0) fails) in
      ap (λ n. is_below n (row_upper meta h)) unchanged ∙ list_room meta m b g x h passes room)

  link_bound : (o : Option ℕ) → opposite_of meta f ≡ o → mirror_room meta m o b ≡ true → (x : IdBytes) (h : ℕ)
      → is_within (count (of_list x h) (two m.row a f b o (Some ra) rb)) (row_upper meta h) ≡ true
  link_bound None is room = row_bound
  link_bound (Some g) is room = mirror_bound g is room rb

  pub link_rows : GoodRows meta m.kind (two m.row a f b (opposite_of meta f) (Some ra) rb)
  link_rows =
      let p = passed (tests meta m (Link a f ra b rb)) can in
      record {
        typed = λ x h y. two_typed meta sound m.kind m.row good.rows a f b (Some ra) rb (opposite_of meta f) p.1.1.0
            (λ g is. row_typed (get m.kind b) g (get m.kind a) rb (mirror_may meta sound (get m.kind a) f (get m.kind b) g is p.1.1.0)) (x, h, y);
        mirrored = two_mirrored meta sound m.kind m.row good.rows a f b (Some ra) rb (opposite_of meta f) refl
            (λ g is. mirror_some g f rb (subst (λ o. mirror_given o f rb ≡ true) is p.1.1.1.0));
        bound = link_bound (opposite_of meta f) refl p.1.1.1.1.1.1.0;
      }
    where
      row_typed : (c : Option ℕ) (f : ℕ) (d : Option ℕ) (o : Option ℕ) → may_link meta c f d ≡ true → RowOk meta c f d o
      row_typed c f d None h = tt
      row_typed c f d (Some r) h = h

      mirror_some : (g f : ℕ) (o : Option ℕ) → mirror_given (Some g) f o ≡ true → true ≡ is_some o
      mirror_some g f None h = cc
      mirror_some g f (Some r) h = refl

  pub link_keeps : Good meta (apply meta m (Link a f ra b rb))
  link_keeps = record { places = good.places; attrs = good.attrs; rows = link_rows }

module _ (meta : Meta) (sound : Sound meta) (m : State) (good : Good meta m) (a : IdBytes) (f : ℕ) (ra : ℕ) (b : IdBytes) (rb : Option ℕ)
    (can : Can meta m (Unlink a f ra b rb)) where
  unlink_row : get m.row (a, f, b) ≡ Some ra
  unlink_row = number_equality.exact _ _ (passed (tests meta m (Unlink a f ra b rb)) can).1.1.1.1.1.0

  unlink_mirror : (g : ℕ) → opposite_of meta f ≡ Some g → get m.row (b, g, a) ≡ rb
  unlink_mirror g is = number_equality.exact (get m.row (b, g, a)) rb
      (subst (λ o. mirror_at m o a b rb ≡ true) is (passed (tests meta m (Unlink a f ra b rb)) can).1.1.1.1.1.1.0)

  pub unlink_undone : apply meta (apply meta m (Unlink a f ra b rb)) (Link a f ra b rb) ≡ m
  unlink_undone = ap (λ r. record m { row = r }) (two_back meta sound m.row a f b (opposite_of meta f) refl (Some ra) None rb None unlink_row unlink_mirror)

  -- the targets of a feature, without the row and without its mirror
  less_row : (x : IdBytes) (h : ℕ) → is_within (count (of_list x h) (set m.row (a, f, b) None)) (row_upper meta h) ≡ true
  less_row x h = one_less row_order (of_list x h) m.row (a, f, b) (row_upper meta h) (good.rows.bound x h)

  less_bound : (o : Option ℕ) (x : IdBytes) (h : ℕ) → is_within (count (of_list x h) (two m.row a f b o None None)) (row_upper meta h) ≡ true
  less_bound None x h = less_row x h
  less_bound (Some g) x h = one_less row_order (of_list x h) (set m.row (a, f, b) None) (b, g, a) (row_upper meta h) (less_row x h)

  -- room for the row and for its mirror
  row_free : (o : Option ℕ) → is_below (count (of_list a f) (two m.row a f b o None None)) (row_upper meta f) ≡ true
  row_free o =
      let free = one_free row_order (of_list a f) m.row (a, f, b) ra (row_upper meta f) unlink_row
      (and_both _ _ (text_equality.own a) (nat_equality.own f)) (good.rows.bound a f) in
      elim o as (λ o. is_below (count (of_list a f) (two m.row a f b o None None)) (row_upper meta f) ≡ true) [
        | None ↦ free
        | Some g ↦ still_room row_order (of_list a f) (set m.row (a, f, b) None) (b, g, a) (row_upper meta f) free
      ]

  mirror_rank : (g : ℕ) → opposite_of meta f ≡ Some g → (w : Option ℕ) → get m.row (b, g, a) ≡ w → mirror_given (Some g) f w ≡ true
      → is_below (count (of_list b g) (set (set m.row (a, f, b) None) (b, g, a) None)) (row_upper meta g) ≡ true
  mirror_rank g is None there given = cc
  mirror_rank g is (Some r) there given =
      one_free row_order (of_list b g) (set m.row (a, f, b) None) (b, g, a) r (row_upper meta g)
      (get-set_other row_order m.row (a, f, b) None (b, g, a) (rows_apart b g a a f b (apart nat_eq nat_equality f g (sound.other f g is))) ∙ there)
      (and_both _ _ (text_equality.own b) (nat_equality.own g)) (less_row b g)

  mirror_free : (o : Option ℕ) → opposite_of meta f ≡ o → mirror_room meta (record m { row = two m.row a f b o None None }) o b ≡ true
  mirror_free None is = refl
  mirror_free (Some g) is =
      mirror_rank g is rb (unlink_mirror g is) (subst (λ o. mirror_given o f rb ≡ true) is (passed (tests meta m (Unlink a f ra b rb)) can).1.1.1.0)

  pub unlink_back : Can meta (apply meta m (Unlink a f ra b rb)) (Link a f ra b rb)
  unlink_back =
      let p = passed (tests meta m (Unlink a f ra b rb)) can in
      let after = apply meta m (Unlink a f ra b rb) in
      let here : get after.row (a, f, b) ≡ None = two_here meta sound m.row a f b (opposite_of meta f) refl None None in
      pass (tests meta after (Link a f ra b rb)) (
        p.0,
        (
          p.1.0,
          (
            p.1.1.0,
            (
              p.1.1.1.0,
              (
                ap (λ o. not (is_some o)) here,
                (
                  row_free (opposite_of meta f),
                  (
                    mirror_free (opposite_of meta f) refl,
                    tt,
                  ),
                ),
              ),
            ),
          ),
        ),
      )

  pub unlink_keeps : Good meta (apply meta m (Unlink a f ra b rb))
  unlink_keeps = record {
    places = good.places;
    attrs = good.attrs;
    rows = record {
      typed = λ x h y. two_typed meta sound m.kind m.row good.rows a f b None None (opposite_of meta f) tt (λ g is. tt) (x, h, y);
      mirrored = two_mirrored meta sound m.kind m.row good.rows a f b None None (opposite_of meta f) refl (λ g is. refl);
      bound = less_bound (opposite_of meta f);
    };
  }
