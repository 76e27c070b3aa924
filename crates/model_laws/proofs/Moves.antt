-- Move: it undoes another, and keeps the invariant.
use Rattle.std.proofs.lemmas.Bool.Decides.{nat_tests}
use Rattle.std.proofs.Common.{◌≡◌, ℕ, ◌+◌, ◌≤◌, ◌<◌, suc, Bool, true, false, cond, List, [], ◌∷◌, length, refl, sym, ap, subst, ◌∙◌, ◌||◌, arith}
use Rattle.std.proofs.Common.{nat_eq, nat_le, nat_lt}
use Rattle.std.specs.Prelude.{Option, None, Some}
use Rattle.std.specs.List.{list_any}
use Rattle.std.specs.Ordering.{eq_by_cmp}
use Rattle.std.specs.FinMap.{FinMap, get}
use Rattle.finite_maps.specs.Equal.{option_eq, text_eq}
use Rattle.finite_maps.specs.Maps.{is_below, is_within, set, count, counts}
use Rattle.finite_maps.proofs.MapLaws.{set_back, get-set_same, get-set_other, by_key, same_key}
use Rattle.finite_maps.proofs.CountLaws.{count-set, le_of_le, lt_of_le}
use Rattle.finite_maps.proofs.EqualLaws.{IsEquality, and_first, and_second, and_both, apart, option_equality, text_equality}
use Rattle.ecore_meta.specs.Meta.{Meta}
use Rattle.model_state.specs.declared.step.Place.{Place}
use Rattle.model_state.specs.declared.step.Place.TheVariants.{Root, Inside}
use Rattle.model_state.specs.declared.step.Step.TheVariants.{Move}
use Rattle.model_state.specs.Keys.{IdBytes, id_cmp}
use Rattle.model_state.specs.Typing.{kind_of, child_upper, contains_to}
use Rattle.model_state.specs.State.{State, place_eq}
use Rattle.model_state.specs.Steps.{tests, Can, apply, class_has, place_live, may_stand, may_move, has_room, chain_is}
use Rattle.model_state.specs.Good.{StandsOk, PlaceOk, IsChain, Good}
use Rattle.model_state.proofs.Orders.{id_order}
use Rattle.model_state.proofs.StepTests.{passed, pass, place_equality, number_equality}
use Rattle.model_laws.proofs.Births.{has_class, other_key}
use Rattle.finite_maps.proofs.Cases.{not_false, not_so, not_true, or_first, or_second}

-- the test of a chain and the chain
is_chain : (place : FinMap id_cmp Place) (o : Option Place) (xs : List IdBytes) → chain_is place o xs ≡ true → IsChain place o xs
is_chain place None xs h = cc
is_chain place (Some Root) [] h = tt
is_chain place (Some Root) (x ∷ xs) h = cc
is_chain place (Some (Inside a f)) [] h = cc
is_chain place (Some (Inside a f)) (x ∷ xs) h = (text_equality.exact x a (and_first _ _ h), is_chain place (get place x) xs (and_second (text_eq x a) _ h))

chain_test : (place : FinMap id_cmp Place) (o : Option Place) (xs : List IdBytes) → IsChain place o xs → chain_is place o xs ≡ true
chain_test place None xs h = absurd h
chain_test place (Some Root) [] h = refl
chain_test place (Some Root) (x ∷ xs) h = absurd h
chain_test place (Some (Inside a f)) [] h = absurd h
chain_test place (Some (Inside a f)) (x ∷ xs) h =
    and_both (text_eq x a) _ (subst (λ y. text_eq x y ≡ true) h.0 (text_equality.own x)) (chain_test place (get place x) xs h.1)

-- a place has one chain
one_chain : (place : FinMap id_cmp Place) (o : Option Place) (xs ys : List IdBytes) → IsChain place o xs → IsChain place o ys → length xs ≡ length ys
one_chain place None xs ys g h = absurd g
one_chain place (Some Root) [] [] g h = refl
one_chain place (Some Root) [] (y ∷ ys) g h = absurd h
one_chain place (Some Root) (x ∷ xs) ys g h = absurd g
one_chain place (Some (Inside a f)) [] ys g h = absurd g
one_chain place (Some (Inside a f)) (x ∷ xs) [] g h = absurd h
one_chain place (Some (Inside a f)) (x ∷ xs) (y ∷ ys) g h =
    ap suc (one_chain place (get place x) xs ys g.1 (subst (λ z. IsChain place (get place z) ys) (h.0 ∙ sym g.0) h.1))

-- from an element on a chain a shorter chain goes on
goes_on : (place : FinMap id_cmp Place) (e : IdBytes) (o : Option Place) (xs : List IdBytes) → IsChain place o xs → list_any (text_eq e) xs ≡ true
    → (ys : List IdBytes) × IsChain place (get place e) ys × (length ys < length xs)
goes_on place e None xs g h = absurd g
goes_on place e (Some Root) [] g h = cc
goes_on place e (Some Root) (x ∷ xs) g h = absurd g
goes_on place e (Some (Inside a f)) [] g h = absurd g
goes_on place e (Some (Inside a f)) (x ∷ xs) g h =
    elim (text_eq e x) as (λ b. text_eq e x ≡ b → b || list_any (text_eq e) xs ≡ true
    → (ys : List IdBytes) × IsChain place (get place e) ys × (length ys < suc (length xs))) [
      | true ↦ λ is _. (xs, subst (λ z. IsChain place (get place z) xs) (sym (text_equality.exact e x is)) g.1, omega arith)
      | false ↦ λ _ later. let r = goes_on place e (get place x) xs g.1 later in let short : length r.0 < length xs = r.2 in (r.0, r.1, omega (arith, short))
    ] refl h

-- a chain without the element stays when the element is moved
chain_without : (place : FinMap id_cmp Place) (e : IdBytes) (v : Option Place) (o : Option Place) (xs : List IdBytes)
    → list_any (text_eq e) xs ≡ false → IsChain place o xs → IsChain (set place e v) o xs
chain_without place e v None xs out h = absurd h
chain_without place e v (Some Root) [] out h = tt
chain_without place e v (Some Root) (x ∷ xs) out h = absurd h
chain_without place e v (Some (Inside a f)) [] out h = absurd h
chain_without place e v (Some (Inside a f)) (x ∷ xs) out h = (
  h.0,
  subst (λ o. IsChain (set place e v) o xs) (sym (get-set_other id_order place e v x (other_key e x (or_first (text_eq e x) _ out))))
      (chain_without place e v (get place x) xs (or_second (text_eq e x) _ out) h.1),
)

-- where the element's new place has a chain, each old chain has one that takes its place
rechained : (place : FinMap id_cmp Place) (e : IdBytes) (to : Place) (zs : List IdBytes) → IsChain (set place e (Some to)) (Some to) zs
    → (o : Option Place) (xs : List IdBytes) → IsChain place o xs → (ys : List IdBytes) × IsChain (set place e (Some to)) o ys
rechained place e to zs above None xs h = absurd h
rechained place e to zs above (Some Root) xs h = ([], tt)
rechained place e to zs above (Some (Inside a f)) [] h = absurd h
rechained place e to zs above (Some (Inside a f)) (x ∷ xs) h =
    elim (eq_by_cmp id_cmp x e) as (λ b. eq_by_cmp id_cmp x e ≡ b → (ys : List IdBytes) × IsChain (set place e (Some to)) (Some (Inside a f)) ys) [
      | true ↦ λ same. (
        x ∷ zs,
        (
          h.0,
          subst (λ o. IsChain (set place e (Some to)) o zs)
              (sym (ap (λ z. get (set place e (Some to)) z) (same_key id_order x e same) ∙ get-set_same id_order place e (Some to))) above,
        ),
      )
      | false ↦ λ other.
          let r = rechained place e to zs above (get place x) xs h.1 in
          (x ∷ r.0, (h.0, subst (λ o. IsChain (set place e (Some to)) o r.0) (sym (get-set_other id_order place e (Some to) x other)) r.1))
    ] refl

-- one entry for another: where the new one counts there was room, and the old one did not count
swapped : {X : Type 0} (p : IdBytes × X → Bool) (m : FinMap id_cmp X) (e : IdBytes) (old v : X) (upper : Option ℕ) → get m e ≡ Some old
    → is_within (count p m) upper ≡ true → (p (e, v) ≡ true → is_below (count p m) upper ≡ true) → is_within (count p (set m e (Some v))) upper ≡ true
swapped p m e old v None is within room = refl
swapped p m e old v (Some n) is within room =
    let sum : count p (set m e (Some v)) + counts p e (get m e) ≡ count p m + counts p e (Some v) = count-set id_order p m e (Some v) in
    elim (p (e, v)) as (λ b. p (e, v) ≡ b → nat_le (count p (set m e (Some v))) n ≡ true) [
      | true ↦ λ t. let now : counts p e (Some v) ≡ 1 = ap (λ b. cond b 1 0) t in le_of_lt' _ _ n (omega (arith, sum, now)) (room t)
      | false ↦ λ t. let now : counts p e (Some v) ≡ 0 = ap (λ b. cond b 1 0) t in le_of_le _ _ n (omega (arith, sum, now)) within
    ] refl
  where
    le_of_lt' : (a b n : ℕ) → a ≤ b + 1 → nat_lt b n ≡ true → nat_le a n ≡ true
    le_of_lt' a b n h k = grind (arith, nat_tests)

freed : {X : Type 0} (p : IdBytes × X → Bool) (m : FinMap id_cmp X) (e : IdBytes) (old v : X) (upper : Option ℕ) → get m e ≡ Some old
    → p (e, old) ≡ true → p (e, v) ≡ false → is_within (count p m) upper ≡ true → is_below (count p (set m e (Some v))) upper ≡ true
freed p m e old v None is counted out within = refl
freed p m e old v (Some n) is counted out within =
    let sum : count p (set m e (Some v)) + counts p e (get m e) ≡ count p m + counts p e (Some v) = count-set id_order p m e (Some v) in
    let was : counts p e (get m e) ≡ 1 = ap (counts p e) is ∙ ap (λ b. cond b 1 0) counted in
    let now : counts p e (Some v) ≡ 0 = ap (λ b. cond b 1 0) out in
    lt_of_le _ _ n (omega (arith, sum, was, now)) within

place_test : IsEquality (option_eq place_eq)
place_test = option_equality place_eq place_equality

-- where an element stands, it is live and may stand
outer_live : (meta : Meta) (m : State) (c : ℕ) (p : Place) → StandsOk meta m.kind c p → place_live m p ≡ true
outer_live meta m c Root h = refl
outer_live meta m c (Inside a f) h = has_class meta (get m.kind a) f h.0

stood : (meta : Meta) (m : State) (n : State) (c : Option ℕ) (p : Option Place) (r : Option ℕ) (from : Place) → m.kind ≡ n.kind → p ≡ Some from
    → PlaceOk meta m.kind c p r → (place_live n from ≡ true) × (may_move meta n c from ≡ true)
stood meta m n c None r from same is h = cc
stood meta m n None (Some q) r from same is h = absurd h
stood meta m n (Some c) (Some q) None from same is h = absurd h
stood meta m n (Some c) (Some q) (Some r) from same is h =
    let stands : StandsOk meta m.kind c from = subst (λ o. StandsOk meta m.kind c o) (same_place q from is) h.1 in
    let stands' : StandsOk meta n.kind c from = subst (λ k. StandsOk meta k c from) same stands in
    (outer_live meta n c from stands', may meta n c from stands')
  where
    same_place : (p q : Place) → Some p ≡ Some q → p ≡ q
    same_place p q e = cc

    may : (meta : Meta) (n : State) (c : ℕ) (p : Place) → StandsOk meta n.kind c p → may_stand meta n c p ≡ true
    may meta n c Root h = refl
    may meta n c (Inside a f) h = and_both _ (contains_to meta (kind_of meta f) c) h.0 h.1

moved_ok : (meta : Meta) (m : State) (c : Option ℕ) (p : Option Place) (r : Option ℕ) (to : Place) (rank : ℕ) → PlaceOk meta m.kind c p r
    → may_move meta m c to ≡ true → PlaceOk meta m.kind c (Some to) (Some rank)
moved_ok meta m None p r to rank h may = cc
moved_ok meta m (Some c) None r to rank h may = absurd h
moved_ok meta m (Some c) (Some p) None to rank h may = absurd h
moved_ok meta m (Some c) (Some p) (Some r) Root rank h may = (h.0, tt)
moved_ok meta m (Some c) (Some p) (Some r) (Inside a f) rank h may = (h.0, (and_first _ _ may, and_second (class_has meta (get m.kind a) f) _ may))

module _ (meta : Meta) (m : State) (e : IdBytes) (from : Place) (from_rank : ℕ) (to : Place) (to_rank : ℕ) (above_from above_to : List IdBytes)
    (can : Can meta m (Move e from from_rank to to_rank above_from above_to)) where
  there : get m.place e ≡ Some from
  there = place_test.exact _ _ (passed (tests meta m (Move e from from_rank to to_rank above_from above_to)) can).1.0

  ranked : get m.prank e ≡ Some from_rank
  ranked = number_equality.exact _ _ (passed (tests meta m (Move e from from_rank to to_rank above_from above_to)) can).1.1.0

  chain_from : IsChain m.place (Some from) above_from
  chain_from = is_chain m.place (Some from) above_from (passed (tests meta m (Move e from from_rank to to_rank above_from above_to)) can).1.1.1.1.1.1.0

  chain_to : IsChain m.place (Some to) above_to
  chain_to = is_chain m.place (Some to) above_to (passed (tests meta m (Move e from from_rank to to_rank above_from above_to)) can).1.1.1.1.1.1.1.0

  not_above : list_any (text_eq e) above_to ≡ false
  not_above = not_true _ (passed (tests meta m (Move e from from_rank to to_rank above_from above_to)) can).1.1.1.1.1.1.1.1.0

  -- no element is above itself
  not_below : list_any (text_eq e) above_from ≡ false
  not_below = not_so (list_any (text_eq e) above_from) (λ inside.
      let r = goes_on m.place e (Some from) above_from chain_from inside in
      let same : length r.0 ≡ length above_from = one_chain m.place (Some from) r.0 above_from (subst (λ o. IsChain m.place o r.0) there r.1) chain_from in
      let short : length r.0 < length above_from = r.2 in
      absurd (omega (arith, same, short)))

  pub move_undone : apply meta (apply meta m (Move e from from_rank to to_rank above_from above_to)) (Move e to to_rank from from_rank above_to above_from) ≡ m
  move_undone =
      let p = set_back id_order m.place e (Some from) (Some to) there in
      let r = set_back id_order m.prank e (Some from_rank) (Some to_rank) ranked in
      λ i. record m { place = p i; prank = r i }

  pub move_back : Good meta m
      → Can meta (apply meta m (Move e from from_rank to to_rank above_from above_to)) (Move e to to_rank from from_rank above_to above_from)
  move_back good =
      let after = apply meta m (Move e from from_rank to to_rank above_from above_to) in
      let p = passed (tests meta m (Move e from from_rank to to_rank above_from above_to)) can in
      let stays = stood meta m after (get m.kind e) (get m.place e) (get m.prank e) from refl there (good.places.stands e) in
      let differ = apart place_eq place_equality from to (not_true _ p.1.1.1.0) in
      pass (tests meta after (Move e to to_rank from from_rank above_to above_from)) (
        p.0,
        (
          (ap (λ o. option_eq place_eq o (Some to)) (get-set_same id_order m.place e (Some to)) ∙ place_test.own (Some to)),
          (
            (ap (λ o. option_eq nat_eq o (Some to_rank)) (get-set_same id_order m.prank e (Some to_rank)) ∙ number_equality.own (Some to_rank)),
            (
              not_false _ differ,
              (
                stays.0,
                (
                  stays.1,
                  (
                    chain_test after.place (Some to) above_to (chain_without m.place e (Some to) (Some to) above_to not_above chain_to),
                    (
                      chain_test after.place (Some from) above_from (chain_without m.place e (Some to) (Some from) above_from not_below chain_from),
                      (
                        not_false _ not_below,
                        (
                          room from refl (not_true _ p.1.1.1.0),
                          tt,
                        ),
                      ),
                    ),
                  ),
                ),
              ),
            ),
          ),
        ),
      )
    where
      room : (q : Place) → q ≡ from → place_eq from to ≡ false → has_room meta (apply meta m (Move e from from_rank to to_rank above_from above_to)) q ≡ true
      room Root is differ = refl
      room (Inside a f) is differ = freed (λ (x : IdBytes × Place). place_eq (Inside a f) x.1) m.place e from to (child_upper meta f) there
          (subst (λ z. place_eq z from ≡ true) (sym is) (place_equality.own from)) (subst (λ z. place_eq z to ≡ false) (sym is) differ) (good.places.bound a f)

  pub move_keeps : Good meta m → Good meta (apply meta m (Move e from from_rank to to_rank above_from above_to))
  move_keeps good = record {
    places = record {
      stands = λ x. by_key id_order (λ x. PlaceOk meta m.kind (get m.kind x) (get (set m.place e (Some to)) x) (get (set m.prank e (Some to_rank)) x)) e x
          (subst (λ o. PlaceOk meta m.kind (get m.kind e) o (get (set m.prank e (Some to_rank)) e)) (sym (get-set_same id_order m.place e (Some to)))
          (subst (λ r. PlaceOk meta m.kind (get m.kind e) (Some to) r) (sym (get-set_same id_order m.prank e (Some to_rank)))
          (moved_ok meta m (get m.kind e) (get m.place e) (get m.prank e) to to_rank (good.places.stands e)
          (passed (tests meta m (Move e from from_rank to to_rank above_from above_to)) can).1.1.1.1.1.0)))
          (λ other. subst (λ o. PlaceOk meta m.kind (get m.kind x) o (get (set m.prank e (Some to_rank)) x))
          (sym (get-set_other id_order m.place e (Some to) x other))
          (subst (λ r. PlaceOk meta m.kind (get m.kind x) (get m.place x) r) (sym (get-set_other id_order m.prank e (Some to_rank) x other))
          (good.places.stands x)));
      bound = λ a f. swapped (λ (x : IdBytes × Place). place_eq (Inside a f) x.1) m.place e from to (child_upper meta f) there (good.places.bound a f)
          (λ counted. subst (λ q. has_room meta m q ≡ true) (sym (place_equality.exact (Inside a f) to counted))
          (passed (tests meta m (Move e from from_rank to to_rank above_from above_to)) can).1.1.1.1.1.1.1.1.1.0);
      ends = λ x p is. by_key id_order (λ x. get (set m.place e (Some to)) x ≡ Some p → (xs : List IdBytes) × IsChain (set m.place e (Some to)) (Some p) xs) e x
          (λ here. subst (λ o. (xs : List IdBytes) × IsChain (set m.place e (Some to)) o xs) (sym (get-set_same id_order m.place e (Some to)) ∙ here)
          (above_to, above))
          (λ other there'. let old = good.places.ends x p (sym (get-set_other id_order m.place e (Some to) x other) ∙ there')
          in rechained m.place e to above_to above (Some p) old.0 old.1)
          is;
    };
    attrs = good.attrs;
    rows = good.rows;
  }
    where
      above : IsChain (set m.place e (Some to)) (Some to) above_to
      above = chain_without m.place e (Some to) (Some to) above_to not_above chain_to
