-- Each step leaves what it does not touch.
use Rattle.std.proofs.Common.{◌≡◌, ℕ, Bool, true, false, List, [], ◌∷◌, ◌++◌, refl, sym, ap, subst, ◌∙◌, ◌&&◌, map, nat_eq}
use Rattle.std.specs.Prelude.{Option, None, Some}
use Rattle.std.specs.declared.cmp.Ordering.{Ordering}
use Rattle.std.specs.Ordering.{eq_by_cmp}
use Rattle.std.specs.FinMap.{FinMap, get}
use Rattle.finite_maps.specs.Equal.{text_eq, option_eq}
use Rattle.finite_maps.specs.Maps.{set, set_all}
use Rattle.finite_maps.proofs.MapLaws.{IsKeyOrder, get-set_same, get-set_other, by_key, same_key}
use Rattle.finite_maps.proofs.EqualLaws.{and_both, option_equality, text_equality, nat_equality}
use Rattle.ecore_meta.specs.Meta.{Meta}
use Rattle.ecore_meta.specs.declared.meta.Value.{Value}
use Rattle.model_state.specs.declared.step.Place.{Place}
use Rattle.model_state.specs.declared.step.Place.TheVariants.{Root, Inside}
use Rattle.model_state.specs.declared.step.Step.TheVariants.{Put, Ins, Del, Shift, Link, Unlink, RerankRow, New, Gone, Move, RerankPlace}
use Rattle.model_state.specs.Lists.{entry_of, values_of, shifted}
use Rattle.std.specs.List.{insert, remove}
use Rattle.model_state.specs.Keys.{IdBytes, AttrKey, RowKey, id_cmp, row_cmp}
use Rattle.model_state.specs.Typing.{opposite_of}
use Rattle.model_state.specs.State.{State, place_eq, is_inside}
use Rattle.model_state.specs.Steps.{tests, apply, single, mirror_write}
use Rattle.model_laws.specs.Cells.{Cell, OfKind, OfPlace, OfRank, OfAttr, OfRow, OfWhole, About, is_finite, has, stands_in, stands_inside, side}
use Rattle.model_laws.specs.Cells.{mirror_side, place_list, parents_of, Agree, may_change}
use Rattle.model_state.proofs.Orders.{id_order, attr_order, row_order}
use Rattle.model_state.proofs.StepTests.{passed, place_equality}
use Rattle.model_laws.proofs.Births.{dead_place}
use Rattle.model_laws.proofs.Exchange.{LeavesOthers, not_first, not_second, has_first}
use Rattle.model_laws.proofs.StepNeeds.{at_first, further}
use Rattle.finite_maps.proofs.Cases.{no_some, not_so, not_true, true_false, or_first, or_second}

-- keys that differ, as a test failed
apart_key : {K : Type 0} {R : K → K → Ordering} (o : IsKeyOrder R) (t : Bool) (q k : K) → (q ≡ k → t ≡ true) → t ≡ false → eq_by_cmp R q k ≡ false
apart_key {R = R} o t q k h out = not_so (eq_by_cmp R q k) (λ same. true_false t (h (same_key o q k same)) out)

-- one attribute is written
attr_leaves : (meta : Meta) (m : State) (e : IdBytes) (f : ℕ) (now : Option (List Value)) (c : Cell) → has (OfAttr e f ∷ About e ∷ []) c ≡ false
    → Agree meta m (record m { attr = set m.attr (e, f) now }) c
attr_leaves meta m e f now (OfKind x) out = refl
attr_leaves meta m e f now (OfPlace x) out = refl
attr_leaves meta m e f now (OfRank x) out = refl
attr_leaves meta m e f now (OfAttr x h) out =
    sym (get-set_other attr_order m.attr (e, f) now (x, h)
    (apart_key attr_order (text_eq x e && nat_eq h f) (x, h) (e, f)
    (λ is. and_both _ _ (subst (λ (q : AttrKey). text_eq x q.0 ≡ true) is (text_equality.own x))
    (subst (λ (q : AttrKey). nat_eq h q.1 ≡ true) is (nat_equality.own h))) (or_first _ _ out)))
attr_leaves meta m e f now (OfRow a h b) out = λ is. refl
attr_leaves meta m e f now (OfWhole a h) out = (λ is b. refl, λ is x. refl)
attr_leaves meta m e f now (About x) out = (
  λ h. sym (get-set_other attr_order m.attr (e, f) now (x, h)
      (apart_key attr_order (text_eq x e) (x, h) (e, f) (λ is. subst (λ (q : AttrKey). text_eq x q.0 ≡ true) is (text_equality.own x)) (or_first _ _ out))),
  λ h b. refl,
  λ a h. refl,
  λ y. refl,
)

place_leaves : (meta : Meta) (m : State) (e : IdBytes) (old new : ℕ) (c : Cell) → has (may_change meta (RerankPlace e old new)) c ≡ false
    → Agree meta m (apply meta m (RerankPlace e old new)) c
place_leaves meta m e old new (OfKind x) out = refl
place_leaves meta m e old new (OfPlace x) out = refl
place_leaves meta m e old new (OfRank x) out =
    sym (get-set_other id_order m.prank e (Some new) x
    (apart_key id_order (text_eq x e) x e (λ is. subst (λ y. text_eq x y ≡ true) is (text_equality.own x)) (or_first _ _ out)))
place_leaves meta m e old new (OfAttr x h) out = refl
place_leaves meta m e old new (OfRow a h b) out = λ is. refl
place_leaves meta m e old new (OfWhole a h) out = (λ is b. refl, λ is x. refl)
place_leaves meta m e old new (About x) out = (λ h. refl, λ h b. refl, λ a h. refl, λ y. refl)

-- ---- rows
-- a row that is neither the one nor its mirror
row_left : (meta : Meta) (row : FinMap row_cmp ℕ) (a : IdBytes) (f : ℕ) (b : IdBytes) (o : Option ℕ) (v w : Option ℕ) (q : RowKey)
    → (q ≡ (a, f, b) → ⊥) → ((g : ℕ) → o ≡ Some g → q ≡ (b, g, a) → ⊥) → get row q ≡ get (set_all (set row (a, f, b) v) (mirror_write o a b w)) q
row_left meta row a f b None v w q one other =
    sym (get-set_other row_order row (a, f, b) v q (not_so (eq_by_cmp row_cmp q (a, f, b)) (λ same. one (same_key row_order q (a, f, b) same))))
row_left meta row a f b (Some g) v w q one other =
    sym (get-set_other row_order (set row (a, f, b) v) (b, g, a) w q
    (not_so (eq_by_cmp row_cmp q (b, g, a)) (λ same. other g refl (same_key row_order q (b, g, a) same)))
    ∙ get-set_other row_order row (a, f, b) v q (not_so (eq_by_cmp row_cmp q (a, f, b)) (λ same. one (same_key row_order q (a, f, b) same))))

has_mirror : (meta : Meta) (o : Option ℕ) (a b : IdBytes) (g : ℕ) → o ≡ Some g → has (mirror_side meta o a b) (side meta b g a) ≡ true
has_mirror meta o a b g is = subst (λ x. has (mirror_side meta x a b) (side meta b g a) ≡ true) (sym is) (at_first (side meta b g a) [])

module _ (meta : Meta) (m : State) (a : IdBytes) (f : ℕ) (b : IdBytes) (opp : Option ℕ) (v w : Option ℕ) where
  abbrev cells : List Cell
  cells = (side meta a f b ∷ mirror_side meta (opp) a b) ++ (About a ∷ About b ∷ [])

  abbrev after : FinMap row_cmp ℕ
  after = set_all (set m.row (a, f, b) v) (mirror_write (opp) a b w)

  -- by the cell of a row's end
  side_left : (q : RowKey) → has cells (side meta q.0 q.1 q.2) ≡ false → get m.row q ≡ get after q
  side_left q out = row_left meta m.row a f b (opp) v w q
      (λ is. true_false _ (subst (λ (k : RowKey). has cells (side meta k.0 k.1 k.2) ≡ true) (sym is) (at_first (side meta a f b) _)) out)
      (λ g its is. true_false _
      (subst (λ (k : RowKey). has cells (side meta k.0 k.1 k.2) ≡ true) (sym is)
      (further (side meta a f b) (side meta b g a) _
      (has_first (mirror_side meta (opp) a b) (About a ∷ About b ∷ []) (side meta b g a) (has_mirror meta (opp) a b g its)))) out)

  about_left : (x : IdBytes) → has cells (About x) ≡ false → (q : RowKey) → (q.0 ≡ x) → get m.row q ≡ get after q
  about_left x out q from =
      let outs = not_second (side meta a f b ∷ mirror_side meta (opp) a b) (About a ∷ About b ∷ []) (About x) out in
      row_left meta m.row a f b (opp) v w q
      (λ is. true_false (text_eq x a) (subst (λ z. text_eq x z ≡ true) (sym from ∙ ap (λ (k : RowKey). k.0) is) (text_equality.own x)) (or_first _ _ outs))
      (λ g its is. true_false (text_eq x b) (subst (λ z. text_eq x z ≡ true) (sym from ∙ ap (λ (k : RowKey). k.0) is) (text_equality.own x))
      (or_first (text_eq x b) false (or_second (text_eq x a) _ outs)))

  about_left' : (x : IdBytes) → has cells (About x) ≡ false → (q : RowKey) → (q.2 ≡ x) → get m.row q ≡ get after q
  about_left' x out q to =
      let outs = not_second (side meta a f b ∷ mirror_side meta (opp) a b) (About a ∷ About b ∷ []) (About x) out in
      row_left meta m.row a f b (opp) v w q
      (λ is. true_false (text_eq x b) (subst (λ z. text_eq x z ≡ true) (sym to ∙ ap (λ (k : RowKey). k.2) is) (text_equality.own x))
      (or_first (text_eq x b) false (or_second (text_eq x a) _ outs)))
      (λ g its is. true_false (text_eq x a) (subst (λ z. text_eq x z ≡ true) (sym to ∙ ap (λ (k : RowKey). k.2) is) (text_equality.own x)) (or_first _ _ outs))

  rows_leave : (c : Cell) → has cells c ≡ false → Agree meta m (record m { row = after }) c
  rows_leave (OfKind x) out = refl
  rows_leave (OfPlace x) out = refl
  rows_leave (OfRank x) out = refl
  rows_leave (OfAttr x h) out = refl
  rows_leave (OfRow x h y) out = λ is. side_left (x, h, y) (ap (λ t. has cells (elim t as (λ _. Cell) [ true ↦ OfWhole x h | false ↦ OfRow x h y ])) is ∙ out)
  rows_leave (OfWhole x h) out =
      (λ is y. side_left (x, h, y) (ap (λ t. has cells (elim t as (λ _. Cell) [ true ↦ OfWhole x h | false ↦ OfRow x h y ])) is ∙ out), λ is y. refl)
  rows_leave (About x) out = (λ h. refl, λ h y. about_left x out (x, h, y) refl, λ y h. about_left' x out (y, h, x) refl, λ y. refl)

-- ---- births
whole_listed : (meta : Meta) (a : IdBytes) (f : ℕ) (place : Place) → is_finite meta f ≡ true → Inside a f ≡ place
    → has (place_list meta place) (OfWhole a f) ≡ true
whole_listed meta a f place finite is =
    subst (λ p. has (place_list meta p) (OfWhole a f) ≡ true) is
    (ap (λ t. has (elim t as (λ _. List Cell) [ true ↦ OfWhole a f ∷ [] | false ↦ [] ]) (OfWhole a f)) finite ∙ at_first (OfWhole a f) [])

not_inside : (y : IdBytes) (place : Place) (e : IdBytes) → has (map About (parents_of place ++ e ∷ [])) (About y) ≡ false → is_inside y place ≡ false
not_inside y Root e out = refl
not_inside y (Inside a f) e out = or_first _ _ out

-- the class, the place and the rank of e are written; its place was or is now the given one, and the other is none
module _ (meta : Meta) (m : State) (e : IdBytes) (k : Option ℕ) (was now : Option Place) (r : Option ℕ) (place : Place) (old : get m.place e ≡ was)
    (turn : (h : Option Place → Bool) → h None ≡ h (Some place) → h was ≡ h now) where
  abbrev named : List Cell
  named = (OfKind e ∷ OfPlace e ∷ OfRank e ∷ place_list meta place) ++ map About (parents_of place ++ e ∷ [])

  place_left : (h : Option Place → Bool) → h None ≡ h (Some place) → (x : IdBytes) → h (get m.place x) ≡ h (get (set m.place e now) x)
  place_left h alike x = by_key id_order (λ x. h (get m.place x) ≡ h (get (set m.place e now) x)) e x
      (ap h old ∙ turn h alike ∙ sym (ap h (get-set_same id_order m.place e now)))
      (λ apart. ap h (sym (get-set_other id_order m.place e now x apart)))

  id_apart : (x : IdBytes) → text_eq x e ≡ false → eq_by_cmp id_cmp x e ≡ false
  id_apart x out = apart_key id_order (text_eq x e) x e (λ is. subst (λ y. text_eq x y ≡ true) is (text_equality.own x)) out

  births_leave : (c : Cell) → has named c ≡ false → Agree meta m (record m { kind = set m.kind e k; place = set m.place e now; prank = set m.prank e r }) c
  births_leave (OfKind x) out = sym (get-set_other id_order m.kind e k x (id_apart x (or_first _ _ out)))
  births_leave (OfPlace x) out = sym (get-set_other id_order m.place e now x (id_apart x (or_first _ _ out)))
  births_leave (OfRank x) out = sym (get-set_other id_order m.prank e r x (id_apart x (or_first _ _ out)))
  births_leave (OfAttr x h) out = refl
  births_leave (OfRow x h y) out = λ is. refl
  births_leave (OfWhole a f) out = (
    λ is y. refl,
    λ finite x. place_left (stands_in (Inside a f))
        (sym (not_so (place_eq (Inside a f) place) (λ same. true_false _ (whole_listed meta a f place finite (place_equality.exact (Inside a f) place same))
        (not_first (place_list meta place) (map About (parents_of place ++ e ∷ [])) (OfWhole a f) out)))) x,
  )
  births_leave (About y) out = (
    λ h. refl,
    λ h z. refl,
    λ z h. refl,
    λ x. place_left (stands_inside y)
        (sym (not_inside y place e (not_second (place_list meta place) (map About (parents_of place ++ e ∷ [])) (About y) out))) x,
  )

-- ---- moves
two_parents : (y : IdBytes) (from to : Place) → has (map About (parents_of from ++ parents_of to)) (About y) ≡ false
    → (is_inside y from ≡ false) × (is_inside y to ≡ false)
two_parents y Root Root out = (refl, refl)
two_parents y Root (Inside b g) out = (refl, or_first _ _ out)
two_parents y (Inside a f) Root out = (or_first _ _ out, refl)
two_parents y (Inside a f) (Inside b g) out = (or_first _ _ out, or_first (text_eq y b) false (or_second (text_eq y a) _ out))

module _ (meta : Meta) (m : State) (e : IdBytes) (from to : Place) (rank : ℕ) (old : get m.place e ≡ Some from) where
  abbrev moved : List Cell
  moved = (OfPlace e ∷ OfRank e ∷ (place_list meta from ++ place_list meta to)) ++ map About ((e ∷ (parents_of from ++ parents_of to)) ++ [])

  move_left : (h : Option Place → Bool) → h (Some from) ≡ h (Some to) → (x : IdBytes) → h (get m.place x) ≡ h (get (set m.place e (Some to)) x)
  move_left h alike x = by_key id_order (λ x. h (get m.place x) ≡ h (get (set m.place e (Some to)) x)) e x
      (ap h old ∙ alike ∙ sym (ap h (get-set_same id_order m.place e (Some to))))
      (λ apart. ap h (sym (get-set_other id_order m.place e (Some to) x apart)))

  id_away : (x : IdBytes) → text_eq x e ≡ false → eq_by_cmp id_cmp x e ≡ false
  id_away x out = apart_key id_order (text_eq x e) x e (λ is. subst (λ y. text_eq x y ≡ true) is (text_equality.own x)) out

  unlisted : (a : IdBytes) (f : ℕ) → is_finite meta f ≡ true → (p : Place) → has (place_list meta p) (OfWhole a f) ≡ false → place_eq (Inside a f) p ≡ false
  unlisted a f finite p out =
      not_so (place_eq (Inside a f) p) (λ same. true_false _ (whole_listed meta a f p finite (place_equality.exact (Inside a f) p same)) out)

  moves_leave : (c : Cell) → has moved c ≡ false → Agree meta m (record m { place = set m.place e (Some to); prank = set m.prank e (Some rank) }) c
  moves_leave (OfKind x) out = refl
  moves_leave (OfPlace x) out = sym (get-set_other id_order m.place e (Some to) x (id_away x (or_first _ _ out)))
  moves_leave (OfRank x) out = sym (get-set_other id_order m.prank e (Some rank) x (id_away x (or_first _ _ out)))
  moves_leave (OfAttr x h) out = refl
  moves_leave (OfRow x h y) out = λ is. refl
  moves_leave (OfWhole a f) out = (
    λ is y. refl,
    λ finite x.
        let lists = not_first (place_list meta from ++ place_list meta to) (map About ((e ∷ (parents_of from ++ parents_of to)) ++ [])) (OfWhole a f) out in
        move_left (stands_in (Inside a f))
        (unlisted a f finite from (not_first (place_list meta from) (place_list meta to) (OfWhole a f) lists)
        ∙ sym (unlisted a f finite to (not_second (place_list meta from) (place_list meta to) (OfWhole a f) lists))) x,
  )
  moves_leave (About y) out = (
    λ h. refl,
    λ h z. refl,
    λ z h. refl,
    λ x.
        let abouts = not_second (place_list meta from ++ place_list meta to) (map About ((e ∷ (parents_of from ++ parents_of to)) ++ [])) (About y) out in
        let parents = two_parents y from to
        (subst (λ xs. has (map About xs) (About y) ≡ false) (append_nil (parents_of from ++ parents_of to)) (or_second (text_eq y e) _ abouts)) in
        move_left (stands_inside y) (parents.0 ∙ sym parents.1) x,
  )
    where
      append_nil : (xs : List IdBytes) → xs ++ [] ≡ xs
      append_nil [] = refl
      append_nil (x ∷ xs) = ap (λ ys. x ∷ ys) (append_nil xs)

pub leaves_others : (meta : Meta) → LeavesOthers meta
leaves_others meta m good (Put e f old new) can c out = attr_leaves meta m e f (single new) c out
leaves_others meta m good (Ins e f at v) can c out = attr_leaves meta m e f (entry_of (insert (values_of (get m.attr (e, f))) at v)) c out
leaves_others meta m good (Del e f at v) can c out = attr_leaves meta m e f (entry_of (remove (values_of (get m.attr (e, f))) at)) c out
leaves_others meta m good (New e class place rank) can c out =
    births_leave meta m e (Some class) None (Some place) (Some rank) place
    (dead_place meta m good e (no_some _ (not_true _ (passed (tests meta m (New e class place rank)) can).0))).0 (λ h alike. alike) c out
leaves_others meta m good (Gone e class place rank) can c out =
    births_leave meta m e None (Some place) None None place (place_is m e place (passed (tests meta m (Gone e class place rank)) can).1.1.0)
    (λ h alike. sym alike) c out
  where
    place_is : (m : State) (e : IdBytes) (place : Place) → option_eq place_eq (get m.place e) (Some place) ≡ true → get m.place e ≡ Some place
    place_is m e place h = (option_equality place_eq place_equality).exact (get m.place e) (Some place) h
leaves_others meta m good (Link a f ra b rb) can c out = rows_leave meta m a f b (opposite_of meta f) (Some ra) rb c out
leaves_others meta m good (Unlink a f ra b rb) can c out = rows_leave meta m a f b (opposite_of meta f) None None c out
leaves_others meta m good (RerankPlace e old new) can c out = place_leaves meta m e old new c out
leaves_others meta m good (Move e from from_rank to to_rank above_from above_to) can c out =
    moves_leave meta m e from to to_rank
    ((option_equality place_eq place_equality).exact (get m.place e) (Some from)
    (passed (tests meta m (Move e from from_rank to to_rank above_from above_to)) can).1.0) c out
leaves_others meta m good (RerankRow a f b old new) can c out = rows_leave meta m a f b None (Some new) None c out
leaves_others meta m good (Shift e f from to) can c out = attr_leaves meta m e f (entry_of (shifted (values_of (get m.attr (e, f))) from to)) c out
