-- Ins and Del: each undoes the other, and both keep the invariant.
use Rattle.std.proofs.lemmas.Bool.Decides.{nat_tests}
use Rattle.std.proofs.Common.{◌≡◌, ℕ, zero, suc, ◌≤◌, ◌<◌, Bool, true, false, cond, not, List, [], ◌∷◌, length, refl, sym, ap, subst, ◌∙◌, ◌&&◌}
use Rattle.std.proofs.Common.{arith, nat_le, nat_lt, nat_eq}
use Rattle.std.specs.Prelude.{Option, None, Some, slice_get}
use Rattle.std.specs.List.{insert, remove, list_all, list_any}
use Rattle.std.specs.FinMap.{get}
use Rattle.finite_maps.specs.Equal.{option_eq}
use Rattle.finite_maps.specs.Maps.{set, is_below, is_within}
use Rattle.finite_maps.proofs.MapLaws.{set_back, get-set_same, get-set_other, by_key}
use Rattle.finite_maps.proofs.EqualLaws.{IsEquality, and_first, and_second, and_both, apart, option_equality, nat_equality}
use Rattle.ecore_meta.specs.Meta.{Meta}
use Rattle.ecore_meta.specs.declared.meta.Kind.{Kind}
use Rattle.ecore_meta.specs.declared.meta.Kind.TheVariants.{Attr, AttrMany, Bounded, Free, Contains, Container, Skip}
use Rattle.ecore_meta.specs.declared.meta.Value.{Value}
use Rattle.model_state.specs.declared.step.Step.TheVariants.{Ins, Del, Shift}
use Rattle.model_state.specs.Keys.{IdBytes}
use Rattle.model_state.specs.Lists.{entry_of, values_of, shifted}
use Rattle.model_state.specs.Typing.{value_eq, kind_of, upper_of, is_many, is_unique, many_fits}
use Rattle.model_state.specs.State.{State}
use Rattle.model_state.specs.Steps.{tests, Can, apply, class_has}
use Rattle.model_state.specs.Good.{AttrOk, ValuesOk, Good, is_distinct}
use Rattle.model_state.proofs.Orders.{attr_order}
use Rattle.model_state.proofs.StepTests.{passed, pass, value_equality}
use Rattle.finite_maps.proofs.Cases.{not_false, not_true, or_first, or_second}
use Rattle.model_laws.proofs.Inserts.{remove-insert, insert-remove, length-insert, slice_get-insert, list_all-insert, list_any-insert}
use Rattle.model_laws.proofs.Inserts.{list_all-remove, list_any-remove, or_none}
use Rattle.model_state.specs.Ranks.{most_entries}

-- what a many-valued attribute's values meet
pub record ManyOk (meta : Meta) (k : Kind) (upper : Option ℕ) (vs : List Value) : Type 0 where
  pub typed : list_all (many_fits meta k) vs ≡ true
  pub within : is_within (length vs) upper ≡ true
  pub few : length vs ≤ most_entries
  pub once : is_unique k ≡ true → is_distinct vs ≡ true

pub within_none : (upper : Option ℕ) → is_within 0 upper ≡ true
within_none None = refl
within_none (Some n) = le n
  where
    le : (n : ℕ) → nat_le 0 n ≡ true
    le n = grind (arith, nat_tests)

from_values : (meta : Meta) (k : Kind) (upper : Option ℕ) (vs : List Value) → is_many k ≡ true → ValuesOk meta k upper vs → ManyOk meta k upper vs
from_values meta (AttrMany scalar unique) upper [] many h = absurd h
from_values meta (AttrMany scalar unique) upper (v ∷ vs) many h =
    record { typed = h.0; within = h.1; few = h.2; once = λ is. sym (ap (λ b. cond b (is_distinct (v ∷ vs)) true) is) ∙ h.3 }
from_values meta (Attr scalar default) upper vs many h = cc
from_values meta (Bounded target opposite) upper vs many h = cc
from_values meta (Free target opposite) upper vs many h = cc
from_values meta (Contains target opposite) upper vs many h = cc
from_values meta (Container target opposite) upper vs many h = cc
from_values meta Skip upper vs many h = cc

to_values : (meta : Meta) (k : Kind) (upper : Option ℕ) (v : Value) (vs : List Value) → is_many k ≡ true → ManyOk meta k upper (v ∷ vs)
    → ValuesOk meta k upper (v ∷ vs)
to_values meta (AttrMany scalar true) upper v vs many h = (h.typed, h.within, h.few, h.once refl)
to_values meta (AttrMany scalar false) upper v vs many h = (h.typed, h.within, h.few, refl)
to_values meta (Attr scalar default) upper v vs many h = cc
to_values meta (Bounded target opposite) upper v vs many h = cc
to_values meta (Free target opposite) upper v vs many h = cc
to_values meta (Contains target opposite) upper v vs many h = cc
to_values meta (Container target opposite) upper v vs many h = cc
to_values meta Skip upper v vs many h = cc

no_empty : (meta : Meta) (k : Kind) (upper : Option ℕ) → ValuesOk meta k upper [] → ⊥
no_empty meta (AttrMany scalar unique) upper h = h
no_empty meta (Attr scalar default) upper h = h
no_empty meta (Bounded target opposite) upper h = h
no_empty meta (Free target opposite) upper h = h
no_empty meta (Contains target opposite) upper h = h
no_empty meta (Container target opposite) upper h = h
no_empty meta Skip upper h = h

-- an entry is that of its list
pub whole : (meta : Meta) (c : Option ℕ) (f : ℕ) (o : Option (List Value)) → AttrOk meta c f o → entry_of (values_of o) ≡ o
whole meta c f None h = refl
whole meta None f (Some vs) h = absurd h
whole meta (Some c) f (Some []) h = absurd (no_empty meta (kind_of meta f) (upper_of meta f) h.1)
whole meta (Some c) f (Some (v ∷ vs)) h = refl

pub part : (vs : List Value) → values_of (entry_of vs) ≡ vs
part [] = refl
part (v ∷ vs) = refl

pub from_entry : (meta : Meta) (c : Option ℕ) (f : ℕ) (o : Option (List Value)) → is_many (kind_of meta f) ≡ true → AttrOk meta c f o
    → ManyOk meta (kind_of meta f) (upper_of meta f) (values_of o)
from_entry meta c f None many h = record { typed = refl; within = within_none (upper_of meta f); few = omega arith; once = λ _. refl }
from_entry meta None f (Some vs) many h = absurd h
from_entry meta (Some c) f (Some vs) many h = from_values meta (kind_of meta f) (upper_of meta f) vs many h.1

to_entry : (meta : Meta) (c : Option ℕ) (f : ℕ) (vs : List Value) → class_has meta c f ≡ true → is_many (kind_of meta f) ≡ true
    → ManyOk meta (kind_of meta f) (upper_of meta f) vs → AttrOk meta c f (entry_of vs)
to_entry meta c f [] has many h = tt
to_entry meta None f (v ∷ vs) has many h = cc
to_entry meta (Some c) f (v ∷ vs) has many h = (has, to_values meta (kind_of meta f) (upper_of meta f) v vs many h)

distinct-insert : (vs : List Value) (i : ℕ) (v : Value) → list_any (value_eq v) vs ≡ false → is_distinct vs ≡ true → is_distinct (insert vs i v) ≡ true
distinct-insert [] zero v out h = refl
distinct-insert [] (suc i) v out h = refl
distinct-insert (x ∷ xs) zero v out h = and_both _ _ (not_false (list_any (value_eq v) (x ∷ xs)) out) h
distinct-insert (x ∷ xs) (suc i) v out h =
    let other : value_eq x v ≡ false = apart value_eq value_equality v x (or_first (value_eq v x) _ out) in
    and_both (not (list_any (value_eq x) (insert xs i v))) _
    (ap not (list_any-insert (value_eq x) xs i v other) ∙ and_first (not (list_any (value_eq x) xs)) _ h)
    (distinct-insert xs i v (or_second (value_eq v x) _ out) (and_second (not (list_any (value_eq x) xs)) _ h))

distinct-remove : (vs : List Value) (i : ℕ) → is_distinct vs ≡ true → is_distinct (remove vs i) ≡ true
distinct-remove [] zero h = refl
distinct-remove [] (suc i) h = refl
distinct-remove (x ∷ xs) zero h = and_second (not (list_any (value_eq x) xs)) _ h
distinct-remove (x ∷ xs) (suc i) h =
    and_both (not (list_any (value_eq x) (remove xs i))) _
    (not_false (list_any (value_eq x) (remove xs i))
    (list_any-remove (value_eq x) xs i (not_true (list_any (value_eq x) xs) (and_first (not (list_any (value_eq x) xs)) _ h))))
    (distinct-remove xs i (and_second (not (list_any (value_eq x) xs)) _ h))

any_at : (p : Value → Bool) (xs : List Value) (i : ℕ) (v : Value) → slice_get xs i ≡ Some v → list_any p xs ≡ false → p v ≡ false
any_at p [] i v h out = cc
any_at p (x ∷ xs) zero v h out = ap p (same v x (sym h)) ∙ or_first (p x) _ out
  where
    same : (v x : Value) → Some v ≡ Some x → v ≡ x
    same v x e = cc
any_at p (x ∷ xs) (suc i) v h out = any_at p xs i v h (or_second (p x) _ out)

-- a value that stands once is not there once it is taken out
once_gone : (xs : List Value) (i : ℕ) (v : Value) → slice_get xs i ≡ Some v → is_distinct xs ≡ true → list_any (value_eq v) (remove xs i) ≡ false
once_gone [] i v h d = cc
once_gone (x ∷ xs) zero v h d =
    subst (λ y. list_any (value_eq y) xs ≡ false) (same x v h) (not_true (list_any (value_eq x) xs) (and_first (not (list_any (value_eq x) xs)) _ d))
  where
    same : (x v : Value) → Some x ≡ Some v → x ≡ v
    same x v e = cc
once_gone (x ∷ xs) (suc i) v h d =
    or_none (value_eq v x) _
    (apart value_eq value_equality x v (any_at (value_eq x) xs i v h (not_true (list_any (value_eq x) xs) (and_first (not (list_any (value_eq x) xs)) _ d))))
    (once_gone xs i v h (and_second (not (list_any (value_eq x) xs)) _ d))

below_within : (a : ℕ) (upper : Option ℕ) → is_below a upper ≡ true → is_within (suc a) upper ≡ true
below_within a None h = refl
below_within a (Some n) h = next a n h
  where
    next : (a n : ℕ) → nat_lt a n ≡ true → nat_le (suc a) n ≡ true
    next a n h = grind (arith, nat_tests)

within_below : (a : ℕ) (upper : Option ℕ) → is_within (suc a) upper ≡ true → is_below a upper ≡ true
within_below a None h = refl
within_below a (Some n) h = prev a n h
  where
    prev : (a n : ℕ) → nat_le (suc a) n ≡ true → nat_lt a n ≡ true
    prev a n h = grind (arith, nat_tests)

within_less : (a b : ℕ) (upper : Option ℕ) → a ≤ b → is_within b upper ≡ true → is_within a upper ≡ true
within_less a b None h g = refl
within_less a b (Some n) h g = less a b n h g
  where
    less : (a b n : ℕ) → a ≤ b → nat_le b n ≡ true → nat_le a n ≡ true
    less a b n h g = grind (arith, nat_tests)

le_is : (a b : ℕ) → nat_le a b ≡ true → a ≤ b
le_is a b h = grind (arith, nat_tests)

is_le : (a b : ℕ) → a ≤ b → nat_le a b ≡ true
is_le a b h = grind (arith, nat_tests)

lt_is : (a b : ℕ) → nat_lt a b ≡ true → a < b
lt_is a b h = grind (arith, nat_tests)

is_lt : (a b : ℕ) → a < b → nat_lt a b ≡ true
is_lt a b h = grind (arith, nat_tests)

lone : (unique any : Bool) → not (unique && any) ≡ true → unique ≡ true → any ≡ false
lone true any h is = not_true any h
lone false any h is = cc

not_both : (unique any : Bool) → (unique ≡ true → any ≡ false) → not (unique && any) ≡ true
not_both true any h = ap not (h refl)
not_both false any h = refl

length-remove : (xs : List Value) (i : ℕ) → i < length xs → suc (length (remove xs i)) ≡ length xs
length-remove [] i h = absurd (omega arith)
length-remove (x ∷ xs) zero h = refl
length-remove (x ∷ xs) (suc i) h = ap suc (length-remove xs i (omega arith))

value_test : IsEquality (option_eq value_eq)
value_test = option_equality value_eq value_equality

module _ (meta : Meta) (m : State) (good : Good meta m) (e : IdBytes) (f : ℕ) (at : ℕ) (v : Value) where
  module _ (can : Can meta m (Ins e f at v)) where
    ins_whole : entry_of (values_of (get m.attr (e, f))) ≡ get m.attr (e, f)
    ins_whole = whole meta (get m.kind e) f (get m.attr (e, f)) (good.attrs.typed e f)

    ins_fits : at ≤ length (values_of (get m.attr (e, f)))
    ins_fits = le_is _ _ (passed (tests meta m (Ins e f at v)) can).1.1.1.1.0

    ins_now : values_of (get (set m.attr (e, f) (entry_of (insert (values_of (get m.attr (e, f))) at v))) (e, f)) ≡ insert (values_of (get m.attr (e, f))) at v
    ins_now = ap values_of (get-set_same attr_order m.attr (e, f) (entry_of (insert (values_of (get m.attr (e, f))) at v)))
        ∙ part (insert (values_of (get m.attr (e, f))) at v)

    pub ins_undone : apply meta (apply meta m (Ins e f at v)) (Del e f at v) ≡ m
    ins_undone =
        let vs = values_of (get m.attr (e, f)) in
        let after = set m.attr (e, f) (entry_of (insert vs at v)) in
        let back : entry_of (remove (values_of (get after (e, f))) at) ≡ get m.attr (e, f) =
        ap (λ ws. entry_of (remove ws at)) ins_now ∙ ap entry_of (remove-insert vs at v ins_fits) ∙ ins_whole in
        ap (λ a. record m { attr = a }) (ap (set after (e, f)) back ∙ set_back attr_order m.attr (e, f) (get m.attr (e, f)) (entry_of (insert vs at v)) refl)

    pub ins_back : Can meta (apply meta m (Ins e f at v)) (Del e f at v)
    ins_back =
        let vs = values_of (get m.attr (e, f)) in
        let p = passed (tests meta m (Ins e f at v)) can in
        pass (tests meta (apply meta m (Ins e f at v)) (Del e f at v)) (
          p.0,
          (
            p.1.0,
            (
              p.1.1.0,
              (
                p.1.1.1.0,
                (
                  is_lt at _ (subst (λ ws. at < length ws) (sym ins_now)
                      (subst (λ n. at < n) (sym (length-insert vs at v ins_fits)) (omega (arith, ins_fits)))),
                  (
                    ap (λ ws. option_eq value_eq (slice_get ws at) (Some v)) ins_now
                        ∙ ap (λ o. option_eq value_eq o (Some v)) (slice_get-insert vs at v ins_fits) ∙ value_test.own (Some v),
                    tt,
                  ),
                ),
              ),
            ),
          ),
        )

    pub ins_keeps : Good meta (apply meta m (Ins e f at v))
    ins_keeps =
        let vs = values_of (get m.attr (e, f)) in
        let p = passed (tests meta m (Ins e f at v)) can in
        let old = from_entry meta (get m.kind e) f (get m.attr (e, f)) p.1.1.0 (good.attrs.typed e f) in
        let longer = length-insert vs at v ins_fits in
        let ok : ManyOk meta (kind_of meta f) (upper_of meta f) (insert vs at v) = record {
          typed = list_all-insert (many_fits meta (kind_of meta f)) vs at v p.1.1.1.0 old.typed;
          within = subst (λ n. is_within n (upper_of meta f) ≡ true) (sym longer) (below_within (length vs) (upper_of meta f) p.1.1.1.1.1.1.0);
          few = subst (λ n. n ≤ most_entries) (sym longer) (lt_is (length vs) most_entries p.1.1.1.1.1.1.1.0);
          once = λ is. distinct-insert vs at v (lone (is_unique (kind_of meta f)) (list_any (value_eq v) vs) p.1.1.1.1.1.0 is) (old.once is);
        } in
        record {
          places = good.places;
          attrs = record {
            typed = λ x h.
                by_key attr_order (λ q. AttrOk meta (get m.kind q.0) q.1 (get (set m.attr (e, f) (entry_of (insert vs at v))) q)) (e, f) (x, h)
                (subst (λ o. AttrOk meta (get m.kind e) f o) (sym (get-set_same attr_order m.attr (e, f) (entry_of (insert vs at v))))
                (to_entry meta (get m.kind e) f (insert vs at v) p.1.0 p.1.1.0 ok))
                (λ other. subst (λ o. AttrOk meta (get m.kind x) h o)
                (sym (get-set_other attr_order m.attr (e, f) (entry_of (insert vs at v)) (x, h) other)) (good.attrs.typed x h));
          };
          rows = good.rows;
        }

  module _ (can : Can meta m (Del e f at v)) where
    del_stands : slice_get (values_of (get m.attr (e, f))) at ≡ Some v
    del_stands = value_test.exact _ _ (passed (tests meta m (Del e f at v)) can).1.1.1.1.1.0

    del_in : at < length (values_of (get m.attr (e, f)))
    del_in = lt_is _ _ (passed (tests meta m (Del e f at v)) can).1.1.1.1.0

    del_now : values_of (get (set m.attr (e, f) (entry_of (remove (values_of (get m.attr (e, f))) at))) (e, f)) ≡ remove (values_of (get m.attr (e, f))) at
    del_now = ap values_of (get-set_same attr_order m.attr (e, f) (entry_of (remove (values_of (get m.attr (e, f))) at)))
        ∙ part (remove (values_of (get m.attr (e, f))) at)

    pub del_undone : apply meta (apply meta m (Del e f at v)) (Ins e f at v) ≡ m
    del_undone =
        let vs = values_of (get m.attr (e, f)) in
        let after = set m.attr (e, f) (entry_of (remove vs at)) in
        let back : entry_of (insert (values_of (get after (e, f))) at v) ≡ get m.attr (e, f) =
        ap (λ ws. entry_of (insert ws at v)) del_now ∙ ap entry_of (insert-remove vs at v del_stands)
        ∙ whole meta (get m.kind e) f (get m.attr (e, f)) (good.attrs.typed e f) in
        ap (λ a. record m { attr = a }) (ap (set after (e, f)) back ∙ set_back attr_order m.attr (e, f) (get m.attr (e, f)) (entry_of (remove vs at)) refl)

    pub del_back : Can meta (apply meta m (Del e f at v)) (Ins e f at v)
    del_back =
        let vs = values_of (get m.attr (e, f)) in
        let p = passed (tests meta m (Del e f at v)) can in
        let old = from_entry meta (get m.kind e) f (get m.attr (e, f)) p.1.1.0 (good.attrs.typed e f) in
        let shorter = length-remove vs at del_in in
        let few : suc (length (remove vs at)) ≤ most_entries = subst (λ n. n ≤ most_entries) (sym shorter) old.few in
        pass (tests meta (apply meta m (Del e f at v)) (Ins e f at v)) (
          p.0,
          (
            p.1.0,
            (
              p.1.1.0,
              (
                p.1.1.1.0,
                (
                  ap (λ ws. nat_le at (length ws)) del_now ∙ is_le at (length (remove vs at)) (omega (arith, shorter, del_in)),
                  (
                    ap (λ ws. not (is_unique (kind_of meta f) && list_any (value_eq v) ws)) del_now
                        ∙ not_both _ _ (λ is. once_gone vs at v del_stands (old.once is)),
                    (
                      ap (λ ws. is_below (length ws) (upper_of meta f)) del_now
                          ∙ within_below (length (remove vs at)) (upper_of meta f)
                          (subst (λ n. is_within n (upper_of meta f) ≡ true) (sym shorter) old.within),
                      (
                        ap (λ ws. nat_lt (length ws) most_entries) del_now ∙ is_lt (length (remove vs at)) most_entries few,
                        tt,
                      ),
                    ),
                  ),
                ),
              ),
            ),
          ),
        )

    pub del_keeps : Good meta (apply meta m (Del e f at v))
    del_keeps =
        let vs = values_of (get m.attr (e, f)) in
        let p = passed (tests meta m (Del e f at v)) can in
        let old = from_entry meta (get m.kind e) f (get m.attr (e, f)) p.1.1.0 (good.attrs.typed e f) in
        let shorter = length-remove vs at del_in in
        let less : length (remove vs at) ≤ length vs = omega (arith, shorter) in
        let ok : ManyOk meta (kind_of meta f) (upper_of meta f) (remove vs at) = record {
          typed = list_all-remove (many_fits meta (kind_of meta f)) vs at old.typed;
          within = within_less (length (remove vs at)) (length vs) (upper_of meta f) less old.within;
          few = omega (arith, less, old.few);
          once = λ is. distinct-remove vs at (old.once is);
        } in
        record {
          places = good.places;
          attrs = record {
            typed = λ x h.
                by_key attr_order (λ q. AttrOk meta (get m.kind q.0) q.1 (get (set m.attr (e, f) (entry_of (remove vs at))) q)) (e, f) (x, h)
                (subst (λ o. AttrOk meta (get m.kind e) f o) (sym (get-set_same attr_order m.attr (e, f) (entry_of (remove vs at))))
                (to_entry meta (get m.kind e) f (remove vs at) p.1.0 p.1.1.0 ok))
                (λ other. subst (λ o. AttrOk meta (get m.kind x) h o)
                (sym (get-set_other attr_order m.attr (e, f) (entry_of (remove vs at)) (x, h) other)) (good.attrs.typed x h));
          };
          rows = good.rows;
        }

-- ---- Shift
stands : (xs : List Value) (i : ℕ) → i < length xs → (v : Value) × (slice_get xs i ≡ Some v)
stands [] i h = absurd (omega arith)
stands (x ∷ xs) zero h = (x, refl)
stands (x ∷ xs) (suc i) h = stands xs i (omega arith)

all_at : (p : Value → Bool) (xs : List Value) (i : ℕ) (v : Value) → slice_get xs i ≡ Some v → list_all p xs ≡ true → p v ≡ true
all_at p [] i v h g = cc
all_at p (x ∷ xs) zero v h g = ap p (same v x (sym h)) ∙ and_first (p x) _ g
  where
    same : (v x : Value) → Some v ≡ Some x → v ≡ x
    same v x e = cc
all_at p (x ∷ xs) (suc i) v h g = all_at p xs i v h (and_second (p x) _ g)

shifted_is : (vs : List Value) (from to : ℕ) (v : Value) → slice_get vs from ≡ Some v → shifted vs from to ≡ insert (remove vs from) to v
shifted_is vs from to v h = ap (λ (o : Option Value). elim o as (λ _. List Value) [ None ↦ vs | Some v ↦ insert (remove vs from) to v ]) h

module _ (vs : List Value) (from to : ℕ) (v : Value) (here : slice_get vs from ≡ Some v) (inside : from < length vs) (inside' : to < length vs) where
  room_there : to ≤ length (remove vs from)
  room_there = let shorter = length-remove vs from inside in omega (arith, shorter)

  length-shifted : length (shifted vs from to) ≡ length vs
  length-shifted = ap length (shifted_is vs from to v here) ∙ length-insert (remove vs from) to v room_there ∙ length-remove vs from inside

  shift_back : shifted (shifted vs from to) to from ≡ vs
  shift_back =
      ap (λ ws. shifted ws to from) (shifted_is vs from to v here)
      ∙ shifted_is (insert (remove vs from) to v) to from v (slice_get-insert (remove vs from) to v room_there)
      ∙ ap (λ ws. insert ws from v) (remove-insert (remove vs from) to v room_there)
      ∙ insert-remove vs from v here

  shifted_ok : (meta : Meta) (k : Kind) (upper : Option ℕ) → ManyOk meta k upper vs → ManyOk meta k upper (shifted vs from to)
  shifted_ok meta k upper old = record {
    typed = ap (list_all (many_fits meta k)) (shifted_is vs from to v here)
        ∙ list_all-insert (many_fits meta k) (remove vs from) to v (all_at (many_fits meta k) vs from v here old.typed)
        (list_all-remove (many_fits meta k) vs from old.typed);
    within = ap (λ n. is_within n upper) length-shifted ∙ old.within;
    few = subst (λ n. n ≤ most_entries) (sym length-shifted) old.few;
    once = λ is. ap is_distinct (shifted_is vs from to v here)
        ∙ distinct-insert (remove vs from) to v (once_gone vs from v here (old.once is)) (distinct-remove vs from (old.once is));
  }

module _ (meta : Meta) (m : State) (good : Good meta m) (e : IdBytes) (f : ℕ) (from to : ℕ) (can : Can meta m (Shift e f from to)) where
  from_in : from < length (values_of (get m.attr (e, f)))
  from_in = lt_is _ _ (passed (tests meta m (Shift e f from to)) can).1.1.1.1.0

  to_in : to < length (values_of (get m.attr (e, f)))
  to_in = lt_is _ _ (passed (tests meta m (Shift e f from to)) can).1.1.1.1.1.0

  shift_now : values_of (get (set m.attr (e, f) (entry_of (shifted (values_of (get m.attr (e, f))) from to))) (e, f)) ≡ shifted
      (values_of (get m.attr (e, f))) from to
  shift_now = ap values_of (get-set_same attr_order m.attr (e, f) (entry_of (shifted (values_of (get m.attr (e, f))) from to)))
      ∙ part (shifted (values_of (get m.attr (e, f))) from to)

  pub shift_undone : apply meta (apply meta m (Shift e f from to)) (Shift e f to from) ≡ m
  shift_undone =
      let vs = values_of (get m.attr (e, f)) in
      let s = stands vs from from_in in
      let after = set m.attr (e, f) (entry_of (shifted vs from to)) in
      let back : entry_of (shifted (values_of (get after (e, f))) to from) ≡ get m.attr (e, f) =
      ap (λ ws. entry_of (shifted ws to from)) shift_now ∙ ap entry_of (shift_back vs from to s.0 s.1 from_in to_in)
      ∙ whole meta (get m.kind e) f (get m.attr (e, f)) (good.attrs.typed e f) in
      ap (λ a. record m { attr = a }) (ap (set after (e, f)) back ∙ set_back attr_order m.attr (e, f) (get m.attr (e, f)) (entry_of (shifted vs from to)) refl)

  pub shift_returns : Can meta (apply meta m (Shift e f from to)) (Shift e f to from)
  shift_returns =
      let vs = values_of (get m.attr (e, f)) in
      let s = stands vs from from_in in
      let long = ap length shift_now ∙ length-shifted vs from to s.0 s.1 from_in to_in in
      let p = passed (tests meta m (Shift e f from to)) can in
      pass (tests meta (apply meta m (Shift e f from to)) (Shift e f to from)) (
        p.0,
        (
          p.1.0,
          (
            p.1.1.0,
            (
              not_false _ (apart nat_eq nat_equality from to (not_true _ p.1.1.1.0)),
              (
                ap (nat_lt to) long ∙ p.1.1.1.1.1.0,
                (
                  ap (nat_lt from) long ∙ p.1.1.1.1.0,
                  tt,
                ),
              ),
            ),
          ),
        ),
      )

  pub shift_keeps : Good meta (apply meta m (Shift e f from to))
  shift_keeps =
      let vs = values_of (get m.attr (e, f)) in
      let s = stands vs from from_in in
      let p = passed (tests meta m (Shift e f from to)) can in
      let ok = shifted_ok vs from to s.0 s.1 from_in to_in meta (kind_of meta f) (upper_of meta f)
      (from_entry meta (get m.kind e) f (get m.attr (e, f)) p.1.1.0 (good.attrs.typed e f)) in
      record {
        places = good.places;
        attrs = record {
          typed = λ x h.
              by_key attr_order (λ q. AttrOk meta (get m.kind q.0) q.1 (get (set m.attr (e, f) (entry_of (shifted vs from to))) q)) (e, f) (x, h)
              (subst (λ o. AttrOk meta (get m.kind e) f o) (sym (get-set_same attr_order m.attr (e, f) (entry_of (shifted vs from to))))
              (to_entry meta (get m.kind e) f (shifted vs from to) p.1.0 p.1.1.0 ok))
              (λ other. subst (λ o. AttrOk meta (get m.kind x) h o)
              (sym (get-set_other attr_order m.attr (e, f) (entry_of (shifted vs from to)) (x, h) other)) (good.attrs.typed x h));
        };
        rows = good.rows;
      }
