-- A row is reached by its ends exactly where it is of one of the features of elements, or the mirror of such a row.
use Rattle.std.proofs.lemmas.List.Folds.{list_any-append}
use Rattle.std.proofs.Common.{◌≡◌, ℕ, Bool, true, false, cond, List, [], ◌∷◌, ◌++◌, refl, sym, ap, subst, ◌∙◌, nat_eq, ◌&&◌, ◌||◌}
use Rattle.std.specs.Prelude.{Option, None, Some}
use Rattle.std.specs.List.{list_any}
use Rattle.std.specs.BTreeMap.{is_at}
use Rattle.std.specs.BTreeSet.{BTreeSet, contains}
use Rattle.finite_maps.specs.Equal.{text_eq}
use Rattle.finite_maps.proofs.EqualLaws.{text_equality, nat_equality, and_first, and_second, and_both}
use Rattle.finite_maps.proofs.MapLaws.{same_key, own_key}
use Rattle.ecore_meta.specs.Meta.{Meta}
use Rattle.model_state.specs.Keys.{IdBytes, AttrKey, attr_cmp}
use Rattle.model_state.specs.Typing.{opposite_of}
use Rattle.model_state.specs.Good.{Sound}
use Rattle.model_state.proofs.Orders.{attr_order}
use Rattle.edit_steps.specs.Rows.{is_row_or_mirror, is_mirror}
use Rattle.edit_steps.specs.Deletes.{is_touched}
use Rattle.edit_steps.specs.Reached.{is_slot, HasSlots, has_other, is_reached}

alike : (b c : Bool) → (b ≡ true → c ≡ true) → (c ≡ true → b ≡ true) → b ≡ c
alike true c to from = sym (to refl)
alike false true to from = from refl
alike false false to from = refl

-- ---- one feature more
slot_at : (k q : AttrKey) → is_at (attr_cmp k) q ≡ is_slot q k
slot_at k q =
    alike (is_at (attr_cmp k) q) (is_slot q k)
    (λ at. let same : k ≡ q = same_key attr_order k q at in
    subst (λ (z : AttrKey). is_slot q z ≡ true) (sym same) (and_both (text_eq q.0 q.0) (nat_eq q.1 q.1) (text_equality.own q.0) (nat_equality.own q.1)))
    (λ both.
    let first = text_equality.exact q.0 k.0 (and_first _ _ both) in
    let second = nat_equality.exact q.1 k.1 (and_second _ _ both) in
    let same : q ≡ k = λ i. (first i, second i) in
    subst (λ (z : AttrKey). is_at (attr_cmp k) z ≡ true) (sym same) (own_key attr_order k))

one_more : (b c : Bool) → cond b true c ≡ c || (b || false)
one_more true true = refl
one_more true false = refl
one_more false true = refl
one_more false false = refl

pub slots_more : (s n : BTreeSet AttrKey) (slots : List AttrKey) (k : AttrKey) → HasSlots s slots
    → ((q : AttrKey) → contains attr_cmp n q ≡ cond (is_at (attr_cmp k) q) true (contains attr_cmp s q)) → HasSlots n (slots ++ k ∷ [])
slots_more s n slots k has wrote q =
    wrote q ∙ ap (cond (is_at (attr_cmp k) q) true) (has q) ∙ ap (λ b. cond b true (list_any (is_slot q) slots)) (slot_at k q)
    ∙ one_more (is_slot q k) (list_any (is_slot q) slots)
    ∙ sym (list_any-append (is_slot q) slots (k ∷ []))

-- ---- the mirror
-- the row's other end, if it is one
abbrev ends_at : IdBytes → Option ℕ → AttrKey → Bool
ends_at b None s = false
ends_at b (Some g) s = is_slot (b, g) s

none_of : (b : IdBytes) (ss : List AttrKey) → list_any (ends_at b None) ss ≡ false
none_of b [] = refl
none_of b (s ∷ ss) = none_of b ss

module _ (meta : Meta) (sound : Sound meta) (a : IdBytes) (f : ℕ) (b : IdBytes) where
  to_end : (s : AttrKey) (o : Option ℕ) → opposite_of meta s.1 ≡ o → is_mirror o s.0 (a, f, b) ≡ true → ends_at b (opposite_of meta f) s ≡ true
  to_end s None is h = cc
  to_end s (Some g) is h =
      let feature : g ≡ f = nat_equality.exact g f (and_first _ _ h) in
      let back : opposite_of meta f ≡ Some s.1 = subst (λ z. opposite_of meta z ≡ Some s.1) feature (sound.both s.1 g is) in
      let element : s.0 ≡ b = text_equality.exact s.0 b (and_second _ _ h) in
      ap (λ o. ends_at b o s) back
      ∙ and_both (text_eq b s.0) (nat_eq s.1 s.1) (subst (λ z. text_eq z s.0 ≡ true) element (text_equality.own s.0)) (nat_equality.own s.1)

  to_mirror : (s : AttrKey) (o : Option ℕ) → opposite_of meta f ≡ o → ends_at b o s ≡ true → is_mirror (opposite_of meta s.1) s.0 (a, f, b) ≡ true
  to_mirror s None is h = cc
  to_mirror s (Some g) is h =
      let feature : g ≡ s.1 = nat_equality.exact g s.1 (and_second _ _ h) in
      let back : opposite_of meta s.1 ≡ Some f = subst (λ z. opposite_of meta z ≡ Some f) feature (sound.both f g is) in
      let element : b ≡ s.0 = text_equality.exact b s.0 (and_first _ _ h) in
      ap (λ o. is_mirror o s.0 (a, f, b)) back
      ∙ and_both (nat_eq f f) (text_eq s.0 b) (nat_equality.own f) (subst (λ z. text_eq z b ≡ true) element (text_equality.own b))

  mirror_is : (s : AttrKey) → is_mirror (opposite_of meta s.1) s.0 (a, f, b) ≡ ends_at b (opposite_of meta f) s
  mirror_is s = alike _ _ (to_end s (opposite_of meta s.1) refl) (to_mirror s (opposite_of meta f) refl)

  own_is : (s : AttrKey) → text_eq s.0 a && nat_eq s.1 f ≡ is_slot (a, f) s
  own_is s = alike _ _
      (λ h. let first = text_equality.exact s.0 a (and_first _ _ h) in
      let second = nat_equality.exact s.1 f (and_second _ _ h) in
      and_both (text_eq a s.0) (nat_eq f s.1) (subst (λ z. text_eq z s.0 ≡ true) first (text_equality.own s.0))
      (subst (λ z. nat_eq z s.1 ≡ true) second (nat_equality.own s.1)))
      (λ h. let first = text_equality.exact a s.0 (and_first _ _ h) in
      let second = nat_equality.exact f s.1 (and_second _ _ h) in
      and_both (text_eq s.0 a) (nat_eq s.1 f) (subst (λ z. text_eq z a ≡ true) first (text_equality.own a))
      (subst (λ z. nat_eq z f ≡ true) second (nat_equality.own f)))

  around_is : (s : AttrKey) → is_row_or_mirror (opposite_of meta s.1) s.0 s.1 (a, f, b) ≡ is_slot (a, f) s || ends_at b (opposite_of meta f) s
  around_is s = (λ i. own_is s i || mirror_is s i)

  regroup : (p q r s : Bool) → (p || q) || (r || s) ≡ (p || r) || (q || s)
  regroup true q r s = refl
  regroup false true true s = refl
  regroup false true false s = refl
  regroup false false r s = refl

  touched_is : (ss : List AttrKey) → is_touched meta ss (a, f, b) ≡ list_any (is_slot (a, f)) ss || list_any (ends_at b (opposite_of meta f)) ss
  touched_is [] = refl
  touched_is (s ∷ ss) =
      (λ i. around_is s i || touched_is ss i)
      ∙ regroup (is_slot (a, f) s) (ends_at b (opposite_of meta f) s) (list_any (is_slot (a, f)) ss) (list_any (ends_at b (opposite_of meta f)) ss)

  other_is : (set : BTreeSet AttrKey) (ss : List AttrKey) → HasSlots set ss → (o : Option ℕ) → has_other set b o ≡ list_any (ends_at b o) ss
  other_is set ss has None = sym (none_of b ss)
  other_is set ss has (Some g) = has (b, g)

  pub reached_is : (set : BTreeSet AttrKey) (ss : List AttrKey) → HasSlots set ss → is_reached meta set (a, f, b) ≡ is_touched meta ss (a, f, b)
  reached_is set ss has = (λ i. has (a, f) i || other_is set ss has (opposite_of meta f) i) ∙ sym (touched_is ss)
