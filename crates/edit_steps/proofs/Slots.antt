-- The features of the elements of a subtree, and the rows that they take away.
use Rattle.std.proofs.Common.{◌≡◌, ℕ, Bool, true, false, cond, List, [], ◌∷◌, refl, sym, ap, subst, ◌∙◌, ◌||◌, ◌&&◌, map, nat_eq, inl, inr}
use Rattle.std.specs.Prelude.{Option, None, Some, is_some}
use Rattle.std.specs.FinMap.{get}
use Rattle.finite_maps.specs.Equal.{text_eq}
use Rattle.finite_maps.specs.Sorts.{without}
use Rattle.finite_maps.proofs.Cases.{not_so, true_false}
use Rattle.finite_maps.proofs.EqualLaws.{and_both, and_first, and_second, nat_equality, text_equality}
use Rattle.finite_maps.proofs.MapLaws.{same}
use Rattle.finite_maps.proofs.NestedLaws.{get-without}
use Rattle.ecore_meta.specs.Meta.{Meta, has_feature}
use Rattle.ecore_meta.specs.declared.meta.Kind.{Kind}
use Rattle.ecore_meta.specs.declared.meta.Kind.TheVariants.{Attr, AttrMany, Bounded, Free, Contains, Container, Skip}
use Rattle.model_state.specs.Keys.{IdBytes, AttrKey, RowKey}
use Rattle.model_state.specs.State.{State}
use Rattle.model_state.specs.Steps.{class_has, may_link}
use Rattle.model_state.specs.Typing.{kind_of, is_plain, opposite_of, plain_to}
use Rattle.model_state.specs.Good.{Good, Sound, RowOk}
use Rattle.model_state.proofs.Orders.{row_order}
use Rattle.edit_steps.specs.Rows.{is_row_or_mirror, is_mirror}
use Rattle.edit_steps.specs.Deletes.{is_touched, slots_of}
use Rattle.edit_steps.specs.Subtree.{features_of, is_among}
use Rattle.edit_steps.proofs.Members.{In, Distinct, in_left, in_right, in_either, in_map, map_in, distinct_join, among_in, in_among}
use Rattle.edit_steps.proofs.Children.{features_distinct, feature_listed}
use Rattle.edit_steps.proofs.IncomingRows.{is_gone, NoOpposites, gathered}

plain_some : (meta : Meta) (k : Kind) (d : ℕ) → plain_to meta k d ≡ true → is_plain k ≡ true
plain_some meta (Bounded t o) d h = refl
plain_some meta (Free t o) d h = refl
plain_some meta (Attr s v) d h = cc
plain_some meta (AttrMany s u) d h = cc
plain_some meta (Contains t o) d h = cc
plain_some meta (Container t o) d h = cc
plain_some meta Skip d h = cc

-- a feature that may link is a plain reference of the source's class
pub source_plain : (meta : Meta) (c : Option ℕ) (f : ℕ) (d : Option ℕ) → may_link meta c f d ≡ true
    → (class_has meta c f ≡ true) × (is_plain (kind_of meta f) ≡ true)
source_plain meta None f d h = cc
source_plain meta (Some c) f None h = cc
source_plain meta (Some c) f (Some d) h = (and_first _ _ h, plain_some meta (kind_of meta f) d (and_second (has_feature meta c f) _ h))

module _ (meta : Meta) (m : State) (p : Kind → Bool) where
  pub slot_in : (x : IdBytes) (f : ℕ) (xs : List IdBytes) → In x xs → In f (features_of meta p (get m.kind x)) → In {A = AttrKey} (x, f) (slots_of meta m p xs)
  slot_in x f [] h g = absurd h
  slot_in x f (y ∷ ys) (inl e) g = in_left {A = AttrKey} (x, f) (map {B = AttrKey} (λ f. (y, f)) (features_of meta p (get m.kind y))) (slots_of meta m p ys)
      (subst (λ (z : IdBytes). In {A = AttrKey} (x, f) (map {B = AttrKey} (λ f. (z, f)) (features_of meta p (get m.kind z)))) e
      (map_in {B = AttrKey} (λ f. (x, f)) f (features_of meta p (get m.kind x)) g))
  slot_in x f (y ∷ ys) (inr h) g =
      in_right {A = AttrKey} (x, f) (map {B = AttrKey} (λ f. (y, f)) (features_of meta p (get m.kind y))) (slots_of meta m p ys) (slot_in x f ys h g)

  pub in_slots : (s : AttrKey) (xs : List IdBytes) → In s (slots_of meta m p xs) → In s.0 xs × In s.1 (features_of meta p (get m.kind s.0))
  in_slots s [] h = absurd h
  in_slots s (y ∷ ys) h =
      elim (in_either s (map {B = AttrKey} (λ f. (y, f)) (features_of meta p (get m.kind y))) (slots_of meta m p ys) h) [
        | inl l ↦
            let at = in_map {B = AttrKey} (λ f. (y, f)) s (features_of meta p (get m.kind y)) l in
            let name : s.0 ≡ y = ap (λ (q : AttrKey). q.0) at.2 in
            let feature : s.1 ≡ at.0 = ap (λ (q : AttrKey). q.1) at.2 in (
              inl name,
              subst (λ (z : IdBytes). In s.1 (features_of meta p (get m.kind z))) (sym name)
                  (subst (λ g. In g (features_of meta p (get m.kind y))) (sym feature) at.1),
            )
        | inr r ↦ let rest = in_slots s ys r in (inr rest.0, rest.1)
      ]

  distinct_at : (y : IdBytes) (fs : List ℕ) → Distinct fs → Distinct (map {B = AttrKey} (λ f. (y, f)) fs)
  distinct_at y [] d = tt
  distinct_at y (f ∷ fs) d = (
    λ h. let at = in_map {B = AttrKey} (λ f. (y, f)) (y, f) fs h in d.0 (subst (λ g. In g fs) (sym (ap (λ (q : AttrKey). q.1) at.2)) at.1),
    distinct_at y fs d.1,
  )

  pub slots_distinct : (xs : List IdBytes) → Distinct xs → Distinct (slots_of meta m p xs)
  slots_distinct [] d = tt
  slots_distinct (y ∷ ys) d =
      distinct_join (map {B = AttrKey} (λ f. (y, f)) (features_of meta p (get m.kind y))) (slots_of meta m p ys)
      (distinct_at y (features_of meta p (get m.kind y)) (features_distinct meta p (get m.kind y))) (slots_distinct ys d.1) (λ s l r.
      let at = in_map {B = AttrKey} (λ f. (y, f)) s (features_of meta p (get m.kind y)) l in
      d.0 (subst (λ (z : IdBytes). In z ys) (ap (λ (q : AttrKey). q.0) at.2) (in_slots s ys r).0))

or_true : (b : Bool) → b || true ≡ true
or_true true = refl
or_true false = refl

-- a feature among them takes its rows away, and their mirrors
pub touched_by : (meta : Meta) (slots : List AttrKey) (s : AttrKey) (k : RowKey) → In s slots
    → is_row_or_mirror (opposite_of meta s.1) s.0 s.1 k ≡ true → is_touched meta slots k ≡ true
touched_by meta [] s k h near = absurd h
touched_by meta (t ∷ ts) s k (inl e) near =
    ap (λ b. b || is_touched meta ts k) (ap (λ (q : AttrKey). is_row_or_mirror (opposite_of meta q.1) q.0 q.1 k) (sym e) ∙ near)
touched_by meta (t ∷ ts) s k (inr h) near = ap (λ b. is_row_or_mirror (opposite_of meta t.1) t.0 t.1 k || b) (touched_by meta ts s k h near) ∙ or_true _

-- and no others
pub touched_near : (meta : Meta) (slots : List AttrKey) (k : RowKey) → is_touched meta slots k ≡ true
    → (s : AttrKey) × In s slots × (is_row_or_mirror (opposite_of meta s.1) s.0 s.1 k ≡ true)
touched_near meta [] k h = cc
touched_near meta (t ∷ ts) k h =
    elim (is_row_or_mirror (opposite_of meta t.1) t.0 t.1 k) as (λ b. is_row_or_mirror (opposite_of meta t.1) t.0 t.1 k ≡ b
    → b || is_touched meta ts k ≡ true → (s : AttrKey) × In s (t ∷ ts) × (is_row_or_mirror (opposite_of meta s.1) s.0 s.1 k ≡ true)) [
      | true ↦ λ is _. (t, inl refl, is)
      | false ↦ λ _ g. let rest = touched_near meta ts k g in (rest.0, inr rest.1, rest.2)
    ] refl h

module _ (meta : Meta) (sound : Sound meta) (m : State) (good : Good meta m) (xs : List IdBytes) where
  abbrev slots : List AttrKey
  slots = slots_of meta m is_plain xs

  -- the feature of a row out of one of the elements
  row_slot : (a : IdBytes) (f : ℕ) (b : IdBytes) (r : ℕ) → In a xs → get m.row (a, f, b) ≡ Some r → In {A = AttrKey} (a, f) slots
  row_slot a f b r is here =
      let plain = source_plain meta (get m.kind a) f (get m.kind b) (subst (λ o. RowOk meta (get m.kind a) f (get m.kind b) o) here (good.rows.typed a f b)) in
      slot_in meta m is_plain a f xs is (feature_listed meta is_plain (get m.kind a) f refl plain.0 plain.1)

  some_rank : (o : Option ℕ) → is_some o ≡ true → (r : ℕ) × (o ≡ Some r)
  some_rank None h = cc
  some_rank (Some r) h = (r, refl)

  pub no_opposites : NoOpposites meta m.row slots xs
  no_opposites s f x r one here away =
      elim (opposite_of meta f) as (λ o. opposite_of meta f ≡ o → o ≡ None) [
        | None ↦ λ _. refl
        | Some g ↦ λ is.
            let back = some_rank (get m.row (x, g, s)) (sym (good.rows.mirrored s f x g is) ∙ ap is_some here) in
            let slot = row_slot x g s back.0 (among_in x xs one) back.1 in
            let near : is_row_or_mirror (opposite_of meta g) x g (s, f, x) ≡ true =
            ap (λ o. is_row_or_mirror o x g (s, f, x)) (sound.both f g is)
            ∙ ap (λ b. (text_eq x s && nat_eq g f) || b) (and_both _ _ (nat_equality.own f) (text_equality.own x)) ∙ or_true _ in
            absurd (true_false (is_touched meta slots (s, f, x)) (touched_by meta slots (x, g) (s, f, x) slot near) away)
      ] refl

  gathered_among : (ys done : List IdBytes) (y : IdBytes) → is_among (gathered ys done) y ≡ is_among ys y || is_among done y
  gathered_among [] done y = refl
  gathered_among (z ∷ zs) done y = gathered_among zs (z ∷ done) y ∙ swap (is_among zs y) (text_eq y z) (is_among done y)
    where
      swap : (a b c : Bool) → a || (b || c) ≡ (b || a) || c
      swap true true c = refl
      swap true false c = refl
      swap false true c = refl
      swap false false c = refl

  or_false : (b : Bool) → b || false ≡ b
  or_false true = refl
  or_false false = refl

  -- a row that is near one of the features has one of the elements at an end
  near_end : (s : AttrKey) (o : Option ℕ) (k : RowKey) → In s slots → is_row_or_mirror o s.0 s.1 k ≡ true → is_among xs k.0 || is_among xs k.2 ≡ true
  near_end s o k is near =
      let one = (in_slots meta m is_plain s xs is).0 in
      elim (text_eq s.0 k.0) as (λ b. text_eq s.0 k.0 ≡ b → (b && nat_eq s.1 k.1) || is_mirror o s.0 k ≡ true → is_among xs k.0 || is_among xs k.2 ≡ true) [
        | true ↦ λ e _. ap (λ b. b || is_among xs k.2) (in_among k.0 xs (subst (λ (z : IdBytes). In z xs) (text_equality.exact s.0 k.0 e) one))
        | false ↦ λ _ g. by_mirror o g one
      ] refl near
    where
      by_mirror : (o : Option ℕ) → is_mirror o s.0 k ≡ true → In s.0 xs → is_among xs k.0 || is_among xs k.2 ≡ true
      by_mirror None g one = cc
      by_mirror (Some f) g one =
          ap (λ b. is_among xs k.0 || b)
          (in_among k.2 xs (subst (λ (z : IdBytes). In z xs) (text_equality.exact s.0 k.2 (and_second (nat_eq f k.1) _ g)) one)) ∙ or_true _

  -- the rows that stay are those with both ends outside
  pub rows_left : without (is_gone meta slots (gathered xs [])) m.row ≡ without (λ (k : RowKey). is_among xs k.0 || is_among xs k.2) m.row
  rows_left = same row_order _ _ (λ k.
      get-without row_order (is_gone meta slots (gathered xs [])) m.row k
      ∙ here k (get m.row k) refl
      ∙ sym (get-without row_order (λ (k : RowKey). is_among xs k.0 || is_among xs k.2) m.row k))
    where
      out : (k : RowKey) (r : ℕ) → get m.row k ≡ Some r → is_among xs k.0 ≡ true → is_touched meta slots k ≡ true
      out k r is one = touched_by meta slots (k.0, k.1) k (row_slot k.0 k.1 k.2 r (among_in k.0 xs one) is)
          (ap (λ b. b || is_mirror (opposite_of meta k.1) k.0 k) (and_both _ _ (text_equality.own k.0) (nat_equality.own k.1)))

      test : (k : RowKey) (r : ℕ) → get m.row k ≡ Some r → is_gone meta slots (gathered xs []) k ≡ is_among xs k.0 || is_among xs k.2
      test k r is =
          ap (λ b. is_touched meta slots k || b) (gathered_among xs [] k.2 ∙ or_false (is_among xs k.2))
          ∙ elim (is_among xs k.0) as (λ b. is_among xs k.0 ≡ b → is_touched meta slots k || is_among xs k.2 ≡ b || is_among xs k.2) [
            | true ↦ λ one. ap (λ b. b || is_among xs k.2) (out k r is one)
            | false ↦ λ none. second none (is_among xs k.2) refl
          ] refl
        where
          second : is_among xs k.0 ≡ false → (c : Bool) → is_among xs k.2 ≡ c → is_touched meta slots k || c ≡ c
          second none true is = or_true _
          second none false far =
              ap (λ b. b || false) (not_so (is_touched meta slots k) (λ touched.
              let near = touched_near meta slots k touched in
              true_false (is_among xs k.0 || is_among xs k.2) (near_end near.0 (opposite_of meta near.0.1) k near.1 near.2)
              (ap (λ b. b || is_among xs k.2) none ∙ far)))

      here : (k : RowKey) (o : Option ℕ) → get m.row k ≡ o
          → cond (is_gone meta slots (gathered xs []) k) None (get m.row k) ≡ cond (is_among xs k.0 || is_among xs k.2) None (get m.row k)
      here k None is = ap (λ o. cond (is_gone meta slots (gathered xs []) k) None o) is
          ∙ nothing (is_gone meta slots (gathered xs []) k) (is_among xs k.0 || is_among xs k.2)
          ∙ sym (ap (λ o. cond (is_among xs k.0 || is_among xs k.2) None o) is)
        where
          nothing : (b c : Bool) → ◌≡◌ {A = Option ℕ} (cond b None None) (cond c None None)
          nothing true true = refl
          nothing true false = refl
          nothing false true = refl
          nothing false false = refl
      here k (Some r) is = ap (λ b. cond b None (get m.row k)) (test k r is)
