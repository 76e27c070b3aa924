-- Labels are equal exactly at linked positions, and each is the least of its component.
use Rattle.std.proofs.Common.{◌≡◌, ℕ, zero, suc, ◌≤◌, Bool, true, false, cond, List, [], ◌∷◌, refl, sym, ap, subst, ◌∙◌, ◌&&◌, map, nat_eq}
use Rattle.std.specs.Prelude.{Option, None, Some, slice_get}
use Rattle.std.specs.Option.{option_map}
use Rattle.std.proofs.lemmas.Option.{slice_get-map}
use Rattle.finite_maps.proofs.EqualLaws.{and_first, and_second, nat_equality}
use Rattle.model_laws.proofs.Exchange.{or_cases}
use Rattle.ecore_meta.specs.Meta.{Meta}
use Rattle.model_state.specs.declared.operation.Operation.{Operation}
use Rattle.footprint.specs.Interference.{interferes}
use Rattle.footprint.proofs.Pairs.{interference_is_symmetric}
use Rattle.footprint.specs.Buckets.{hits, labels}
use Rattle.merge_laws.specs.Classes.{Linked, here, next}
use Rattle.merge_laws.specs.BucketLaws.{LabelsAreLeast}
use Rattle.merge_laws.proofs.Labels.{some_same, moved, labelled, labels_close}

-- ---- links
pub linked_join : (meta : Meta) (os : List Operation) (i j k : ℕ) → Linked meta os i j → Linked meta os j k → Linked meta os i k
linked_join meta os i j k h here = h
linked_join meta os i j k h (next {j = m} g a b is) = next (linked_join meta os i j m h g) a b is

pub linked_turn : (meta : Meta) (os : List Operation) (i j : ℕ) → Linked meta os i j → Linked meta os j i
linked_turn meta os i j here = here
linked_turn meta os i j (next {j = m} {a = x} {b = y} g a b is) =
    linked_join meta os j m i (next here b a (interference_is_symmetric meta y x ∙ is)) (linked_turn meta os i m g)

linked_later : (meta : Meta) (o : Operation) (os : List Operation) (i j : ℕ) → Linked meta os i j → Linked meta (o ∷ os) (suc i) (suc j)
linked_later meta o os i j here = here
linked_later meta o os i j (next {j = m} g a b is) = next (linked_later meta o os i m g) a b is

pub linked_place : (meta : Meta) (os : List Operation) (i j : ℕ) (a : Operation) → slice_get os i ≡ Some a → Linked meta os i j
    → (b : Operation) × (slice_get os j ≡ Some b)
linked_place meta os i j a h here = (a, h)
linked_place meta os i j a h (next {b = y} g x b is) = (y, b)

-- linked positions have one label
pub linked_label : (meta : Meta) (os : List Operation) (i j : ℕ) → Linked meta os i j → slice_get (labels meta os) i ≡ slice_get (labels meta os) j
linked_label meta os i j here = refl
linked_label meta os i j (next {j = m} {a = x} {b = y} g a b is) = linked_label meta os i m g ∙ labels_close meta os m j x y a b is

-- ---- from labels to links
hits_back : (meta : Meta) (o : Operation) (os : List Operation) (ls : List ℕ) (l : ℕ) → hits meta o os ls l ≡ true
    → (k : ℕ) × (p : Operation) × (slice_get os k ≡ Some p) × (slice_get ls k ≡ Some l) × (interferes meta o p ≡ true)
hits_back meta o [] ls l h = cc
hits_back meta o (q ∷ os) [] l h = cc
hits_back meta o (q ∷ os) (m ∷ ls) l h =
    or_cases (nat_eq m l && interferes meta o q) (hits meta o os ls l) h
    (λ at. (0, q, refl, ap Some (nat_equality.exact m l (and_first (nat_eq m l) (interferes meta o q) at)), and_second (nat_eq m l) (interferes meta o q) at))
    (λ later. let r = hits_back meta o os ls l later in (suc r.0, r.1, r.2, r.3, r.4))

some_map : {A B : Type 0} (f : A → B) (o : Option A) (y : B) → option_map f o ≡ Some y → (x : A) × (o ≡ Some x) × (f x ≡ y)
some_map f None y h = cc
some_map f (Some x) y h = (x, refl, some_same (f x) y h)

no_suc : (l : ℕ) → suc l ≡ 0 → ⊥
no_suc l h = cc

suc_same : (a b : ℕ) → suc a ≡ suc b → a ≡ b
suc_same a b h = cc

moved_zero : (b : Bool) (l : ℕ) → cond b 0 (suc l) ≡ 0 → b ≡ true
moved_zero true l h = refl
moved_zero false l h = absurd (no_suc l h)

moved_suc : (b : Bool) (l x : ℕ) → cond b 0 (suc l) ≡ suc x → (b ≡ false) × (l ≡ x)
moved_suc true l x h = absurd (no_suc x (sym h))
moved_suc false l x h = (refl, suc_same l x h)

module _ (meta : Meta) (o : Operation) (os : List Operation) where
  -- the label before o stood there
  was : (k l : ℕ) → slice_get (map (moved meta o os) (labels meta os)) k ≡ Some l → (m : ℕ) × (slice_get (labels meta os) k ≡ Some m) × (moved meta o os m ≡ l)
  was k l h = some_map (moved meta o os) (slice_get (labels meta os) k) l (sym (slice_get-map (moved meta o os) (labels meta os) k) ∙ h)

  -- what is linked among the later ones, by their labels
  Later : Type 0
  Later = (i j l : ℕ) → slice_get (labels meta os) i ≡ Some l → slice_get (labels meta os) j ≡ Some l → Linked meta os i j

  taken : Later → (j : ℕ) → slice_get (map (moved meta o os) (labels meta os)) j ≡ Some 0 → Linked meta (o ∷ os) 0 (suc j)
  unfolding Later
  taken later j h =
      let m = was j 0 h in
      let hit = hits_back meta o os (labels meta os) m.0 (moved_zero (hits meta o os (labels meta os) m.0) m.0 m.2) in
      linked_join meta (o ∷ os) 0 (suc hit.0) (suc j) (next here refl hit.2 hit.4) (linked_later meta o os hit.0 j (later hit.0 j m.0 hit.3 m.1))

  still : (l : ℕ) (k : ℕ) → slice_get (map (moved meta o os) (labels meta os)) k ≡ Some (suc l) → slice_get (labels meta os) k ≡ Some l
  still l k h = let m = was k (suc l) h in m.1 ∙ ap Some (moved_suc (hits meta o os (labels meta os) m.0) m.0 l m.2).1

  unhit : (l : ℕ) (k : ℕ) → slice_get (map (moved meta o os) (labels meta os)) k ≡ Some (suc l) → moved meta o os l ≡ suc l
  unhit l k h =
      let m = was k (suc l) h in
      let same = (moved_suc (hits meta o os (labels meta os) m.0) m.0 l m.2).1 in
      sym (ap (moved meta o os) same) ∙ m.2

pub labels_linked : (meta : Meta) (os : List Operation) (i j l : ℕ) → slice_get (labels meta os) i ≡ Some l → slice_get (labels meta os) j ≡ Some l
    → Linked meta os i j
unfolding labels Later
labels_linked meta [] i j l h g = cc
labels_linked meta (o ∷ os) zero zero l h g = here
labels_linked meta (o ∷ os) zero (suc j) l h g = taken meta o os (labels_linked meta os) j (g ∙ sym h)
labels_linked meta (o ∷ os) (suc i) zero l h g = linked_turn meta (o ∷ os) 0 (suc i) (taken meta o os (labels_linked meta os) i (h ∙ sym g))
labels_linked meta (o ∷ os) (suc i) (suc j) zero h g =
    linked_join meta (o ∷ os) (suc i) 0 (suc j)
    (linked_turn meta (o ∷ os) 0 (suc i) (taken meta o os (labels_linked meta os) i h))
    (taken meta o os (labels_linked meta os) j g)
labels_linked meta (o ∷ os) (suc i) (suc j) (suc l) h g =
    linked_later meta o os i j (labels_linked meta os i j l (still meta o os l i h) (still meta o os l j g))

-- a label is the position of an operation with that label
pub own_label : (meta : Meta) (os : List Operation) (i l : ℕ) → slice_get (labels meta os) i ≡ Some l → slice_get (labels meta os) l ≡ Some l
unfolding labels
own_label meta [] i l h = cc
own_label meta (o ∷ os) i zero h = refl
own_label meta (o ∷ os) zero (suc l) h = cc
own_label meta (o ∷ os) (suc i) (suc l) h =
    slice_get-map (moved meta o os) (labels meta os) l
    ∙ ap (option_map (moved meta o os)) (own_label meta os i l (still meta o os l i h))
    ∙ ap Some (unhit meta o os l i h)

pub labels_are_least : LabelsAreLeast
labels_are_least meta os i a h =
    let r = labelled meta os i a h in (
      r.0,
      r.1,
      labels_linked meta os i r.0 r.0 r.1 (own_label meta os i r.0 r.1),
      λ j on.
          let p = linked_place meta os i j a h on in
          let s = labelled meta os j p.0 p.1 in
          let same = some_same r.0 s.0 (sym r.1 ∙ (linked_label meta os i j on ∙ s.1)) in
          subst (λ x. x ≤ j) (sym same) s.2,
    )
