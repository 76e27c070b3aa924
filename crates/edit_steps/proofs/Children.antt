-- The children of an element are those that stand right inside it, each once.
use Rattle.std.proofs.Common.{◌≡◌, ℕ, Bool, true, false, List, [], ◌∷◌, ◌++◌, refl, sym, ap, subst, ◌∙◌, ◌&&◌, ◌||◌, length, inl, inr}
use Rattle.std.specs.Prelude.{Option, None, Some}
use Rattle.std.specs.List.{list_any, AllByRecursion}
use Rattle.std.specs.FinMap.{FinMap, get}
use Rattle.finite_maps.specs.Equal.{text_eq}
use Rattle.finite_maps.proofs.Cases.{true_false}
use Rattle.finite_maps.proofs.EqualLaws.{and_both, text_equality}
use Rattle.ecore_meta.specs.Meta.{Meta}
use Rattle.ecore_meta.specs.declared.meta.Feature.{Feature}
use Rattle.ecore_meta.specs.declared.meta.Kind.{Kind}
use Rattle.ecore_meta.specs.declared.meta.Kind.TheVariants.{Attr, AttrMany, Bounded, Free, Contains, Container, Skip}
use Rattle.model_state.specs.declared.entry.Entry.{Entry}
use Rattle.model_state.specs.declared.step.Place.{Place}
use Rattle.model_state.specs.declared.step.Place.TheVariants.{Inside}
use Rattle.model_state.specs.Keys.{IdBytes, id_cmp}
use Rattle.model_state.specs.Listing.{children, entry_cmp}
use Rattle.model_state.specs.State.{State, place_eq}
use Rattle.model_state.specs.Steps.{class_has}
use Rattle.model_state.specs.Typing.{kind_of, is_containment, contains_to}
use Rattle.model_state.specs.Good.{Good, PlaceOk}
use Rattle.model_state.proofs.Orders.{id_order}
use Rattle.model_state.proofs.StepTests.{place_equality}
use Rattle.edit_steps.proofs.Lists.{Apart, apart_from, any-in_order, any-map, picked_has}
use Rattle.edit_steps.proofs.Creates.{children_there, spot_of, one_child}
use Rattle.edit_steps.specs.Subtree.{children_by, features_of, is_among, numbers}
use Rattle.edit_steps.proofs.Members.{In, Distinct, in_left, in_right, in_either, kept_in, distinct_join, distinct_filter, numbers_distinct}
use Rattle.edit_steps.proofs.Members.{numbers_have, within_list, among_in}
use Rattle.edit_steps.proofs.Trees.{AllInside, HasChildren}
use Rattle.edit_steps.specs.Standing.{ids_of}

-- ---- features by number
pub features_distinct : (meta : Meta) (p : Kind → Bool) (c : Option ℕ) → Distinct (features_of meta p c)
features_distinct meta p c =
    distinct_filter (λ f. class_has meta c f && p (kind_of meta f)) (numbers (length meta.features)) (numbers_distinct (length meta.features))

-- a feature of the class whose kind passes is among them
pub feature_listed : (meta : Meta) (p : Kind → Bool) (c : Option ℕ) (f : ℕ) → p Skip ≡ false → class_has meta c f ≡ true → p (kind_of meta f) ≡ true
    → In f (features_of meta p c)
feature_listed meta p c f none has pass =
    kept_in (λ f. class_has meta c f && p (kind_of meta f)) f (numbers (length meta.features))
    (numbers_have f (length meta.features) (within_list (λ (x : Feature). x.kind) Skip p meta.features f none pass)) (and_both _ _ has pass)

-- ---- the elements of a place
module _ (m : State) (p : Place) where
  any_id : (y : IdBytes) (xs : List Entry) → list_any (λ (x : Entry). text_eq y x.id) xs ≡ is_among (ids_of xs) y
  any_id y [] = refl
  any_id y (x ∷ xs) = ap (λ b. text_eq y x.id || b) (any_id y xs)

  pub children_have : (y : IdBytes) → get m.place y ≡ Some p → In y (ids_of (children m.place m.prank p))
  children_have y is = among_in y _ (sym (any_id y (children m.place m.prank p))
      ∙ any-in_order entry_cmp (λ (x : Entry). text_eq y x.id) _
      ∙ any-map (λ (x : Entry). text_eq y x.id) (spot_of m.prank) _
      ∙ picked_has id_order (λ (e : IdBytes × Place). place_eq p e.1) m.place (λ (e : IdBytes × Place). text_eq y e.0) y p is (place_equality.own p)
      (text_equality.own y))

  in_there : (xs : List Entry) → AllByRecursion (λ (x : Entry). get m.place x.id ≡ Some p) xs → (y : IdBytes) → In y (ids_of xs) → get m.place y ≡ Some p
  in_there [] all y h = absurd h
  in_there (x ∷ xs) all y (inl e) = ap (get m.place) e ∙ all.0
  in_there (x ∷ xs) all y (inr h) = in_there xs all.1 y h

  pub child_there : (y : IdBytes) → In y (ids_of (children m.place m.prank p)) → get m.place y ≡ Some p
  child_there y h = in_there (children m.place m.prank p) (children_there m p) y h

  apart_ids : (xs : List Entry) → Apart xs → Distinct (ids_of xs)
  apart_ids [] h = tt
  apart_ids (x ∷ xs) h = (λ is. true_false (list_any (λ (y : Entry). text_eq x.id y.id) xs) (any_id x.id xs ∙ in_any x.id (ids_of xs) is) h.0, apart_ids xs h.1)
    where
      or_true : (b : Bool) → b || true ≡ true
      or_true true = refl
      or_true false = refl

      in_any : (y : IdBytes) (ys : List IdBytes) → In y ys → is_among ys y ≡ true
      in_any y [] h = absurd h
      in_any y (z ∷ zs) (inl e) = ap (λ b. b || is_among zs y) (ap (text_eq y) (sym e) ∙ text_equality.own y)
      in_any y (z ∷ zs) (inr h) = ap (λ b. text_eq y z || b) (in_any y zs h) ∙ or_true (text_eq y z)

  pub children_once : (meta : Meta) → Good meta m → Distinct (ids_of (children m.place m.prank p))
  children_once meta good = apart_ids (children m.place m.prank p) (apart_from (children m.place m.prank p) (one_child meta m good p))

-- ---- the children of an element
all_join : (place : FinMap id_cmp Place) (s : IdBytes) (xs ys : List IdBytes) → AllInside place s xs → AllInside place s ys → AllInside place s (xs ++ ys)
all_join place s [] ys h g = g
all_join place s (x ∷ xs) ys h g = (h.0, all_join place s xs ys h.1 g)

all_by : (m : State) (s : IdBytes) (f : ℕ) (cs : List IdBytes) → ((c : IdBytes) → In c cs → get m.place c ≡ Some (Inside s f)) → AllInside m.place s cs
all_by m s f [] h = tt
all_by m s f (c ∷ cs) h = ((f, h c (inl refl)), all_by m s f cs (λ d l. h d (inr l)))

pub by_inside : (m : State) (s : IdBytes) (fs : List ℕ) → AllInside m.place s (children_by m s fs)
by_inside m s [] = tt
by_inside m s (f ∷ fs) =
    all_join m.place s (ids_of (children m.place m.prank (Inside s f))) (children_by m s fs)
    (all_by m s f (ids_of (children m.place m.prank (Inside s f))) (child_there m (Inside s f))) (by_inside m s fs)

by_feature : (m : State) (s c : IdBytes) (fs : List ℕ) → In c (children_by m s fs) → (f : ℕ) × In f fs × (get m.place c ≡ Some (Inside s f))
by_feature m s c [] h = absurd h
by_feature m s c (f ∷ fs) h =
    elim (in_either c (ids_of (children m.place m.prank (Inside s f))) (children_by m s fs) h) [
      | inl l ↦ (f, inl refl, child_there m (Inside s f) c l)
      | inr r ↦ let rest = by_feature m s c fs r in (rest.0, inr rest.1, rest.2)
    ]

same_feature : (a b : IdBytes) (f g : ℕ) → Some (Inside a f) ≡ Some (Inside b g) → f ≡ g
same_feature a b f g h = cc

by_once : (meta : Meta) (m : State) → Good meta m → (s : IdBytes) (fs : List ℕ) → Distinct fs → Distinct (children_by m s fs)
by_once meta m good s [] d = tt
by_once meta m good s (f ∷ fs) d =
    distinct_join (ids_of (children m.place m.prank (Inside s f))) (children_by m s fs) (children_once m (Inside s f) meta good)
    (by_once meta m good s fs d.1) (λ c l r.
    let other = by_feature m s c fs r in
    d.0 (subst (λ g. In g fs) (same_feature s s other.0 f (sym other.2 ∙ child_there m (Inside s f) c l)) other.1))

by_all : (m : State) (s c : IdBytes) (f : ℕ) (fs : List ℕ) → In f fs → get m.place c ≡ Some (Inside s f) → In c (children_by m s fs)
by_all m s c f [] h is = absurd h
by_all m s c f (g ∷ fs) (inl e) is =
    in_left c (ids_of (children m.place m.prank (Inside s g))) (children_by m s fs) (children_have m (Inside s g) c (is ∙ ap (λ k. Some (Inside s k)) e))
by_all m s c f (g ∷ fs) (inr l) is = in_right c (ids_of (children m.place m.prank (Inside s g))) (children_by m s fs) (by_all m s c f fs l is)

contains_some : (meta : Meta) (k : Kind) (d : ℕ) → contains_to meta k d ≡ true → is_containment k ≡ true
contains_some meta (Contains t o) d h = refl
contains_some meta (Attr s v) d h = cc
contains_some meta (AttrMany s u) d h = cc
contains_some meta (Bounded t o) d h = cc
contains_some meta (Free t o) d h = cc
contains_some meta (Container t o) d h = cc
contains_some meta Skip d h = cc

-- a place that stands is a containment of its parent's class
pub stands_in : (meta : Meta) (kind : FinMap id_cmp ℕ) (c : Option ℕ) (a : IdBytes) (f : ℕ) (r : Option ℕ) → PlaceOk meta kind c (Some (Inside a f)) r
    → (class_has meta (get kind a) f ≡ true) × (is_containment (kind_of meta f) ≡ true)
stands_in meta kind None a f None ok = absurd ok
stands_in meta kind None a f (Some r) ok = absurd ok
stands_in meta kind (Some c) a f None ok = absurd ok
stands_in meta kind (Some c) a f (Some r) ok = (ok.1.0, contains_some meta (kind_of meta f) c ok.1.1)

pub has_children : (meta : Meta) (m : State) (good : Good meta m) → HasChildren meta m
has_children meta m good = record {
  inside = λ s. by_inside m s (features_of meta is_containment (get m.kind s));
  distinct = λ s. by_once meta m good s (features_of meta is_containment (get m.kind s)) (features_distinct meta is_containment (get m.kind s));
  all = λ s c f is.
      let ok = stands_in meta m.kind (get m.kind c) s f (get m.prank c)
      (subst (λ o. PlaceOk meta m.kind (get m.kind c) o (get m.prank c)) is (good.places.stands c)) in
      by_all m s c f (features_of meta is_containment (get m.kind s)) (feature_listed meta is_containment (get m.kind s) f refl ok.0 ok.1) is;
}
