-- A step that can be taken in a good state is of the metamodel.
use Rattle.std.proofs.Common.{◌≡◌, ℕ, zero, suc, ◌<◌, Bool, true, false, List, [], ◌∷◌, ◌++◌, length, not, refl, subst, nat_eq, arith}
use Rattle.std.specs.Prelude.{Option, None, Some, All, slice_get}
use Rattle.std.specs.FinMap.{FinMap, get}
use Rattle.std.specs.Option.{option_map_or}
use Rattle.std.proofs.lemmas.List.Elements.{All-nil, All-cons, All-head, All-tail}
use Rattle.finite_maps.specs.Equal.{option_eq}
use Rattle.finite_maps.proofs.EqualLaws.{and_second, option_equality}
use Rattle.ecore_meta.specs.Meta.{Meta}
use Rattle.ecore_meta.specs.declared.meta.Class.{Class}
use Rattle.ecore_meta.specs.declared.meta.Feature.{Feature}
use Rattle.ecore_meta.specs.declared.meta.Kind.{Kind}
use Rattle.ecore_meta.specs.declared.meta.Kind.TheVariants.{Attr, AttrMany, Skip}
use Rattle.ecore_meta.specs.declared.meta.Value.{Value}
use Rattle.model_state.specs.Keys.{IdBytes, id_cmp}
use Rattle.model_state.specs.Typing.{attr_fits, contains_to, has_feature, is_attr, is_concrete, is_many, is_plain, kind_of, many_fits, plain_to}
use Rattle.model_state.specs.Good.{Good, PlaceOk}
use Rattle.model_state.specs.Packages.{steps_all, steps_of}
use Rattle.model_state.specs.State.{State, place_eq}
use Rattle.model_state.specs.Steps.{Can, apply, class_has, may_link, may_move, may_stand, tests, value_fits}
use Rattle.model_state.specs.declared.operation.Operation.{Operation}
use Rattle.model_state.specs.declared.step.Place.{Place}
use Rattle.model_state.specs.declared.step.Place.TheVariants.{Root, Inside}
use Rattle.model_state.specs.declared.step.Step.{Step}
use Rattle.model_state.specs.declared.step.Step.TheVariants.{Put, Ins, Del, Shift, Link, Unlink, RerankRow, New, Gone, Move, RerankPlace}
use Rattle.model_state.proofs.StepTests.{number_equality, passed, place_equality}
use Rattle.model_laws.proofs.Runs.{fold_first, undoes}
use Rattle.shown_lines.specs.Laws.{TakenPackagesAreTyped, TakenStepsAreTyped}
use Rattle.shown_lines.specs.Typed.{AreTyped, IsClass, IsFeature, IsPlace, IsTyped, IsTypedPackage, IsValueIfAny, is_value}

entry_below : {X : Type 0} (xs : List X) (n : ℕ) (x : X) → slice_get xs n ≡ Some x → n < length xs
entry_below [] n x is = cc
entry_below (y ∷ ys) zero x is = omega arith
entry_below (y ∷ ys) (suc n) x is = let below = entry_below ys n x is in omega (arith, below)

-- a number whose kind passes a test that Skip does not is a feature's
known : (meta : Meta) (f : ℕ) (test : Kind → Bool) → test Skip ≡ false → test (kind_of meta f) ≡ true → IsFeature meta f
known meta f test none h = by_entry (slice_get meta.features f) refl h
  where
    by_entry : (o : Option Feature) → slice_get meta.features f ≡ o → test (option_map_or (λ feature. feature.kind) o Skip) ≡ true → IsFeature meta f
    by_entry None is h = cc
    by_entry (Some feature) is h = entry_below meta.features f feature is

concrete_class : (meta : Meta) (c : ℕ) → is_concrete meta c ≡ true → IsClass meta c
concrete_class meta c h = by_entry (slice_get meta.classes c) refl h
  where
    by_entry : (o : Option Class) → slice_get meta.classes c ≡ o → option_map_or (λ class. not class.is_abstract) o false ≡ true → IsClass meta c
    by_entry None is h = cc
    by_entry (Some class) is h = entry_below meta.classes c class is

attr_value : (meta : Meta) (k : Kind) (v : Value) → attr_fits meta k v ≡ true → is_value meta k v ≡ true
attr_value meta (Attr scalar default) v h = h
attr_value meta k v h = cc

many_value : (meta : Meta) (k : Kind) (v : Value) → many_fits meta k v ≡ true → is_value meta k v ≡ true
many_value meta (AttrMany scalar unique) v h = h
many_value meta k v h = cc

value_if_any : (meta : Meta) (f : ℕ) (v : Option Value) → value_fits meta f v ≡ true → IsValueIfAny meta f v
value_if_any meta f None h = tt
value_if_any meta f (Some v) h = attr_value meta (kind_of meta f) v h

linked : (meta : Meta) (c : Option ℕ) (f : ℕ) (d : Option ℕ) → may_link meta c f d ≡ true → IsFeature meta f
linked meta None f d h = cc
linked meta (Some c) f None h = cc
linked meta (Some c) f (Some d) h = known meta f (λ k. plain_to meta k d) refl (and_second (has_feature meta c f) _ h)

place_of : (meta : Meta) (m : State) (c : ℕ) (p : Place) → may_stand meta m c p ≡ true → IsPlace meta p
place_of meta m c Root h = tt
place_of meta m c (Inside a f) h = known meta f (λ k. contains_to meta k c) refl (and_second (class_has meta (get m.kind a) f) _ h)

place_moved : (meta : Meta) (m : State) (c : Option ℕ) (p : Place) → may_move meta m c p ≡ true → IsPlace meta p
place_moved meta m None p h = cc
place_moved meta m (Some c) p h = place_of meta m c p h

-- in a good state an element stands in a place of the metamodel, and has a class of it
place_stands : (meta : Meta) (kind : FinMap id_cmp ℕ) (c : Option ℕ) (p : Place) (r : Option ℕ) → PlaceOk meta kind c (Some p) r → IsPlace meta p
place_stands meta kind None p None h = absurd h
place_stands meta kind None p (Some r) h = absurd h
place_stands meta kind (Some c) p None h = absurd h
place_stands meta kind (Some c) Root (Some r) h = tt
place_stands meta kind (Some c) (Inside a f) (Some r) h = known meta f (λ k. contains_to meta k c) refl h.1.1

class_stands : (meta : Meta) (kind : FinMap id_cmp ℕ) (c : ℕ) (p : Option Place) (r : Option ℕ) → PlaceOk meta kind (Some c) p r → IsClass meta c
class_stands meta kind c None None h = absurd h
class_stands meta kind c None (Some r) h = absurd h
class_stands meta kind c (Some p) None h = absurd h
class_stands meta kind c (Some p) (Some r) h = concrete_class meta c h.0

module _ (meta : Meta) (m : State) (good : Good meta m) where
  its_place : (e : IdBytes) (p : Place) → option_eq place_eq (get m.place e) (Some p) ≡ true → IsPlace meta p
  its_place e p h =
      let is = (option_equality place_eq place_equality).exact (get m.place e) (Some p) h in
      place_stands meta m.kind (get m.kind e) p (get m.prank e) (subst (λ o. PlaceOk meta m.kind (get m.kind e) o (get m.prank e)) is (good.places.stands e))

  its_class : (e : IdBytes) (c : ℕ) → option_eq nat_eq (get m.kind e) (Some c) ≡ true → IsClass meta c
  its_class e c h =
      let is = number_equality.exact (get m.kind e) (Some c) h in
      class_stands meta m.kind c (get m.place e) (get m.prank e) (subst (λ o. PlaceOk meta m.kind o (get m.place e) (get m.prank e)) is (good.places.stands e))

  pub taken_typed : (s : Step) → Can meta m s → IsTyped meta s
  unfolding its_place its_class
  taken_typed (Put e f old new) can =
      let p = passed (tests meta m (Put e f old new)) can in
      (known meta f is_attr refl p.1.1.0, value_if_any meta f old p.1.1.1.0, value_if_any meta f new p.1.1.1.1.0)
  taken_typed (Ins e f at v) can =
      let p = passed (tests meta m (Ins e f at v)) can in
      (known meta f is_many refl p.1.1.0, many_value meta (kind_of meta f) v p.1.1.1.0)
  taken_typed (Del e f at v) can =
      let p = passed (tests meta m (Del e f at v)) can in
      (known meta f is_many refl p.1.1.0, many_value meta (kind_of meta f) v p.1.1.1.0)
  taken_typed (Shift e f from to) can = known meta f is_many refl (passed (tests meta m (Shift e f from to)) can).1.1.0
  taken_typed (Link a f ra b rb) can = linked meta (get m.kind a) f (get m.kind b) (passed (tests meta m (Link a f ra b rb)) can).1.1.0
  taken_typed (Unlink a f ra b rb) can = linked meta (get m.kind a) f (get m.kind b) (passed (tests meta m (Unlink a f ra b rb)) can).1.1.0
  taken_typed (RerankRow a f b old new) can = known meta f is_plain refl (passed (tests meta m (RerankRow a f b old new)) can).1.1.0
  taken_typed (New e class place rank) can =
      let p = passed (tests meta m (New e class place rank)) can in
      (concrete_class meta class p.1.1.0, place_of meta m class place p.1.1.1.0)
  taken_typed (Gone e class place rank) can =
      let p = passed (tests meta m (Gone e class place rank)) can in
      (its_class e class p.1.0, its_place e place p.1.1.0)
  taken_typed (Move e from from_rank to to_rank above_from above_to) can =
      let p = passed (tests meta m (Move e from from_rank to to_rank above_from above_to)) can in
      (its_place e from p.1.0, place_moved meta m (get m.kind e) to p.1.1.1.1.1.0)
  taken_typed (RerankPlace e old new) can = tt

pub steps_typed : TakenStepsAreTyped
steps_typed meta sound m n good [] h = All-nil (IsTyped meta)
steps_typed meta sound m n good (s ∷ ss) h =
    let p = fold_first meta m n s ss h in
    All-cons (IsTyped meta) s ss (taken_typed meta m good s p.0) (steps_typed meta sound (apply meta m s) n (undoes meta sound m good s p.0).keeps ss p.1)

-- what is said of all of two lists, one after the other, is said of each
parted : {X : Type 0} (P : X → Type 0) (xs ys : List X) → All P (xs ++ ys) → All P xs × All P ys
parted P [] ys h = (All-nil P, h)
parted P (x ∷ xs) ys h =
    let more = parted P xs ys (All-tail P x (xs ++ ys) h) in
    (All-cons P x xs (All-head P x (xs ++ ys) h) more.0, more.1)

each_typed : (meta : Meta) (p : List Operation) → AreTyped meta (steps_all p) → IsTypedPackage meta p
each_typed meta [] h = All-nil (λ o. AreTyped meta (steps_of o))
each_typed meta (o ∷ os) h =
    let parts = parted (IsTyped meta) (steps_of o) (steps_all os) h in
    All-cons (λ o. AreTyped meta (steps_of o)) o os parts.0 (each_typed meta os parts.1)

pub packages_typed : TakenPackagesAreTyped
packages_typed meta sound m n good p h = each_typed meta p (steps_typed meta sound m n good (steps_all p) h)
