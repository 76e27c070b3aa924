-- A metamodel with other numbers says by them what it said before.
use Rattle.std.proofs.Common.{◌≡◌, ℕ, zero, suc, ◌<◌, Bool, true, false, List, [], ◌∷◌, refl, sym, ap, subst, ◌∙◌, arith, length, nat_eq}
use Rattle.std.specs.Prelude.{Option, None, Some, slice_get}
use Rattle.std.specs.List.{cons_option, filter_map, list_any}
use Rattle.std.specs.Option.{option_and_then, option_map, option_map_or}
use Rattle.std.proofs.lemmas.Option.{slice_get-map, slice_get_within}
use Rattle.ecore_meta.specs.Meta.{Meta, is_a, name_at}
use Rattle.ecore_meta.specs.Ends.{end_in, is_container, is_containment, owner_of, target_in}
use Rattle.ecore_meta.specs.Ranges.{scalar_in}
use Rattle.ecore_meta.specs.Typing.{kind_of, opposite_in}
use Rattle.ecore_meta.specs.declared.meta.Class.{Class}
use Rattle.ecore_meta.specs.declared.meta.Feature.{Feature}
use Rattle.ecore_meta.specs.declared.meta.Kind.{Kind}
use Rattle.ecore_meta.specs.declared.meta.Kind.TheVariants.{Attr, AttrMany, Bounded, Free, Contains, Container, Skip}
use Rattle.ecore_meta.proofs.NumberLaws.{nat_itself, nat_same}
use Rattle.metamodel_growth.specs.Order.{IsOrder, place_in, places}
use Rattle.metamodel_growth.specs.Renumbered.{class_moved, feature_moved, kind_moved, renumbered, scalar_moved}
use Rattle.metamodel_growth.specs.declared.order.Orders.{Orders}
use Rattle.metamodel_growth.proofs.OrderLaws.{in_places, some_is}

pub never : false ≡ true → ⊥
never e = cc

pub none_some : {X : Type 0} (x : X) → None ≡ Some x → ⊥
none_some x h = cc

pub same_some : {X : Type 0} (x y : X) → Some x ≡ Some y → x ≡ y
same_some x y h = cc

pub there_is : {X : Type 0} (xs : List X) (k : ℕ) → k < length xs → (x : X) × (slice_get xs k ≡ Some x)
there_is [] k h = absurd (omega arith)
there_is (x ∷ xs) zero h = (x, refl)
there_is (x ∷ xs) (suc k) h = there_is xs k (omega arith)

-- an option, by its cases, with what it is
pub by_option : {X P : Type 0} (o : Option X) → (o ≡ None → P) → ((x : X) → o ≡ Some x → P) → P
by_option None f g = f refl
by_option (Some x) f g = g x refl

pub got_more : {X : Type 0} (h : ℕ → Option X) (k : ℕ) (ks : List ℕ) (x : X) → h k ≡ Some x → filter_map h (k ∷ ks) ≡ x ∷ filter_map h ks
got_more h k ks x is = ap (λ o. cons_option o (filter_map h ks)) is

-- what is found for each number stands where the number stands
pub got : {X : Type 0} (h : ℕ → Option X) (ks : List ℕ) → ((i k : ℕ) → slice_get ks i ≡ Some k → (x : X) × (h k ≡ Some x)) → (i : ℕ)
    → slice_get (filter_map h ks) i ≡ option_and_then h (slice_get ks i)
got h [] all i = refl
got h (k ∷ ks) all zero = let x = all 0 k refl in ap (λ xs. slice_get xs 0) (got_more h k ks x.0 x.1) ∙ sym x.1
got h (k ∷ ks) all (suc i) = let x = all 0 k refl in ap (λ xs. slice_get xs (suc i)) (got_more h k ks x.0 x.1) ∙ got h ks (λ j n is. all (suc j) n is) i

pub got_long : {X : Type 0} (h : ℕ → Option X) (ks : List ℕ) → ((i k : ℕ) → slice_get ks i ≡ Some k → (x : X) × (h k ≡ Some x))
    → length (filter_map h ks) ≡ length ks
got_long h [] all = refl
got_long h (k ∷ ks) all = let x = all 0 k refl in ap length (got_more h k ks x.0 x.1) ∙ ap suc (got_long h ks (λ j n is. all (suc j) n is))

-- what moving a kind does to its parts
pub opposite_moved : (to : Orders) (k : Kind) → opposite_in (kind_moved to k) ≡ option_map (place_in to.features) (opposite_in k)
opposite_moved to (Attr scalar default) = refl
opposite_moved to (AttrMany scalar unique) = refl
opposite_moved to (Bounded target opposite) = refl
opposite_moved to (Free target opposite) = refl
opposite_moved to (Contains target opposite) = refl
opposite_moved to (Container target opposite) = refl
opposite_moved to Skip = refl

pub end_moved : (to : Orders) (k : Kind) → end_in (kind_moved to k) ≡ option_map (place_in to.features) (end_in k)
end_moved to (Attr scalar default) = refl
end_moved to (AttrMany scalar unique) = refl
end_moved to (Bounded target opposite) = refl
end_moved to (Free target opposite) = refl
end_moved to (Contains target opposite) = refl
end_moved to (Container target opposite) = refl
end_moved to Skip = refl

pub target_moved : (to : Orders) (k : Kind) → target_in (kind_moved to k) ≡ option_map (place_in to.classes) (target_in k)
target_moved to (Attr scalar default) = refl
target_moved to (AttrMany scalar unique) = refl
target_moved to (Bounded target opposite) = refl
target_moved to (Free target opposite) = refl
target_moved to (Contains target opposite) = refl
target_moved to (Container target opposite) = refl
target_moved to Skip = refl

pub scalar_is_moved : (to : Orders) (k : Kind) → scalar_in (kind_moved to k) ≡ option_map (scalar_moved to) (scalar_in k)
scalar_is_moved to (Attr scalar default) = refl
scalar_is_moved to (AttrMany scalar unique) = refl
scalar_is_moved to (Bounded target opposite) = refl
scalar_is_moved to (Free target opposite) = refl
scalar_is_moved to (Contains target opposite) = refl
scalar_is_moved to (Container target opposite) = refl
scalar_is_moved to Skip = refl

pub containment_moved : (to : Orders) (k : Kind) → is_containment (kind_moved to k) ≡ is_containment k
containment_moved to (Contains target opposite) = refl
containment_moved to (Attr scalar default) = refl
containment_moved to (AttrMany scalar unique) = refl
containment_moved to (Bounded target opposite) = refl
containment_moved to (Free target opposite) = refl
containment_moved to (Container target opposite) = refl
containment_moved to Skip = refl

pub container_moved : (to : Orders) (k : Kind) → is_container (kind_moved to k) ≡ is_container k
container_moved to (Contains target opposite) = refl
container_moved to (Attr scalar default) = refl
container_moved to (AttrMany scalar unique) = refl
container_moved to (Bounded target opposite) = refl
container_moved to (Free target opposite) = refl
container_moved to (Container target opposite) = refl
container_moved to Skip = refl

-- the feature of a number that has any kind but none is there
pub low_kind : {X : Type 0} (fs : List Feature) (f : ℕ) (part : Kind → Option X) (x : X) → part Skip ≡ None
    → part (option_map_or (λ feature. feature.kind) (slice_get fs f) Skip) ≡ Some x → f < length fs
low_kind [] f part x none is = absurd (none_some x (sym none ∙ is))
low_kind (y ∷ fs) zero part x none is = omega arith
low_kind (y ∷ fs) (suc f) part x none is = let more = low_kind fs f part x none is in omega (arith, more)

module _ (n : Meta) (to : Orders) where
  abbrev pub moved : Meta
  moved = renumbered n to

  module _ (cs : IsOrder (length n.classes) to.classes) where
    pub classes_there : (i k : ℕ) → slice_get to.classes i ≡ Some k → (x : Class) × (option_map (class_moved n to k) (slice_get n.classes k) ≡ Some x)
    classes_there i k is = let x = there_is n.classes k (cs.back i k is).1 in (class_moved n to k x.0, ap (option_map (class_moved n to k)) x.1)

    pub class_got : (i : ℕ) → slice_get moved.classes i ≡ option_and_then (λ c. option_map (class_moved n to c) (slice_get n.classes c))
        (slice_get to.classes i)
    class_got i = got (λ c. option_map (class_moved n to c) (slice_get n.classes c)) to.classes classes_there i

    pub classes_long : length moved.classes ≡ length to.classes
    classes_long = got_long (λ c. option_map (class_moved n to c) (slice_get n.classes c)) to.classes classes_there

    -- the class at a place, where there is one
    pub class_at : (i c : ℕ) → slice_get to.classes i ≡ Some c
        → (x : Class) × (slice_get n.classes c ≡ Some x) × (slice_get moved.classes i ≡ Some (class_moved n to c x))
    class_at i c is =
        let x = there_is n.classes c (cs.back i c is).1 in (
          x.0,
          x.1,
          class_got i ∙ ap (option_and_then (λ c. option_map (class_moved n to c) (slice_get n.classes c))) is
              ∙ ap (option_map (class_moved n to c)) x.1,
        )

    pub class_from : (i : ℕ) (y : Class) → slice_get moved.classes i ≡ Some y
        → (c : ℕ) × (x : Class) × (slice_get to.classes i ≡ Some c) × (slice_get n.classes c ≡ Some x) × (y ≡ class_moved n to c x)
    class_from i y is = by_option (slice_get to.classes i)
        (λ none. absurd (none_some y (sym (class_got i ∙ ap (option_and_then (λ c. option_map (class_moved n to c) (slice_get n.classes c))) none) ∙ is)))
        (λ c at. let x = class_at i c at in (c, x.0, at, x.1, same_some y (class_moved n to c x.0) (sym is ∙ x.2)))

    pub at_class : (i : ℕ) → i < length moved.classes → (c : ℕ) × (slice_get to.classes i ≡ Some c)
    at_class i lt = there_is to.classes i (omega (arith, lt, classes_long))

    pub placed_class : (c : ℕ) → c < length n.classes → place_in to.classes c < length moved.classes
    placed_class c lt = let h = slice_get_within to.classes (place_in to.classes c) c (cs.there c lt) in omega (arith, h, classes_long)

  -- is one class the other, by their places
  pub is_a_at : (i j c d : ℕ) → slice_get to.classes i ≡ Some c → slice_get to.classes j ≡ Some d → is_a moved i j ≡ is_a n c d
  is_a_at i j c d here there =
      ap (λ o. option_map_or (list_any (nat_eq j)) o false) (slice_get-map (λ c. places (is_a n c) to.classes) to.classes i
      ∙ ap (option_map (λ c. places (is_a n c) to.classes)) here)
      ∙ in_places (is_a n c) to.classes j
      ∙ ap (λ o. option_map_or (is_a n c) o false) there

  pub is_a_from : (i j : ℕ) → is_a moved i j ≡ true
      → (c : ℕ) × (d : ℕ) × (slice_get to.classes i ≡ Some c) × (slice_get to.classes j ≡ Some d) × (is_a n c d ≡ true)
  is_a_from i j h = by_option (slice_get to.classes i)
      (λ none. absurd (never (sym
      (ap (λ o. option_map_or (list_any (nat_eq j)) o false) (slice_get-map (λ c. places (is_a n c) to.classes) to.classes i
      ∙ ap (option_map (λ c. places (is_a n c) to.classes)) none)) ∙ h)))
      (λ c here.
      let known : option_map_or (is_a n c) (slice_get to.classes j) false ≡ true =
      sym (ap (λ o. option_map_or (list_any (nat_eq j)) o false) (slice_get-map (λ c. places (is_a n c) to.classes) to.classes i
      ∙ ap (option_map (λ c. places (is_a n c) to.classes)) here)
      ∙ in_places (is_a n c) to.classes j) ∙ h in
      by_option (slice_get to.classes j)
      (λ none. absurd (never (sym (ap (λ o. option_map_or (is_a n c) o false) none) ∙ known)))
      (λ d there. (c, d, here, there, sym (ap (λ o. option_map_or (is_a n c) o false) there) ∙ known)))

  module _ (fs : IsOrder (length n.features) to.features) where
    pub features_there : (i k : ℕ) → slice_get to.features i ≡ Some k → (x : Feature) × (option_map (feature_moved to) (slice_get n.features k) ≡ Some x)
    features_there i k is = let x = there_is n.features k (fs.back i k is).1 in (feature_moved to x.0, ap (option_map (feature_moved to)) x.1)

    pub feature_got : (i : ℕ) → slice_get moved.features i ≡ option_and_then (λ f. option_map (feature_moved to) (slice_get n.features f))
        (slice_get to.features i)
    feature_got i = got (λ f. option_map (feature_moved to) (slice_get n.features f)) to.features features_there i

    pub features_long : length moved.features ≡ length to.features
    features_long = got_long (λ f. option_map (feature_moved to) (slice_get n.features f)) to.features features_there

    pub feature_at : (i f : ℕ) → slice_get to.features i ≡ Some f
        → (x : Feature) × (slice_get n.features f ≡ Some x) × (slice_get moved.features i ≡ Some (feature_moved to x))
    feature_at i f is =
        let x = there_is n.features f (fs.back i f is).1 in (
          x.0,
          x.1,
          feature_got i ∙ ap (option_and_then (λ f. option_map (feature_moved to) (slice_get n.features f))) is
              ∙ ap (option_map (feature_moved to)) x.1,
        )

    pub feature_none : (i : ℕ) → slice_get to.features i ≡ None → slice_get moved.features i ≡ None
    feature_none i is = feature_got i ∙ ap (option_and_then (λ f. option_map (feature_moved to) (slice_get n.features f))) is

    pub feature_from : (i : ℕ) (y : Feature) → slice_get moved.features i ≡ Some y
        → (f : ℕ) × (x : Feature) × (slice_get to.features i ≡ Some f) × (slice_get n.features f ≡ Some x) × (y ≡ feature_moved to x)
    feature_from i y is = by_option (slice_get to.features i)
        (λ none. absurd (none_some y (sym (feature_none i none) ∙ is)))
        (λ f at. let x = feature_at i f at in (f, x.0, at, x.1, same_some y (feature_moved to x.0) (sym is ∙ x.2)))

    pub kind_at : (i f : ℕ) → slice_get to.features i ≡ Some f → kind_of moved i ≡ kind_moved to (kind_of n f)
    kind_at i f is =
        let x = feature_at i f is in
        ap (λ o. option_map_or (λ (feature : Feature). feature.kind) o Skip) x.2
        ∙ sym (ap (λ o. kind_moved to (option_map_or (λ (feature : Feature). feature.kind) o Skip)) x.1)

    pub kind_none : (i : ℕ) → slice_get to.features i ≡ None → kind_of moved i ≡ Skip
    kind_none i is = ap (λ o. option_map_or (λ (feature : Feature). feature.kind) o Skip) (feature_none i is)

    pub name_of : (i f : ℕ) → slice_get to.features i ≡ Some f → name_at moved.features i ≡ name_at n.features f
    name_of i f is =
        let x = feature_at i f is in
        ap (λ o. option_map_or (λ (feature : Feature). feature.name) o []) x.2 ∙ sym (ap (λ o. option_map_or (λ (feature : Feature). feature.name) o []) x.1)

    pub owner_at : (i f : ℕ) → slice_get to.features i ≡ Some f → owner_of moved i ≡ option_map (place_in to.classes) (owner_of n f)
    owner_at i f is =
        let x = feature_at i f is in
        ap (option_map (λ (feature : Feature). feature.owner)) x.2
        ∙ sym (ap (λ o. option_map (place_in to.classes) (option_map (λ (feature : Feature). feature.owner) o)) x.1)

    -- the other end of a reference, of the sort that `part` tells of
    module _ (part : Kind → Option ℕ) (none : part Skip ≡ None) (moves : (k : Kind)
        → part (kind_moved to k) ≡ option_map (place_in to.features) (part k)) (low : (f g : ℕ) → part (kind_of n f) ≡ Some g
        → g < length n.features) where
      pub end_from : (i j : ℕ) → part (kind_of moved i) ≡ Some j
          → (f : ℕ) × (g : ℕ) × (slice_get to.features i ≡ Some f) × (slice_get to.features j ≡ Some g) × (part (kind_of n f) ≡ Some g)
      end_from i j h = by_option (slice_get to.features i)
          (λ lacks. absurd (none_some j (sym (ap part (kind_none i lacks) ∙ none) ∙ h)))
          (λ f here.
          let known : option_map (place_in to.features) (part (kind_of n f)) ≡ Some j = sym (ap part (kind_at i f here) ∙ moves (kind_of n f)) ∙ h in
          by_option (part (kind_of n f))
          (λ lacks. absurd (none_some j (sym (ap (option_map (place_in to.features)) lacks) ∙ known)))
          (λ g is.
          let at : place_in to.features g ≡ j = some_is (place_in to.features g) j (sym (ap (option_map (place_in to.features)) is) ∙ known) in
          (f, g, here, sym (ap (slice_get to.features) at) ∙ fs.there g (low f g is), is)))

      pub end_at : (i f g : ℕ) → slice_get to.features i ≡ Some f → part (kind_of n f) ≡ Some g → part (kind_of moved i) ≡ Some (place_in to.features g)
      end_at i f g here is = ap part (kind_at i f here) ∙ moves (kind_of n f) ∙ ap (option_map (place_in to.features)) is

      module _ (n_both : (f g : ℕ) → part (kind_of n f) ≡ Some g → part (kind_of n g) ≡ Some f) (n_other : (f g : ℕ)
          → part (kind_of n f) ≡ Some g → nat_eq f g ≡ false) where
        pub ends_both : (i j : ℕ) → part (kind_of moved i) ≡ Some j → part (kind_of moved j) ≡ Some i
        ends_both i j h =
            let r = end_from i j h in
            end_at j r.1 r.0 r.3 (n_both r.0 r.1 r.4) ∙ ap Some (fs.back i r.0 r.2).0

        pub ends_other : (i j : ℕ) → part (kind_of moved i) ≡ Some j → nat_eq i j ≡ false
        ends_other i j h = by_test (nat_eq i j) refl
          where
            by_test : (b : Bool) → nat_eq i j ≡ b → nat_eq i j ≡ false
            by_test true e =
                let r = end_from i j h in
                let same : i ≡ j = nat_same i j e in
                let one : r.0 ≡ r.1 = some_is r.0 r.1 (sym r.2 ∙ ap (slice_get to.features) same ∙ r.3) in
                absurd (never (sym (n_other r.0 r.1 r.4) ∙ subst (λ z. nat_eq r.0 z ≡ true) one (nat_itself r.0)))
            by_test false e = e
