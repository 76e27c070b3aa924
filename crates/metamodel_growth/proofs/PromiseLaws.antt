-- A metamodel with other numbers keeps what holds of every metamodel.
use Rattle.std.proofs.Common.{◌≡◌, ℕ, zero, suc, ◌<◌, Bool, true, false, cond, List, [], ◌∷◌, ◌&&◌, refl, sym, ap, subst, ◌∙◌, arith, length, map}
use Rattle.std.proofs.Common.{nat_eq, nat_lt, codes}
use Rattle.std.specs.Prelude.{Option, None, Some, slice_get}
use Rattle.std.specs.List.{filter, list_any, range_with_len}
use Rattle.std.specs.List.Sorted.{IsStrictlySortedBy}
use Rattle.std.specs.Option.{option_and_then, option_map, option_map_or}
use Rattle.std.specs.Ordering.{nat_cmp}
use Rattle.std.specs.Str.{bytes_eq}
use Rattle.std.proofs.lemmas.List.{length-map}
use Rattle.std.proofs.lemmas.List.Elements.{filter_agree}
use Rattle.std.proofs.lemmas.Map.Keys.{any_passes_from_place}
use Rattle.std.proofs.lemmas.Option.{slice_get-map, slice_get_within}
use Rattle.ecore_meta.specs.Above.{StandsAbove, above_of}
use Rattle.ecore_meta.specs.Bounds.{IsAbove, IsBounded, agrees}
use Rattle.ecore_meta.specs.Ends.{EndsMeet, end_in, is_container, is_containment, target_in}
use Rattle.ecore_meta.specs.Holds.{Holds}
use Rattle.ecore_meta.specs.Meta.{Meta, features_of, has_feature, is_a, name_at}
use Rattle.ecore_meta.specs.Named.{IsNamed, has_slash, is_reserved}
use Rattle.ecore_meta.specs.Names.{Name, has_repeat}
use Rattle.ecore_meta.specs.Promised.{IsMetamodel, ListsDeclared, declared}
use Rattle.ecore_meta.specs.Ranges.{IsInRange, scalar_in}
use Rattle.ecore_meta.specs.Sound.{Sound}
use Rattle.ecore_meta.specs.Typing.{fits, kind_of, links, literal_count, literals_at, literals_of, opposite_in, opposite_of, plain_to}
use Rattle.ecore_meta.specs.declared.meta.Class.{Class}
use Rattle.ecore_meta.specs.declared.meta.Enum.{Enum}
use Rattle.ecore_meta.specs.declared.meta.EnumLiteral.{EnumLiteral}
use Rattle.ecore_meta.specs.declared.meta.Feature.{Feature}
use Rattle.ecore_meta.specs.declared.meta.Kind.{Kind}
use Rattle.ecore_meta.specs.declared.meta.Kind.TheVariants.{Attr, AttrMany, Bounded, Free, Contains, Container, Skip}
use Rattle.ecore_meta.specs.declared.meta.Scalar.{Scalar}
use Rattle.ecore_meta.specs.declared.meta.Scalar.TheVariants.{Text, Flag, Byte, Short, Int, Long, Literal}
use Rattle.ecore_meta.specs.declared.meta.Value.{Value}
use Rattle.ecore_meta.specs.declared.meta.Value.TheVariants.{Literal as LiteralValue}
use Rattle.ecore_meta.proofs.DeclaredLaws.{has_any, has_declared}
use Rattle.ecore_meta.proofs.NumberLaws.{nat_itself}
use Rattle.finite_maps.proofs.EqualLaws.{and_first, and_second}
use Rattle.metamodel_growth.specs.Order.{IsOrder, place_in, places}
use Rattle.metamodel_growth.specs.Renumbered.{class_moved, kind_moved, renumbered, scalar_moved}
use Rattle.metamodel_growth.specs.declared.order.Orders.{Orders}
use Rattle.metamodel_growth.proofs.NameLaws.{no_repeat, one_name}
use Rattle.metamodel_growth.proofs.OrderLaws.{in_places, place_back, placed, places_rise, rising_distinct, some_is}
use Rattle.metamodel_growth.proofs.RenumberLaws.{at_class, by_option, class_at, class_from, class_got, classes_long, container_moved}
use Rattle.metamodel_growth.proofs.RenumberLaws.{containment_moved, end_from, end_moved, ends_both, ends_other, feature_at, feature_from}
use Rattle.metamodel_growth.proofs.RenumberLaws.{feature_none, features_long, got, is_a_at, is_a_from, kind_at, kind_none, low_kind, name_of, never}
use Rattle.metamodel_growth.proofs.RenumberLaws.{none_some, opposite_moved, owner_at, placed_class, same_some, scalar_is_moved, target_moved}
use Rattle.metamodel_growth.proofs.RenumberLaws.{there_is}

filter_none : (p : ℕ → Bool) → ((k : ℕ) → p k ≡ false) → (ks : List ℕ) → filter p ks ≡ []
filter_none p h [] = refl
filter_none p h (k ∷ ks) = ap (λ b. cond b (k ∷ filter p ks) (filter p ks)) (h k) ∙ filter_none p h ks

not_a : (b : Bool) → (b ≡ true → ⊥) → b ≡ false
not_a true h = absurd (h refl)
not_a false h = refl

none_rises : IsStrictlySortedBy nat_cmp []
unfolding IsStrictlySortedBy
none_rises = tt

module _ (n : Meta) (is : IsMetamodel n) (to : Orders) (cs : IsOrder (length n.classes) to.classes)
    (fs : IsOrder (length n.features) to.features) (es : IsOrder (length n.enums) to.enums) where
  abbrev e : Meta
  e = renumbered n to

  low_link : (f g : ℕ) → opposite_of n f ≡ Some g → g < length n.features
  low_link f g at = low_kind n.features g opposite_in f refl (is.sound.both f g at)

  low_end : (f g : ℕ) → end_in (kind_of n f) ≡ Some g → g < length n.features
  low_end f g at = low_kind n.features g end_in f refl (is.ends.both f g at)

  -- a target has its new number
  target_at : (i f c : ℕ) → slice_get to.features i ≡ Some f → target_in (kind_of n f) ≡ Some c → target_in (kind_of e i) ≡ Some (place_in to.classes c)
  target_at i f c here at = ap target_in (kind_at n to fs i f here) ∙ target_moved to (kind_of n f) ∙ ap (option_map (place_in to.classes)) at

  stands_above : StandsAbove e
  stands_above = record {
    many = length-map to.classes (λ c. places (is_a n c) to.classes) ∙ sym (classes_long n to cs);
    own = λ i lt. let c = at_class n to cs i lt in is_a_at n to i i c.0 c.0 c.1 c.1 ∙ is.above.own c.0 (cs.back i c.0 c.1).1;
    through = λ i j k h g.
        let a = is_a_from n to i j h in
        let b = is_a_from n to j k g in
        let one : a.1 ≡ b.0 = some_is a.1 b.0 (sym a.3 ∙ b.2) in
        is_a_at n to i k a.0 b.1 a.2 b.3 ∙ is.above.through a.0 a.1 b.1 a.4 (subst (λ z. is_a n z b.1 ≡ true) (sym one) b.4);
    apart = λ i j h g.
        let a = is_a_from n to i j h in
        let b = is_a_from n to j i g in
        let one : a.1 ≡ b.0 = some_is a.1 b.0 (sym a.3 ∙ b.2) in
        let two : a.0 ≡ b.1 = some_is a.0 b.1 (sym a.2 ∙ b.3) in
        let back : is_a n a.1 a.0 ≡ true = subst (λ z. is_a n z a.0 ≡ true) (sym one) (subst (λ z. is_a n b.0 z ≡ true) (sym two) b.4) in
        let same : a.0 ≡ a.1 = is.above.apart a.0 a.1 a.4 back in
        sym (cs.back i a.0 a.2).0 ∙ ap (place_in to.classes) same ∙ (cs.back j a.1 a.3).0;
    classes = λ i j h. let a = is_a_from n to i j h in let lt = slice_get_within to.classes j a.1 a.3 in omega (arith, lt, classes_long n to cs);
    rising = λ i. rises i;
  }
    where
      rises : (i : ℕ) → IsStrictlySortedBy nat_cmp (above_of e i)
      rises i = subst (λ o. IsStrictlySortedBy nat_cmp (option_map_or (λ ds. ds) o []))
          (sym (slice_get-map (λ c. places (is_a n c) to.classes) to.classes i)) (by_place (slice_get to.classes i))
        where
          by_place : (o : Option ℕ) → IsStrictlySortedBy nat_cmp (option_map_or (λ ds. ds) (option_map (λ c. places (is_a n c) to.classes) o) [])
          by_place None = none_rises
          by_place (Some c) = places_rise (is_a n c) to.classes

  -- a class declares a feature, or one above it does, by the new numbers
  declared_at : (i j c f : ℕ) → slice_get to.classes i ≡ Some c → slice_get to.features j ≡ Some f → declared e i j ≡ declared n c f
  declared_at i j c f here there =
      let x = feature_at n to fs j f there in
      ap (λ o. option_map_or (λ (feature : Feature). is_a e i feature.owner) o false) x.2
      ∙ is_a_at n to i (place_in to.classes x.0.owner) c x.0.owner here (cs.there x.0.owner (is.in_range.owners f x.0 x.1))
      ∙ sym (ap (λ o. option_map_or (λ (feature : Feature). is_a n c feature.owner) o false) x.1)

  declared_none : (i j : ℕ) → slice_get to.features j ≡ None → declared e i j ≡ false
  declared_none i j lacks = ap (λ o. option_map_or (λ (feature : Feature). is_a e i feature.owner) o false) (feature_none n to fs j lacks)

  lists : ListsDeclared e
  lists i = by_option (slice_get to.classes i)
      (λ lacks.
      ap (λ o. option_map_or (λ (class : Class). class.features) o []) (class_got n to cs i
      ∙ ap (option_and_then (λ c. option_map (class_moved n to c) (slice_get n.classes c))) lacks)
      ∙ sym (filter_none (declared e i) (λ k. not_a (declared e i k) (λ h. none_declared k lacks h)) (range_with_len 0 (length e.features))))
      (λ c here.
      let x = class_at n to cs i c here in
      ap (λ o. option_map_or (λ (class : Class). class.features) o []) x.2
      ∙ filter_agree (λ k. option_map_or (declared n c) (slice_get to.features k) false) (declared e i) (λ k. each c here k)
      (range_with_len 0 (length to.features))
      ∙ ap (λ m. filter (declared e i) (range_with_len 0 m)) (sym (features_long n to fs)))
    where
      each : (c : ℕ) → slice_get to.classes i ≡ Some c → (k : ℕ) → option_map_or (declared n c) (slice_get to.features k) false ≡ declared e i k
      each c here k = by_option (slice_get to.features k)
          (λ lacks. ap (λ o. option_map_or (declared n c) o false) lacks ∙ sym (declared_none i k lacks))
          (λ f there. ap (λ o. option_map_or (declared n c) o false) there ∙ sym (declared_at i k c f here there))

      none_declared : (k : ℕ) → slice_get to.classes i ≡ None → declared e i k ≡ true → ⊥
      none_declared k lacks h = by_option (slice_get e.features k)
          (λ none. never (sym (ap (λ o. option_map_or (λ (feature : Feature). is_a e i feature.owner) o false) none) ∙ h))
          (λ y at.
          let a = is_a_from n to i y.owner (sym (ap (λ o. option_map_or (λ (feature : Feature). is_a e i feature.owner) o false) at) ∙ h) in
          none_some a.0 (sym lacks ∙ a.2))

  -- a class has a feature, by the new numbers
  has_at : (i j c f : ℕ) → slice_get to.classes i ≡ Some c → slice_get to.features j ≡ Some f → has_feature e i j ≡ has_feature n c f
  has_at i j c f here there = has_declared e lists i j ∙ declared_at i j c f here there ∙ sym (has_declared n is.lists c f)

  has_from : (i j : ℕ) → has_feature e i j ≡ true
      → (c : ℕ) × (f : ℕ) × (slice_get to.classes i ≡ Some c) × (slice_get to.features j ≡ Some f) × (has_feature n c f ≡ true)
  has_from i j h = by_option (slice_get to.features j)
      (λ lacks. absurd (never (sym (declared_none i j lacks) ∙ known)))
      (λ f there.
      let x = feature_at n to fs j f there in
      let a = is_a_from n to i (place_in to.classes x.0.owner)
      (sym (ap (λ o. option_map_or (λ (feature : Feature). is_a e i feature.owner) o false) x.2) ∙ known) in
      (a.0, f, a.2, there, sym (has_at i j a.0 f a.2 there) ∙ h))
    where
      known : declared e i j ≡ true
      known = sym (has_declared e lists i j) ∙ h

  plain_at : (k : Kind) → ((c : ℕ) → target_in k ≡ Some c → c < length n.classes) → (j d : ℕ) → slice_get to.classes j ≡ Some d
      → plain_to e (kind_moved to k) j ≡ plain_to n k d
  plain_at (Bounded target opposite) low j d there = is_a_at n to j (place_in to.classes target) d target there (cs.there target (low target refl))
  plain_at (Free target opposite) low j d there = is_a_at n to j (place_in to.classes target) d target there (cs.there target (low target refl))
  plain_at (Attr scalar default) low j d there = refl
  plain_at (AttrMany scalar unique) low j d there = refl
  plain_at (Contains target opposite) low j d there = refl
  plain_at (Container target opposite) low j d there = refl
  plain_at Skip low j d there = refl

  plain_from : (k : Kind) (j : ℕ) → plain_to e (kind_moved to k) j ≡ true → (d : ℕ) × (slice_get to.classes j ≡ Some d)
  plain_from (Bounded target opposite) j h = let a = is_a_from n to j (place_in to.classes target) h in (a.0, a.2)
  plain_from (Free target opposite) j h = let a = is_a_from n to j (place_in to.classes target) h in (a.0, a.2)
  plain_from (Attr scalar default) j h = absurd (never h)
  plain_from (AttrMany scalar unique) j h = absurd (never h)
  plain_from (Contains target opposite) j h = absurd (never h)
  plain_from (Container target opposite) j h = absurd (never h)
  plain_from Skip j h = absurd (never h)

  links_at : (i p j c f d : ℕ) → slice_get to.classes i ≡ Some c → slice_get to.features p ≡ Some f → slice_get to.classes j ≡ Some d
      → links e i p j ≡ links n c f d
  links_at i p j c f d here at there =
      ap (λ b. b && plain_to e (kind_of e p) j) (has_at i p c f here at)
      ∙ ap (λ b. has_feature n c f && b) (ap (λ k. plain_to e k j) (kind_at n to fs p f at) ∙ plain_at (kind_of n f) (λ t. is.in_range.targets f t) j d there)

  links_from : (i p j : ℕ) → links e i p j ≡ true
      → (c : ℕ) × (f : ℕ) × (d : ℕ) × (slice_get to.classes i ≡ Some c) × (slice_get to.features p ≡ Some f) ×
      (slice_get to.classes j ≡ Some d)
  links_from i p j h =
      let a = has_from i p (and_first _ _ h) in
      let b = plain_from (kind_of n a.1) j (subst (λ k. plain_to e k j ≡ true) (kind_at n to fs p a.1 a.3) (and_second (has_feature e i p) _ h)) in
      (a.0, a.1, b.0, a.2, a.3, b.1)

  sound : Sound e
  sound = record {
    other = ends_other n to fs opposite_in refl (opposite_moved to) low_link is.sound.both is.sound.other;
    both = ends_both n to fs opposite_in refl (opposite_moved to) low_link is.sound.both is.sound.other;
    mirrors = λ i p j q at h.
        let r = end_from n to fs opposite_in refl (opposite_moved to) low_link p q at in
        let l = links_from i p j h in
        let one : l.1 ≡ r.0 = some_is l.1 r.0 (sym l.4 ∙ r.2) in
        let was : links n l.0 r.0 l.2 ≡ true = sym (links_at i p j l.0 r.0 l.2 l.3 r.2 l.5) ∙ h in
        links_at j q i l.2 r.1 l.0 l.5 r.3 l.3 ∙ is.sound.mirrors l.0 r.0 l.2 r.1 r.4 was;
  }

  ends : EndsMeet e
  ends = record {
    other = ends_other n to fs end_in refl (end_moved to) low_end is.ends.both is.ends.other;
    both = ends_both n to fs end_in refl (end_moved to) low_end is.ends.both is.ends.other;
    goes = λ i j at.
        let r = end_from n to fs end_in refl (end_moved to) low_end i j at in
        ap target_in (kind_at n to fs i r.0 r.2) ∙ target_moved to (kind_of n r.0)
        ∙ ap (option_map (place_in to.classes)) (is.ends.goes r.0 r.1 r.4) ∙ sym (owner_at n to fs j r.1 r.3);
    around = λ i j at.
        let r = end_from n to fs end_in refl (end_moved to) low_end i j at in
        ap is_containment (kind_at n to fs i r.0 r.2) ∙ containment_moved to (kind_of n r.0) ∙ is.ends.around r.0 r.1 r.4
        ∙ sym (container_moved to (kind_of n r.1)) ∙ ap is_container (sym (kind_at n to fs j r.1 r.3));
  }

  -- the enums by their new numbers
  enums_there : (i k : ℕ) → slice_get to.enums i ≡ Some k → (x : Enum) × (slice_get n.enums k ≡ Some x)
  enums_there i k at = there_is n.enums k (es.back i k at).1

  pub enum_got : (i : ℕ) → slice_get e.enums i ≡ option_and_then (slice_get n.enums) (slice_get to.enums i)
  enum_got i = got (slice_get n.enums) to.enums enums_there i

  enum_from : (i : ℕ) (y : Enum) → slice_get e.enums i ≡ Some y → (k : ℕ) × (slice_get to.enums i ≡ Some k) × (slice_get n.enums k ≡ Some y)
  enum_from i y at = by_option (slice_get to.enums i)
      (λ lacks. absurd (none_some y (sym (enum_got i ∙ ap (option_and_then (slice_get n.enums)) lacks) ∙ at)))
      (λ k here. (k, here, sym (enum_got i ∙ ap (option_and_then (slice_get n.enums)) here) ∙ at))

  literals_at_place : (i k : ℕ) → slice_get to.enums i ≡ Some k → literals_of e i ≡ literals_of n k
  literals_at_place i k at = ap (λ o. option_map_or (λ (x : Enum). x.literals) o []) (enum_got i ∙ ap (option_and_then (slice_get n.enums)) at)

  literals_none : (i : ℕ) → slice_get to.enums i ≡ None → literals_of e i ≡ []
  literals_none i at = ap (λ o. option_map_or (λ (x : Enum). x.literals) o []) (enum_got i ∙ ap (option_and_then (slice_get n.enums)) at)

  literals_moved : (k : ℕ) → k < length n.enums → literals_of e (place_in to.enums k) ≡ literals_of n k
  literals_moved k lt = literals_at_place (place_in to.enums k) k (es.there k lt)

  -- what holds of the literals of each enum
  each_literals : (part : EnumLiteral → Name) → ((k : ℕ) → has_repeat (map part (literals_of n k)) ≡ false) → (i : ℕ)
      → has_repeat (map part (literals_of e i)) ≡ false
  each_literals part holds i = by_option (slice_get to.enums i)
      (λ lacks. ap (λ ls. has_repeat (map part ls)) (literals_none i lacks))
      (λ k at. ap (λ ls. has_repeat (map part ls)) (literals_at_place i k at) ∙ holds k)

  name_none : (i : ℕ) → slice_get to.features i ≡ None → name_at e.features i ≡ []
  name_none i lacks = ap (λ o. option_map_or (λ (feature : Feature). feature.name) o []) (feature_none n to fs i lacks)

  class_features : (i c : ℕ) → slice_get to.classes i ≡ Some c → features_of e i ≡ places (declared n c) to.features
  class_features i c here = ap (λ o. option_map_or (λ (class : Class). class.features) o []) (class_at n to cs i c here).2

  no_features : (i : ℕ) → slice_get to.classes i ≡ None → features_of e i ≡ []
  no_features i lacks = ap (λ o. option_map_or (λ (class : Class). class.features) o []) (class_got n to cs i
      ∙ ap (option_and_then (λ c. option_map (class_moved n to c) (slice_get n.classes c))) lacks)

  -- the features of a class have different names
  features_apart : (i : ℕ) → has_repeat (map (name_at e.features) (features_of e i)) ≡ false
  features_apart i = by_option (slice_get to.classes i)
      (λ lacks. ap (λ ks. has_repeat (map (name_at e.features) ks)) (no_features i lacks))
      (λ c here. ap (λ ks. has_repeat (map (name_at e.features) ks)) (class_features i c here)
      ∙ no_repeat (name_at e.features) (places (declared n c) to.features) (one c))
    where
      in_class : (c k : ℕ) → list_any (nat_eq k) (places (declared n c) to.features) ≡ true
          → (f : ℕ) × (slice_get to.features k ≡ Some f) × (slice_get (features_of n c) (place_in (features_of n c) f) ≡ Some f)
      in_class c k m =
          let known : option_map_or (declared n c) (slice_get to.features k) false ≡ true = sym (in_places (declared n c) to.features k) ∙ m in
          by_option (slice_get to.features k)
          (λ lacks. absurd (never (sym (ap (λ o. option_map_or (declared n c) o false) lacks) ∙ known)))
          (λ f at. (
            f,
            at,
            placed (features_of n c) f (sym (has_any n c f) ∙ has_declared n is.lists c f ∙ sym (ap (λ o. option_map_or (declared n c) o false) at) ∙ known),
          ))

      one : (c : ℕ) → (a b k l : ℕ) → slice_get (places (declared n c) to.features) a ≡ Some k
          → slice_get (places (declared n c) to.features) b ≡ Some l → name_at e.features k ≡ name_at e.features l → a ≡ b
      one c a b k l at there named =
          let f = in_class c k (any_passes_from_place (nat_eq k) (places (declared n c) to.features) a k at (nat_itself k)) in
          let g = in_class c l (any_passes_from_place (nat_eq l) (places (declared n c) to.features) b l there (nat_itself l)) in
          let names : name_at n.features f.0 ≡ name_at n.features g.0 = sym (name_of n to fs k f.0 f.1) ∙ named ∙ name_of n to fs l g.0 g.1 in
          let spots : place_in (features_of n c) f.0 ≡ place_in (features_of n c) g.0 = one_name (name_at n.features) (features_of n c)
          (is.named.features c) (place_in (features_of n c) f.0) (place_in (features_of n c) g.0) f.0 g.0 f.2 g.2 names in
          let feature : f.0 ≡ g.0 = some_is f.0 g.0 (sym f.2 ∙ ap (slice_get (features_of n c)) spots ∙ g.2) in
          let number : k ≡ l = sym (fs.back k f.0 f.1).0 ∙ ap (place_in to.features) feature ∙ (fs.back l g.0 g.1).0 in
          let once = rising_distinct (places (declared n c) to.features) (places_rise (declared n c) to.features) in
          sym (place_back (places (declared n c) to.features) once a k at) ∙ ap (place_in (places (declared n c) to.features)) number
          ∙ place_back (places (declared n c) to.features) once b l there

  named : IsNamed e
  named = record {
    classes = no_repeat (λ (x : Class). x.name) e.classes (λ i j x y at there same.
        let a = class_from n to cs i x at in
        let b = class_from n to cs j y there in
        let one : a.0 ≡ b.0 = one_name (λ (x : Class). x.name) n.classes is.named.classes a.0 b.0 a.1 b.1 a.3 b.3
        (sym (ap (λ (x : Class). x.name) a.4) ∙ same ∙ ap (λ (x : Class). x.name) b.4) in
        sym (cs.back i a.0 a.2).0 ∙ ap (place_in to.classes) one ∙ (cs.back j b.0 b.2).0);
    slashes = λ i x at. let a = class_from n to cs i x at in ap (λ (y : Class). has_slash y.name) a.4 ∙ is.named.slashes a.0 a.1 a.3;
    features = features_apart;
    keys = λ i. by_option (slice_get to.features i) (λ lacks. ap is_reserved (name_none i lacks))
        (λ f at. ap is_reserved (name_of n to fs i f at) ∙ is.named.keys f);
    refs = λ i. by_option (slice_get to.features i) (λ lacks. ap (λ q. bytes_eq q (codes "$ref")) (name_none i lacks))
        (λ f at. ap (λ q. bytes_eq q (codes "$ref")) (name_of n to fs i f at) ∙ is.named.refs f);
    enums = no_repeat (λ (x : Enum). x.name) e.enums (λ i j x y at there same.
        let a = enum_from i x at in
        let b = enum_from j y there in
        let one : a.0 ≡ b.0 = one_name (λ (x : Enum). x.name) n.enums is.named.enums a.0 b.0 x y a.2 b.2 same in
        sym (es.back i a.0 a.1).0 ∙ ap (place_in to.enums) one ∙ (es.back j b.0 b.1).0);
    literals = each_literals (λ l. l.text) is.named.literals;
    literal_names = each_literals (λ l. l.name) is.named.literal_names;
  }

  agrees_moved : (k : Kind) (upper : Option ℕ) → agrees (kind_moved to k) upper ≡ agrees k upper
  agrees_moved (Attr scalar default) upper = refl
  agrees_moved (AttrMany scalar unique) upper = refl
  agrees_moved (Bounded target opposite) upper = refl
  agrees_moved (Free target opposite) upper = refl
  agrees_moved (Contains target opposite) upper = refl
  agrees_moved (Container target opposite) upper = refl
  agrees_moved Skip upper = refl

  bounded : IsBounded e
  bounded = record {
    agree = λ i y at.
        let a = feature_from n to fs i y at in
        ap (λ (x : Feature). agrees x.kind x.upper) a.4 ∙ agrees_moved a.1.kind a.1.upper ∙ is.bounded.agree a.0 a.1 a.3;
    order = λ i y at.
        let a = feature_from n to fs i y at in
        subst (λ (x : Feature). IsAbove x.lower x.upper) (sym a.4) (is.bounded.order a.0 a.1 a.3);
  }

  low_enum : (k : ℕ) → 0 < literal_count n k → k < length n.enums
  low_enum k h = from n.enums k h
    where
      from : (xs : List Enum) (k : ℕ) → 0 < length (literals_at xs k) → k < length xs
      from [] k h = absurd (omega (arith, h))
      from (x ∷ xs) zero h = omega arith
      from (x ∷ xs) (suc k) h = let more = from xs k h in omega (arith, more)

  fits_moved : (s : Scalar) → ((k : ℕ) → s ≡ Literal k → k < length n.enums) → (v : Value) → fits n s v ≡ true → fits e (scalar_moved to s) v ≡ true
  fits_moved (Literal k) low (LiteralValue m) h = ap (λ ls. nat_lt m (length ls)) (literals_moved k (low k refl)) ∙ h
  fits_moved Text low v h = h
  fits_moved Flag low v h = h
  fits_moved Byte low v h = h
  fits_moved Short low v h = h
  fits_moved Int low v h = h
  fits_moved Long low v h = h
  fits_moved (Literal k) low v h = absurd (never h)

  scalar_from : (o : Option Scalar) (j : ℕ) → option_map (scalar_moved to) o ≡ Some (Literal j) → (k : ℕ) × (o ≡ Some (Literal k)) × (place_in to.enums k ≡ j)
  scalar_from None j h = absurd (none_some (Literal j) h)
  scalar_from (Some (Literal k)) j h = (k, refl, number (place_in to.enums k) j (same_some (Literal (place_in to.enums k)) (Literal j) h))
    where
      number : (a b : ℕ) → Literal a ≡ Literal b → a ≡ b
      number a b g = cc
  scalar_from (Some Text) j h = cc
  scalar_from (Some Flag) j h = cc
  scalar_from (Some Byte) j h = cc
  scalar_from (Some Short) j h = cc
  scalar_from (Some Int) j h = cc
  scalar_from (Some Long) j h = cc

  default_from : (k : Kind) (s : Scalar) (v : Value) → kind_moved to k ≡ Attr s (Some v) → (t : Scalar) × (k ≡ Attr t (Some v)) × (s ≡ scalar_moved to t)
  default_from (Attr t default) s v h =
      let d : default ≡ Some v = defaults (scalar_moved to t) s default (Some v) h in
      (t, ap (Attr t) d, sym (scalars (scalar_moved to t) s default (Some v) h))
    where
      scalars : (a b : Scalar) (p q : Option Value) → Attr a p ≡ Attr b q → a ≡ b
      scalars a b p q g = cc

      defaults : (a b : Scalar) (p q : Option Value) → Attr a p ≡ Attr b q → p ≡ q
      defaults a b p q g = cc
  default_from (AttrMany scalar unique) s v h = cc
  default_from (Bounded target opposite) s v h = cc
  default_from (Free target opposite) s v h = cc
  default_from (Contains target opposite) s v h = cc
  default_from (Container target opposite) s v h = cc
  default_from Skip s v h = cc

  in_range : IsInRange e
  in_range = record {
    owners = λ i y at.
        let a = feature_from n to fs i y at in
        subst (λ (x : Feature). x.owner < length e.classes) (sym a.4) (placed_class n to cs a.1.owner (is.in_range.owners a.0 a.1 a.3));
    targets = λ i c at. by_option (slice_get to.features i)
        (λ lacks. absurd (none_some c (sym (ap target_in (kind_none n to fs i lacks)) ∙ at)))
        (λ f here.
        let known : option_map (place_in to.classes) (target_in (kind_of n f)) ≡ Some c =
        sym (ap target_in (kind_at n to fs i f here) ∙ target_moved to (kind_of n f)) ∙ at in
        by_option (target_in (kind_of n f))
        (λ lacks. absurd (none_some c (sym (ap (option_map (place_in to.classes)) lacks) ∙ known)))
        (λ t is_t.
        let one : place_in to.classes t ≡ c = some_is (place_in to.classes t) c (sym (ap (option_map (place_in to.classes)) is_t) ∙ known) in
        subst (λ z. z < length e.classes) one (placed_class n to cs t (is.in_range.targets f t is_t))));
    enums = λ i j at. by_option (slice_get to.features i)
        (λ lacks. absurd (none_some (Literal j) (sym (ap scalar_in (kind_none n to fs i lacks)) ∙ at)))
        (λ f here.
        let r = scalar_from (scalar_in (kind_of n f)) j (sym (ap scalar_in (kind_at n to fs i f here) ∙ scalar_is_moved to (kind_of n f)) ∙ at) in
        let some : 0 < literal_count n r.0 = is.in_range.enums f r.0 r.1 in
        subst (λ z. 0 < literal_count e z) r.2 (subst (λ ls. 0 < length ls) (sym (literals_moved r.0 (low_enum r.0 some))) some));
    defaults = λ i s v at. by_option (slice_get to.features i)
        (λ lacks. absurd (no_skip s v (sym (kind_none n to fs i lacks) ∙ at)))
        (λ f here.
        let r = default_from (kind_of n f) s v (sym (kind_at n to fs i f here) ∙ at) in
        subst (λ z. fits e z v ≡ true) (sym r.2)
        (fits_moved r.0 (λ k is_k. low_enum k (is.in_range.enums f k (ap scalar_in r.1 ∙ ap Some is_k))) v (is.in_range.defaults f r.0 v r.1)));
  }
    where
      no_skip : (s : Scalar) (v : Value) → Skip ≡ Attr s (Some v) → ⊥
      no_skip s v h = cc

  pub renumbered_is : IsMetamodel e
  renumbered_is = record { above = stands_above; sound = sound; lists = lists; ends = ends; named = named; bounded = bounded; in_range = in_range }

pub renumbered_holds : (n : Meta) → Holds n → (to : Orders) → IsOrder (length n.classes) to.classes
    → IsOrder (length n.features) to.features → IsOrder (length n.enums) to.enums → Holds (renumbered n to)
renumbered_holds n holds to cs fs es = record {
  few_classes = omega (arith, classes_long n to cs, cs.long, holds.few_classes);
  few_features = omega (arith, features_long n to fs, fs.long, holds.few_features);
  is = renumbered_is n holds.is to cs fs es;
}
