-- A metamodel that extends another grows out of it once it has the other's numbers.
use Rattle.std.proofs.Common.{◌≡◌, ℕ, zero, suc, ◌+◌, ◌<◌, ◌≤◌, Bool, true, false, cond, List, [], ◌∷◌, ◌++◌, ◌&&◌, refl, sym, ap, subst, ◌∙◌, arith}
use Rattle.std.proofs.Common.{length, map, nat_eq, codes}
use Rattle.std.specs.Prelude.{Option, None, Some, slice_get}
use Rattle.std.specs.List.{list_all, list_any, range_with_len}
use Rattle.std.specs.Option.{option_and_then, option_map, option_map_or}
use Rattle.std.specs.Str.{bytes_eq}
use Rattle.std.proofs.lemmas.Bool.Decides.{nat_tests}
use Rattle.std.proofs.lemmas.Option.{slice_get_within}
use Rattle.finite_maps.specs.Equal.{option_eq}
use Rattle.finite_maps.proofs.EqualLaws.{and_first, and_second, nat_equality, option_equality}
use Rattle.model_state.specs.Typing.{flag_eq, value_eq}
use Rattle.model_state.proofs.StepTests.{value_equality}
use Rattle.ecore_meta.specs.Above.{above_of}
use Rattle.ecore_meta.specs.Ends.{end_in, owner_of, target_in}
use Rattle.ecore_meta.specs.Meta.{Meta, class_named, feature_named, features_of, first_named, is_a, name_at}
use Rattle.ecore_meta.specs.Names.{Name}
use Rattle.ecore_meta.specs.Promised.{IsMetamodel}
use Rattle.ecore_meta.specs.Ranges.{scalar_in}
use Rattle.ecore_meta.specs.Typing.{kind_of, literal_count, literals_of}
use Rattle.ecore_meta.specs.declared.meta.Class.{Class}
use Rattle.ecore_meta.specs.declared.meta.Enum.{Enum}
use Rattle.ecore_meta.specs.declared.meta.EnumLiteral.{EnumLiteral}
use Rattle.ecore_meta.specs.declared.meta.Feature.{Feature}
use Rattle.ecore_meta.specs.declared.meta.Kind.{Kind}
use Rattle.ecore_meta.specs.declared.meta.Kind.TheVariants.{Attr, AttrMany, Bounded, Free, Contains, Container, Skip}
use Rattle.ecore_meta.specs.declared.meta.Scalar.{Scalar}
use Rattle.ecore_meta.specs.declared.meta.Scalar.TheVariants.{Text, Flag, Byte, Short, Int, Long, Literal}
use Rattle.ecore_meta.proofs.DeclaredLaws.{has_any, has_declared}
use Rattle.ecore_meta.proofs.NameLaws.{same}
use Rattle.ecore_meta.proofs.NumberLaws.{nat_same, or_split}
use Rattle.metamodel_growth.specs.Evolved.{evolved, orders}
use Rattle.metamodel_growth.specs.Extension.{begins, class_in, class_kept, class_name, class_same, declared_named, enum_in, enum_kept, enum_name}
use Rattle.metamodel_growth.specs.Extension.{enum_same, feature_in, feature_kept, feature_same, first_lost, full_name, is_abstract, kind_same}
use Rattle.metamodel_growth.specs.Extension.{missing, opposite_same, owner_name, parts_same, scalar_same}
use Rattle.metamodel_growth.specs.Preserves.{Preserves}
use Rattle.metamodel_growth.specs.Order.{IsOrder, place_in}
use Rattle.metamodel_growth.specs.Renumbered.{class_moved, feature_moved, kind_moved, scalar_moved}
use Rattle.metamodel_growth.specs.declared.order.Orders.{Orders}
use Rattle.metamodel_growth.proofs.NameLaws.{number_is, one_name}
use Rattle.metamodel_growth.proofs.OrderLaws.{found_order, found_place, placed, some_is}
use Rattle.metamodel_growth.proofs.PromiseLaws.{enum_got, renumbered_is}
use Rattle.metamodel_growth.proofs.RenumberLaws.{by_option, class_at, feature_at, is_a_at, low_kind, never, none_some, same_some, there_is}

-- ---- what is kept

lost_left : (xs ys : List (Name × Bool)) → first_lost (xs ++ ys) ≡ None → first_lost xs ≡ None
lost_left [] ys h = refl
lost_left (x ∷ xs) ys h = by_test x.1 (lost_left xs ys) h
  where
    by_test : (b : Bool) → (first_lost (xs ++ ys) ≡ None → first_lost xs ≡ None) → cond b (first_lost (xs ++ ys)) (Some x.0) ≡ None
        → cond b (first_lost xs) (Some x.0) ≡ None
    by_test true more g = more g
    by_test false more g = absurd (none_some x.0 (sym g))

lost_right : (xs ys : List (Name × Bool)) → first_lost (xs ++ ys) ≡ None → first_lost ys ≡ None
lost_right [] ys h = h
lost_right (x ∷ xs) ys h = by_test x.1 (lost_right xs ys) h
  where
    by_test : (b : Bool) → (first_lost (xs ++ ys) ≡ None → first_lost ys ≡ None) → cond b (first_lost (xs ++ ys)) (Some x.0) ≡ None → first_lost ys ≡ None
    by_test true more g = more g
    by_test false more g = absurd (none_some x.0 (sym g))

kept_at : (name : ℕ → Name) (kept : ℕ → Bool) (a m k : ℕ) → first_lost (map (λ c. (name c, kept c)) (range_with_len a m)) ≡ None → a ≤ k
    → k < a + m → kept k ≡ true
kept_at name kept a zero k h le lt = absurd (omega arith)
kept_at name kept a (suc m) k h le lt = by_test (kept a) refl (λ g low. kept_at name kept (a + 1) m k g low (omega arith)) h
  where
    by_number : (b : Bool) → nat_eq a k ≡ b → kept a ≡ true → (a + 1 ≤ k → kept k ≡ true) → kept k ≡ true
    by_number true e is more = ap kept (sym (nat_same a k e)) ∙ is
    by_number false e is more = more (above a k le e)
      where
        above : (a k : ℕ) → a ≤ k → nat_eq a k ≡ false → a + 1 ≤ k
        above a k low f = grind (arith, nat_tests)

    by_test : (b : Bool) → kept a ≡ b → (first_lost (map (λ c. (name c, kept c)) (range_with_len (a + 1) m)) ≡ None → a + 1 ≤ k
        → kept k ≡ true) → cond b (first_lost (map (λ c. (name c, kept c)) (range_with_len (a + 1) m))) (Some (name a)) ≡ None
        → kept k ≡ true
    by_test true e more g = by_number (nat_eq a k) refl e (more g)
    by_test false e more g = absurd (none_some (name a) (sym g))

map_true : {X : Type 0} (o : Option X) (p : X → Bool) → option_map_or p o false ≡ true → (x : X) × (o ≡ Some x) × (p x ≡ true)
map_true None p h = absurd (never h)
map_true (Some x) p h = (x, refl, h)

pub record Kept (o n : Meta) : Type 0 where
  pub uri : o.uri ≡ n.uri
  pub classes : (c : ℕ) → c < length o.classes → class_kept o n c ≡ true
  pub enums : (k : ℕ) → k < length o.enums → enum_kept o n k ≡ true
  pub features : (f : ℕ) → f < length o.features → feature_kept o n f ≡ true

kept_of : (o n : Meta) → missing o n ≡ None → Kept o n
unfolding missing
kept_of o n h =
    let class_parts : List (Name × Bool) = map (λ c. (class_name o c, class_kept o n c)) (range_with_len 0 (length o.classes)) in
    let enum_parts : List (Name × Bool) = map (λ k. (enum_name o k, enum_kept o n k)) (range_with_len 0 (length o.enums)) in
    let feature_parts : List (Name × Bool) = map (λ f. (full_name o f, feature_kept o n f)) (range_with_len 0 (length o.features)) in
    let rest : first_lost (class_parts ++ (enum_parts ++ feature_parts)) ≡ None = lost_right ((codes "nsURI", bytes_eq o.uri n.uri) ∷ [])
    (class_parts ++ (enum_parts ++ feature_parts)) h in
    let more : first_lost (enum_parts ++ feature_parts) ≡ None = lost_right class_parts (enum_parts ++ feature_parts) rest in
    record {
      uri = same o.uri n.uri (uri_kept (bytes_eq o.uri n.uri) (first_lost (class_parts ++ (enum_parts ++ feature_parts))) h);
      classes = λ c lt. kept_at (class_name o) (class_kept o n) 0 (length o.classes) c
          (lost_left class_parts (enum_parts ++ feature_parts) rest) (omega arith) (omega arith);
      enums = λ k lt. kept_at (enum_name o) (enum_kept o n) 0 (length o.enums) k (lost_left enum_parts feature_parts more) (omega arith) (omega arith);
      features = λ f lt. kept_at (full_name o) (feature_kept o n) 0 (length o.features) f (lost_right enum_parts feature_parts more)
          (omega arith) (omega arith);
    }
  where
    uri_kept : (b : Bool) (rest : Option Name) → cond b rest (Some (codes "nsURI")) ≡ None → b ≡ true
    uri_kept true rest g = refl
    uri_kept false rest g = absurd (none_some (codes "nsURI") (sym g))

-- ---- names of one metamodel

module _ (m : Meta) (is : IsMetamodel m) where
  class_one : (i j : ℕ) → i < length m.classes → j < length m.classes → class_name m i ≡ class_name m j → i ≡ j
  class_one i j low lower e =
      let x = there_is m.classes i low in
      let y = there_is m.classes j lower in
      one_name (λ (x : Class). x.name) m.classes is.named.classes i j x.0 y.0 x.1 y.1
      (sym (ap (λ o. option_map_or (λ (x : Class). x.name) o []) x.1) ∙ e ∙ ap (λ o. option_map_or (λ (x : Class). x.name) o []) y.1)

  enum_one : (i j : ℕ) → i < length m.enums → j < length m.enums → enum_name m i ≡ enum_name m j → i ≡ j
  enum_one i j low lower e =
      let x = there_is m.enums i low in
      let y = there_is m.enums j lower in
      one_name (λ (x : Enum). x.name) m.enums is.named.enums i j x.0 y.0 x.1 y.1
      (sym (ap (λ o. option_map_or (λ (x : Enum). x.name) o []) x.1) ∙ e ∙ ap (λ o. option_map_or (λ (x : Enum). x.name) o []) y.1)

  pub owner_is : (i : ℕ) (x : Feature) → slice_get m.features i ≡ Some x → owner_name m i ≡ class_name m x.owner
  owner_is i x at = ap (λ o. option_map_or (class_name m) (option_map (λ (feature : Feature). feature.owner) o) []) at

  -- the feature stands in the list of the class that declares it
  pub own_place : (i : ℕ) (x : Feature) → slice_get m.features i ≡ Some x → slice_get (features_of m x.owner) (place_in (features_of m x.owner) i) ≡ Some i
  own_place i x at =
      placed (features_of m x.owner) i
      (sym (has_any m x.owner i) ∙ has_declared m is.lists x.owner i
      ∙ ap (λ o. option_map_or (λ (feature : Feature). is_a m x.owner feature.owner) o false) at
      ∙ is.above.own x.owner (is.in_range.owners i x at))

  -- a feature is known by its name and its class's
  feature_one : (i j : ℕ) (x y : Feature) → slice_get m.features i ≡ Some x → slice_get m.features j ≡ Some y
      → owner_name m i ≡ owner_name m j → name_at m.features i ≡ name_at m.features j → i ≡ j
  feature_one i j x y at there owners names =
      let owner : x.owner ≡ y.owner = class_one x.owner y.owner (is.in_range.owners i x at) (is.in_range.owners j y there)
      (sym (owner_is i x at) ∙ owners ∙ owner_is j y there) in
      let second : slice_get (features_of m x.owner) (place_in (features_of m x.owner) j) ≡ Some j =
      subst (λ c. slice_get (features_of m c) (place_in (features_of m c) j) ≡ Some j) (sym owner) (own_place j y there) in
      let spots : place_in (features_of m x.owner) i ≡ place_in (features_of m x.owner) j =
      one_name (name_at m.features) (features_of m x.owner) (is.named.features x.owner) (place_in (features_of m x.owner) i)
      (place_in (features_of m x.owner) j) i j (own_place i x at) second names in
      some_is i j (sym (own_place i x at) ∙ ap (slice_get (features_of m x.owner)) spots ∙ second)

  pub low_opposite : (f g : ℕ) → end_in (kind_of m f) ≡ Some g → g < length m.features
  low_opposite f g at = low_kind m.features g end_in f refl (is.ends.both f g at)

  pub low_enum : (k : ℕ) → 0 < literal_count m k → k < length m.enums
  low_enum k h = from m.enums k h
    where
      from : (xs : List Enum) (k : ℕ) → 0 < length (option_map_or (λ (x : Enum). x.literals) (slice_get xs k) []) → k < length xs
      from [] k h = absurd (omega (arith, h))
      from (x ∷ xs) zero h = omega arith
      from (x ∷ xs) (suc k) h = let more = from xs k h in omega (arith, more)

-- the feature that a class has by a name has that name
first_is : (features : List Feature) (ks : List ℕ) (q : Name) (f : ℕ) → first_named features ks q ≡ Some f → name_at features f ≡ q
first_is features [] q f h = absurd (none_some f h)
first_is features (k ∷ ks) q f h = by_test (bytes_eq (name_at features k) q) refl (first_is features ks q f) h
  where
    by_test : (b : Bool) → bytes_eq (name_at features k) q ≡ b → (first_named features ks q ≡ Some f → name_at features f ≡ q)
        → cond b (Some k) (first_named features ks q) ≡ Some f → name_at features f ≡ q
    by_test true e more g = ap (name_at features) (sym (some_is k f g)) ∙ same (name_at features k) q e
    by_test false e more g = more g

owner_test : (o : Option ℕ) (c f g : ℕ) → cond (option_eq nat_eq o (Some c)) (Some f) None ≡ Some g → (o ≡ Some c) × (f ≡ g)
owner_test o c f g h = by_test (option_eq nat_eq o (Some c)) refl h
  where
    by_test : (b : Bool) → option_eq nat_eq o (Some c) ≡ b → cond b (Some f) None ≡ Some g → (o ≡ Some c) × (f ≡ g)
    by_test true e k = ((option_equality nat_eq nat_equality).exact o (Some c) e, some_is f g k)
    by_test false e k = absurd (none_some g k)

-- ---- the numbers of the first in the second

module _ (o n : Meta) (is_o : IsMetamodel o) (is_n : IsMetamodel n) where
  class_in_is : (i k : ℕ) → class_in o n i ≡ Some k → (class_name o i ≡ class_name n k) × (k < length n.classes)
  class_in_is i k h =
      let x = number_is (λ (x : Class). x.name) (class_name o i) n.classes k h in
      (x.2 ∙ sym (ap (λ o. option_map_or (λ (x : Class). x.name) o []) x.1), slice_get_within n.classes k x.0 x.1)

  enum_in_is : (i k : ℕ) → enum_in o n i ≡ Some k → (enum_name o i ≡ enum_name n k) × (k < length n.enums)
  enum_in_is i k h =
      let x = number_is (λ (x : Enum). x.name) (enum_name o i) n.enums k h in
      (x.2 ∙ sym (ap (λ o. option_map_or (λ (x : Enum). x.name) o []) x.1), slice_get_within n.enums k x.0 x.1)

  -- a feature that is found: its class, its names, and itself
  feature_in_is : (i g : ℕ) → feature_in o n i ≡ Some g → (c : ℕ) × (y : Feature) × (class_named n (owner_name o i) ≡ Some c) ×
      (slice_get n.features g ≡ Some y) × (y.owner ≡ c) × (owner_name o i ≡ owner_name n g) × (name_at o.features i ≡ name_at n.features g)
  feature_in_is i g h = by_option (class_named n (owner_name o i))
      (λ none. absurd (none_some g (sym (ap (option_and_then (λ c. declared_named n c (name_at o.features i))) none) ∙ h)))
      (λ c at_c.
      let known : declared_named n c (name_at o.features i) ≡ Some g = sym (ap (option_and_then (λ c. declared_named n c (name_at o.features i))) at_c) ∙ h in
      by_option (feature_named n c (name_at o.features i))
      (λ none. absurd (none_some g (sym (ap (option_and_then (λ f. cond (option_eq nat_eq (owner_of n f) (Some c)) (Some f) None)) none) ∙ known)))
      (λ f at_f.
      let t = owner_test (owner_of n f) c f g (sym (ap (option_and_then (λ f. cond (option_eq nat_eq (owner_of n f) (Some c)) (Some f) None)) at_f) ∙ known) in
      let own : owner_of n g ≡ Some c = ap (owner_of n) (sym t.1) ∙ t.0 in
      let name : name_at n.features g ≡ name_at o.features i = ap (name_at n.features) (sym t.1)
      ∙ first_is n.features (features_of n c) (name_at o.features i) f at_f in
      let x = number_is (λ (x : Class). x.name) (owner_name o i) n.classes c at_c in
      by_option (slice_get n.features g)
      (λ none. absurd (none_some c (sym (ap (option_map (λ (feature : Feature). feature.owner)) none) ∙ own)))
      (λ y at_y. (
        c,
        y,
        at_c,
        at_y,
        some_is y.owner c (sym (ap (option_map (λ (feature : Feature). feature.owner)) at_y) ∙ own),
        x.2 ∙ sym (ap (λ o. option_map_or (λ (x : Class). x.name) o []) x.1) ∙ sym (ap (λ o. option_map_or (class_name n) o []) own),
        sym name,
      ))))

  class_apart : (i j k : ℕ) → i < length o.classes → j < length o.classes → class_in o n i ≡ Some k → class_in o n j ≡ Some k → i ≡ j
  class_apart i j k low lower a b = class_one o is_o i j low lower ((class_in_is i k a).0 ∙ sym (class_in_is j k b).0)

  enum_apart : (i j k : ℕ) → i < length o.enums → j < length o.enums → enum_in o n i ≡ Some k → enum_in o n j ≡ Some k → i ≡ j
  enum_apart i j k low lower a b = enum_one o is_o i j low lower ((enum_in_is i k a).0 ∙ sym (enum_in_is j k b).0)

  feature_apart : (i j k : ℕ) → i < length o.features → j < length o.features → feature_in o n i ≡ Some k → feature_in o n j ≡ Some k → i ≡ j
  feature_apart i j k low lower a b =
      let x = there_is o.features i low in
      let y = there_is o.features j lower in
      let p = feature_in_is i k a in
      let q = feature_in_is j k b in
      feature_one o is_o i j x.0 y.0 x.1 y.1 (p.5 ∙ sym q.5) (p.6 ∙ sym q.6)

  pub class_order : IsOrder (length n.classes) (orders o n).classes
  class_order = found_order (class_in o n) (length o.classes) class_apart (length n.classes) (λ i k h. (class_in_is i k h).1)

  pub enum_order : IsOrder (length n.enums) (orders o n).enums
  enum_order = found_order (enum_in o n) (length o.enums) enum_apart (length n.enums) (λ i k h. (enum_in_is i k h).1)

  pub feature_order : IsOrder (length n.features) (orders o n).features
  feature_order = found_order (feature_in o n) (length o.features) feature_apart (length n.features)
      (λ i k h. let r = feature_in_is i k h in slice_get_within n.features k r.1 r.3)

  -- ---- where the second extends the first

  module _ (kept : Kept o n) where
    abbrev to : Orders
    to = orders o n

    class_found : (j : ℕ) → j < length o.classes → (x : ℕ) × (class_in o n j ≡ Some x)
    class_found j lt = let r = map_true (class_in o n j) _ (kept.classes j lt) in (r.0, r.1)

    enum_found : (j : ℕ) → j < length o.enums → (x : ℕ) × (enum_in o n j ≡ Some x)
    enum_found j lt = let r = map_true (enum_in o n j) _ (kept.enums j lt) in (r.0, r.1)

    feature_found : (j : ℕ) → j < length o.features
        → (x y : Feature) × (g : ℕ) × (slice_get o.features j ≡ Some x) × (feature_in o n j ≡ Some g) × (slice_get n.features g ≡ Some y) ×
        (parts_same o n x y ≡ true)
    feature_found j lt =
        let r = map_true (slice_get o.features j) _ (kept.features j lt) in
        let q = map_true (option_and_then (slice_get n.features) (feature_in o n j)) (parts_same o n r.0) r.2 in
        by_option (feature_in o n j)
        (λ none. absurd (none_some q.0 (sym (ap (option_and_then (slice_get n.features)) none) ∙ q.1)))
        (λ g at. (r.0, q.0, g, r.1, at, sym (ap (option_and_then (slice_get n.features)) at) ∙ q.1, q.2))

    class_place : (i k : ℕ) → i < length o.classes → class_in o n i ≡ Some k → slice_get to.classes i ≡ Some k
    class_place i k lt h = found_place (class_in o n) (length o.classes) (length n.classes) i k class_found lt h

    enum_place : (i k : ℕ) → i < length o.enums → enum_in o n i ≡ Some k → slice_get to.enums i ≡ Some k
    enum_place i k lt h = found_place (enum_in o n) (length o.enums) (length n.enums) i k enum_found lt h

    feature_place : (i k : ℕ) → i < length o.features → feature_in o n i ≡ Some k → slice_get to.features i ≡ Some k
    feature_place i k lt h = found_place (feature_in o n) (length o.features) (length n.features) i k
        (λ j less. let r = feature_found j less in (r.2, r.4)) lt h

    -- what has one name gets the first's number
    class_number : (c d : ℕ) → c < length o.classes → d < length n.classes → class_same o n c d ≡ true → place_in to.classes d ≡ c
    class_number c d low lower h =
        let x = class_found c low in
        let i = class_in_is c x.0 x.1 in
        let one : x.0 ≡ d = class_one n is_n x.0 d i.1 lower (sym i.0 ∙ same (class_name o c) (class_name n d) h) in
        ap (place_in to.classes) (sym one) ∙ (class_order.back c x.0 (class_place c x.0 low x.1)).0

    enum_number : (c d : ℕ) → c < length o.enums → d < length n.enums → enum_same o n c d ≡ true → place_in to.enums d ≡ c
    enum_number c d low lower h =
        let x = enum_found c low in
        let i = enum_in_is c x.0 x.1 in
        let one : x.0 ≡ d = enum_one n is_n x.0 d i.1 lower (sym i.0 ∙ same (enum_name o c) (enum_name n d) h) in
        ap (place_in to.enums) (sym one) ∙ (enum_order.back c x.0 (enum_place c x.0 low x.1)).0

    feature_number : (f g : ℕ) → f < length o.features → g < length n.features → feature_same o n f g ≡ true → place_in to.features g ≡ f
    feature_number f g low lower h =
        let x = feature_found f low in
        let i = feature_in_is f x.2 x.4 in
        let z = there_is n.features g lower in
        let one : x.2 ≡ g = feature_one n is_n x.2 g i.1 z.0 i.3 z.1 (sym i.5 ∙ same (owner_name o f) (owner_name n g) (and_first _ _ h))
        (sym i.6 ∙ same (name_at o.features f) (name_at n.features g) (and_second _ _ h)) in
        ap (place_in to.features) (sym one) ∙ (feature_order.back f x.2 (feature_place f x.2 low x.4)).0

    scalar_is : (s t : Scalar) → ((k : ℕ) → s ≡ Literal k → k < length o.enums) → ((k : ℕ) → t ≡ Literal k → k < length n.enums)
        → scalar_same o n s t ≡ true → scalar_moved to t ≡ s
    scalar_is (Literal k) (Literal d) low lower h = ap (λ (z : ℕ). Literal z) (enum_number k d (low k refl) (lower d refl) h)
    scalar_is Text Text low lower h = refl
    scalar_is Flag Flag low lower h = refl
    scalar_is Byte Byte low lower h = refl
    scalar_is Short Short low lower h = refl
    scalar_is Int Int low lower h = refl
    scalar_is Long Long low lower h = refl
    scalar_is s t low lower h = absurd (never h)

    opposite_is : (f g : Option ℕ) → ((k : ℕ) → f ≡ Some k → k < length o.features) → ((k : ℕ) → g ≡ Some k → k < length n.features)
        → opposite_same o n f g ≡ true → option_map (place_in to.features) g ≡ f
    opposite_is None None low lower h = refl
    opposite_is (Some f) (Some g) low lower h = ap (λ (z : ℕ). Some z) (feature_number f g (low f refl) (lower g refl) h)
    opposite_is None (Some g) low lower h = absurd (never h)
    opposite_is (Some f) None low lower h = absurd (never h)

    flag_is : (a b : Bool) → flag_eq a b ≡ true → b ≡ a
    flag_is true b h = h
    flag_is false true h = absurd (never h)
    flag_is false false h = refl

    -- the kind with the new numbers is that of the first
    kind_is : (k l : Kind) → ((c : ℕ) → target_in k ≡ Some c → c < length o.classes)
        → ((c : ℕ) → target_in l ≡ Some c → c < length n.classes) → ((f : ℕ) → end_in k ≡ Some f → f < length o.features)
        → ((f : ℕ) → end_in l ≡ Some f → f < length n.features) → ((e : ℕ) → scalar_in k ≡ Some (Literal e) → e < length o.enums)
        → ((e : ℕ) → scalar_in l ≡ Some (Literal e) → e < length n.enums) → kind_same o n k l ≡ true → kind_moved to l ≡ k
    kind_is (Attr s default) (Attr t other) ct dt ce de cs ds h =
        let first = scalar_is s t (λ k e. cs k (ap Some e)) (λ k e. ds k (ap Some e)) (and_first _ _ h) in
        let second = (option_equality value_eq value_equality).exact default other (and_second (scalar_same o n s t) _ h) in
        λ i. Attr (first i) (sym second i)
    kind_is (AttrMany s unique) (AttrMany t other) ct dt ce de cs ds h =
        let first = scalar_is s t (λ k e. cs k (ap Some e)) (λ k e. ds k (ap Some e)) (and_first _ _ h) in
        let second = flag_is unique other (and_second (scalar_same o n s t) _ h) in
        λ i. AttrMany (first i) (second i)
    kind_is (Bounded c f) (Bounded d g) ct dt ce de cs ds h =
        let first = class_number c d (ct c refl) (dt d refl) (and_first _ _ h) in
        let second = opposite_is f g ce de (and_second (class_same o n c d) _ h) in
        λ i. Bounded (first i) (second i)
    kind_is (Free c f) (Free d g) ct dt ce de cs ds h =
        let first = class_number c d (ct c refl) (dt d refl) (and_first _ _ h) in
        let second = opposite_is f g ce de (and_second (class_same o n c d) _ h) in
        λ i. Free (first i) (second i)
    kind_is (Contains c f) (Contains d g) ct dt ce de cs ds h =
        let first = class_number c d (ct c refl) (dt d refl) (and_first _ _ h) in
        let second = opposite_is f g ce de (and_second (class_same o n c d) _ h) in
        λ i. Contains (first i) (second i)
    kind_is (Container c f) (Container d g) ct dt ce de cs ds h =
        let first = class_number c d (ct c refl) (dt d refl) (and_first _ _ h) in
        let second = feature_number f g (ce f refl) (de g refl) (and_second (class_same o n c d) _ h) in
        λ i. Container (first i) (second i)
    kind_is Skip Skip ct dt ce de cs ds h = refl
    kind_is k l ct dt ce de cs ds h = absurd (never h)

    kind_here : (m : Meta) (f : ℕ) (x : Feature) → slice_get m.features f ≡ Some x → kind_of m f ≡ x.kind
    kind_here m f x at = ap (λ o. option_map_or (λ (feature : Feature). feature.kind) o Skip) at

    feature_is : (f g : ℕ) (x y : Feature) → slice_get o.features f ≡ Some x → feature_in o n f ≡ Some g → slice_get n.features g ≡ Some y
        → parts_same o n x y ≡ true → feature_moved to y ≡ x
    feature_is f g x y at found there h =
        let r = feature_in_is f g found in
        let same_y : r.1 ≡ y = same_some r.1 y (sym r.3 ∙ there) in
        let kx = kind_here o f x at in
        let ky = kind_here n g y there in
        let owner : place_in to.classes y.owner ≡ x.owner =
        ap (λ (z : Feature). place_in to.classes z.owner) (sym same_y)
        ∙ ap (place_in to.classes) r.4
        ∙ (class_order.back x.owner r.0 (class_place x.owner r.0 (is_o.in_range.owners f x at) (ap (class_named n) (sym (owner_is o is_o f x at)) ∙ r.2))).0 in
        let name : y.name ≡ x.name =
        sym (ap (λ o. option_map_or (λ (feature : Feature). feature.name) o []) there) ∙ sym r.6
        ∙ ap (λ o. option_map_or (λ (feature : Feature). feature.name) o []) at in
        let lower : y.lower ≡ x.lower = sym (nat_same x.lower y.lower (and_first _ _ (and_first _ _ h))) in
        let upper : y.upper ≡ x.upper =
        sym ((option_equality nat_eq nat_equality).exact x.upper y.upper (and_second (nat_eq x.lower y.lower) _ (and_first _ _ h))) in
        let kind : kind_moved to y.kind ≡ x.kind =
        kind_is x.kind y.kind
        (λ c e. is_o.in_range.targets f c (ap target_in kx ∙ e))
        (λ c e. is_n.in_range.targets g c (ap target_in ky ∙ e))
        (λ k e. low_opposite o is_o f k (ap end_in kx ∙ e))
        (λ k e. low_opposite n is_n g k (ap end_in ky ∙ e))
        (λ k e. low_enum o is_o k (is_o.in_range.enums f k (ap scalar_in kx ∙ e)))
        (λ k e. low_enum n is_n k (is_n.in_range.enums g k (ap scalar_in ky ∙ e)))
        (and_second (nat_eq x.lower y.lower && option_eq nat_eq x.upper y.upper) _ h) in
        λ i. record { owner = owner i; name = name i; lower = lower i; upper = upper i; kind = kind i }

    all_any : (p : ℕ → Bool) (xs : List ℕ) (d : ℕ) → list_all p xs ≡ true → list_any (nat_eq d) xs ≡ true → p d ≡ true
    all_any p [] d h m = absurd (never m)
    all_any p (x ∷ xs) d h m = or_split (nat_eq d x) (list_any (nat_eq d) xs) m
        (λ e. ap p (nat_same d x e) ∙ and_first _ _ h)
        (λ e. all_any p xs d (and_second (p x) _ h) e)

    in_above : (c d : ℕ) → is_a o c d ≡ true → list_any (nat_eq d) (above_of o c) ≡ true
    in_above c d h = by_option (slice_get o.above c)
        (λ none. absurd (never (sym (ap (λ o. option_map_or (list_any (nat_eq d)) o false) none) ∙ h)))
        (λ ds at. ap (λ o. list_any (nat_eq d) (option_map_or (λ ds. ds) o [])) at ∙ sym (ap (λ o. option_map_or (list_any (nat_eq d)) o false) at) ∙ h)

    low_above : (c d : ℕ) → is_a o c d ≡ true → c < length o.classes
    low_above c d h = by_option (slice_get o.above c)
        (λ none. absurd (never (sym (ap (λ o. option_map_or (list_any (nat_eq d)) o false) none) ∙ h)))
        (λ ds at. let lt = slice_get_within o.above c ds at in omega (arith, lt, is_o.above.many))

    begins_more : (ls ms : List EnumLiteral) → begins ls ms ≡ true → (more : List EnumLiteral) × (ms ≡ ls ++ more)
    begins_more [] ms h = (ms, refl)
    begins_more (l ∷ ls) [] h = absurd (never h)
    begins_more (l ∷ ls) (m ∷ ms) h =
        let name : m.name ≡ l.name = sym (same l.name m.name (and_first _ _ (and_first _ _ h))) in
        let text : m.text ≡ l.text = sym (same l.text m.text (and_second (bytes_eq l.name m.name) _ (and_first _ _ h))) in
        let rest = begins_more ls ms (and_second (bytes_eq l.name m.name && bytes_eq l.text m.text) _ h) in
        (rest.0, λ i. record { name = name i; text = text i } ∷ rest.1 i)

    pub preserves : Preserves o (evolved o n)
    unfolding evolved
    preserves = record {
      uri = sym kept.uri;
      classes = λ c k at.
          let lt = slice_get_within o.classes c k at in
          let r = map_true (class_in o n c) _ (kept.classes c lt) in
          let i = class_in_is c r.0 r.1 in
          let l = class_at n to class_order c r.0 (class_place c r.0 lt r.1) in (
            class_moved n to r.0 l.0,
            l.2,
            sym (ap (λ o. option_map_or (λ (x : Class). x.name) o []) l.1) ∙ sym i.0 ∙ ap (λ o. option_map_or (λ (x : Class). x.name) o []) at,
            sym (ap (λ o. option_map_or (λ (x : Class). x.is_abstract) o false) l.1)
                ∙ flag_is (is_abstract o c) (is_abstract n r.0) (and_first _ _ r.2)
                ∙ ap (λ o. option_map_or (λ (x : Class). x.is_abstract) o false) at,
          );
      above = λ c d h.
          let lt = low_above c d h in
          let r = map_true (class_in o n c) _ (kept.classes c lt) in
          let b = map_true (class_in o n d) (is_a n r.0)
          (all_any (λ b. option_map_or (is_a n r.0) (class_in o n b) false) (above_of o c) d
          (and_second (flag_eq (is_abstract o c) (is_abstract n r.0)) _ r.2) (in_above c d h)) in
          is_a_at n to c d r.0 b.0 (class_place c r.0 lt r.1) (class_place d b.0 (is_o.above.classes c d h) b.1) ∙ b.2;
      features = λ f x at.
          let lt = slice_get_within o.features f x at in
          let r = feature_found f lt in
          let one : r.0 ≡ x = same_some r.0 x (sym r.3 ∙ at) in
          let y = feature_at n to feature_order f r.2 (feature_place f r.2 lt r.4) in
          let same_y : y.0 ≡ r.1 = same_some y.0 r.1 (sym y.1 ∙ r.5) in
          y.2 ∙ ap (λ (z : Feature). Some (feature_moved to z)) same_y ∙ ap Some (feature_is f r.2 r.0 r.1 r.3 r.4 r.5 r.6 ∙ one);
      enums = λ k x at.
          let lt = slice_get_within o.enums k x at in
          let r = map_true (enum_in o n k) _ (kept.enums k lt) in
          let i = enum_in_is k r.0 r.1 in
          let y = there_is n.enums r.0 i.1 in
          let b = begins_more x.literals y.0.literals
          (subst (λ ls. begins ls y.0.literals ≡ true) (ap (λ o. option_map_or (λ (x : Enum). x.literals) o []) at)
          (subst (λ ls. begins (literals_of o k) ls ≡ true) (ap (λ o. option_map_or (λ (x : Enum). x.literals) o []) y.1) r.2)) in (
            y.0,
            b.0,
            enum_got n is_n to class_order feature_order enum_order k ∙ ap (option_and_then (slice_get n.enums)) (enum_place k r.0 lt r.1) ∙ y.1,
            sym (ap (λ o. option_map_or (λ (x : Enum). x.name) o []) y.1) ∙ sym i.0 ∙ ap (λ o. option_map_or (λ (x : Enum). x.name) o []) at,
            b.1,
          );
    }

pub evolved_preserves :
    (o n : Meta) → IsMetamodel o → IsMetamodel n → missing o n ≡ None
    → Preserves o (evolved o n)
evolved_preserves o n is_o is_n h = preserves o n is_o is_n (kept_of o n h)

-- the metamodel with the first's numbers is one
pub evolved_is : (o n : Meta) → IsMetamodel o → IsMetamodel n → IsMetamodel (evolved o n)
unfolding evolved
evolved_is o n is_o is_n = renumbered_is n is_n (orders o n) (class_order o n is_o is_n) (feature_order o n is_o is_n) (enum_order o n is_o is_n)
