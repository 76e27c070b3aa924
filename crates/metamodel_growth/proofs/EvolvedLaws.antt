-- A metamodel with other numbers has the same parts, by name.
use Rattle.std.proofs.Common.{◌≡◌, ℕ, zero, suc, ◌+◌, ◌<◌, ◌≤◌, Bool, true, false, cond, List, [], ◌∷◌, ◌++◌, ◌&&◌, refl, sym, ap, subst, ◌∙◌, arith}
use Rattle.std.proofs.Common.{length, map, nat_eq, codes}
use Rattle.std.specs.Prelude.{Option, None, Some, slice_get}
use Rattle.std.specs.List.{list_all, list_any, range_with_len}
use Rattle.std.specs.Option.{option_and_then, option_map, option_map_or}
use Rattle.std.specs.Str.{bytes_eq}
use Rattle.std.proofs.lemmas.Bool.{or_left, or_parts, or_right}
use Rattle.std.proofs.lemmas.Option.{slice_get_within}
use Rattle.finite_maps.specs.Equal.{option_eq}
use Rattle.finite_maps.proofs.EqualLaws.{and_both, nat_equality, option_equality}
use Rattle.model_state.specs.Typing.{flag_eq, value_eq}
use Rattle.model_state.proofs.StepTests.{value_equality}
use Rattle.ecore_meta.specs.Above.{above_of}
use Rattle.ecore_meta.specs.Ends.{end_in, owner_of, target_in}
use Rattle.ecore_meta.specs.Meta.{Meta, class_named, feature_named, features_of, first_named, is_a, name_at}
use Rattle.ecore_meta.specs.Names.{Name, has_repeat, number_of}
use Rattle.ecore_meta.specs.Promised.{IsMetamodel}
use Rattle.ecore_meta.specs.Ranges.{scalar_in}
use Rattle.ecore_meta.specs.Typing.{kind_of, literals_of}
use Rattle.ecore_meta.specs.declared.meta.Class.{Class}
use Rattle.ecore_meta.specs.declared.meta.Enum.{Enum}
use Rattle.ecore_meta.specs.declared.meta.EnumLiteral.{EnumLiteral}
use Rattle.ecore_meta.specs.declared.meta.Feature.{Feature}
use Rattle.ecore_meta.specs.declared.meta.Kind.{Kind}
use Rattle.ecore_meta.specs.declared.meta.Kind.TheVariants.{Attr, AttrMany, Bounded, Free, Contains, Container, Skip}
use Rattle.ecore_meta.specs.declared.meta.Scalar.{Scalar}
use Rattle.ecore_meta.specs.declared.meta.Scalar.TheVariants.{Text, Flag, Byte, Short, Int, Long, Literal}
use Rattle.ecore_meta.proofs.NameLaws.{itself, same}
use Rattle.ecore_meta.proofs.NumberLaws.{nat_itself}
use Rattle.metamodel_growth.specs.Evolved.{evolved, orders}
use Rattle.metamodel_growth.specs.EvolvedLaws.{EvolvedHasTheNew}
use Rattle.metamodel_growth.specs.Extension.{begins, class_in, class_kept, class_name, class_same, declared_named, enum_in, enum_kept, enum_name}
use Rattle.metamodel_growth.specs.Extension.{feature_in, feature_kept, feature_same, first_lost, full_name, is_abstract, kind_same, missing, opposite_same}
use Rattle.metamodel_growth.specs.Extension.{owner_name, parts_same, scalar_same}
use Rattle.metamodel_growth.specs.Order.{IsOrder, place_in}
use Rattle.metamodel_growth.specs.Renumbered.{class_moved, feature_moved, kind_moved, renumbered, scalar_moved}
use Rattle.metamodel_growth.specs.declared.order.Orders.{Orders}
use Rattle.metamodel_growth.proofs.ExtensionLaws.{Kept, class_order, enum_order, evolved_is, feature_order, low_enum, low_opposite, own_place, owner_is}
use Rattle.metamodel_growth.proofs.NameLaws.{one_name}
use Rattle.metamodel_growth.proofs.OrderLaws.{some_is}
use Rattle.metamodel_growth.proofs.PromiseLaws.{enum_got}
use Rattle.metamodel_growth.proofs.RenumberLaws.{at_class, by_option, class_at, feature_at, feature_from, is_a_at, never, none_some, same_some, there_is}

-- ---- nothing is missing
none_lost : (xs ys : List (Name × Bool)) → first_lost xs ≡ None → first_lost ys ≡ None → first_lost (xs ++ ys) ≡ None
none_lost [] ys h g = g
none_lost (x ∷ xs) ys h g = by_test x.1 (λ more. none_lost xs ys more g) h
  where
    by_test : (b : Bool) → (first_lost xs ≡ None → first_lost (xs ++ ys) ≡ None) → cond b (first_lost xs) (Some x.0) ≡ None
        → cond b (first_lost (xs ++ ys)) (Some x.0) ≡ None
    by_test true more e = more e
    by_test false more e = absurd (none_some x.0 (sym e))

all_kept : (name : ℕ → Name) (kept : ℕ → Bool) (a m : ℕ) → ((k : ℕ) → a ≤ k → k < a + m → kept k ≡ true)
    → first_lost (map (λ c. (name c, kept c)) (range_with_len a m)) ≡ None
all_kept name kept a zero all = refl
all_kept name kept a (suc m) all =
    ap (λ b. cond b (first_lost (map (λ c. (name c, kept c)) (range_with_len (a + 1) m))) (Some (name a))) (all a (omega arith) (omega arith))
    ∙ all_kept name kept (a + 1) m (λ k low high. all k (omega (arith, low)) (omega (arith, high)))

missing_none : (a b : Meta) → Kept a b → missing a b ≡ None
unfolding missing
missing_none a b kept =
    let class_parts : List (Name × Bool) = map (λ c. (class_name a c, class_kept a b c)) (range_with_len 0 (length a.classes)) in
    let enum_parts : List (Name × Bool) = map (λ e. (enum_name a e, enum_kept a b e)) (range_with_len 0 (length a.enums)) in
    let feature_parts : List (Name × Bool) = map (λ f. (full_name a f, feature_kept a b f)) (range_with_len 0 (length a.features)) in
    none_lost ((codes "nsURI", bytes_eq a.uri b.uri) ∷ []) (class_parts ++ (enum_parts ++ feature_parts))
    (ap (λ t. cond t None (Some (codes "nsURI"))) (subst (λ (u : Name). bytes_eq a.uri u ≡ true) kept.uri (itself a.uri)))
    (none_lost class_parts (enum_parts ++ feature_parts)
    (all_kept (class_name a) (class_kept a b) 0 (length a.classes) (λ c low high. kept.classes c (omega (arith, high))))
    (none_lost enum_parts feature_parts
    (all_kept (enum_name a) (enum_kept a b) 0 (length a.enums) (λ e low high. kept.enums e (omega (arith, high))))
    (all_kept (full_name a) (feature_kept a b) 0 (length a.features) (λ f low high. kept.features f (omega (arith, high))))))

-- ---- what is found by its name
zero_suc : (i : ℕ) → 0 ≡ suc i → ⊥
zero_suc i h = cc

numbered : {X : Type 0} (name : X → Name) (q : Name) (xs : List X) (d : ℕ) (x : X) → has_repeat (map name xs) ≡ false → slice_get xs d ≡ Some x → q ≡ name x
    → number_of q (map name xs) ≡ Some d
numbered name q [] d x once at is = absurd (none_some x at)
numbered name q (y ∷ xs) zero x once at is =
    ap (λ b. cond b (Some 0) (option_map (λ n. suc n) (number_of q (map name xs))))
    (subst (λ z. bytes_eq q z ≡ true) (is ∙ ap name (sym (same_some y x at))) (itself q))
numbered name q (y ∷ xs) (suc d) x once at is =
    by_test (bytes_eq q (name y)) refl (numbered name q xs d x (or_parts (list_any (bytes_eq (name y)) (map name xs)) (has_repeat (map name xs)) once).1 at is)
  where
    by_test : (b : Bool) → bytes_eq q (name y) ≡ b → number_of q (map name xs) ≡ Some d
        → cond b (Some 0) (option_map (λ n. suc n) (number_of q (map name xs))) ≡ Some (suc d)
    by_test true e more = absurd (zero_suc d (one_name name (y ∷ xs) once 0 (suc d) y x refl at (sym (same q (name y) e) ∙ is)))
    by_test false e more = ap (option_map (λ n. suc n)) more

first_found : (features : List Feature) (ks : List ℕ) (q : Name) (p g : ℕ) → has_repeat (map (name_at features) ks) ≡ false → slice_get ks p ≡ Some g
    → name_at features g ≡ q → first_named features ks q ≡ Some g
first_found features [] q p g once at is = absurd (none_some g at)
first_found features (k ∷ ks) q zero g once at is =
    ap (λ b. cond b (Some k) (first_named features ks q))
    (subst (λ z. bytes_eq (name_at features k) z ≡ true) (ap (name_at features) (some_is k g at) ∙ is) (itself (name_at features k))) ∙ at
first_found features (k ∷ ks) q (suc p) g once at is =
    by_test (bytes_eq (name_at features k) q) refl
    (first_found features ks q p g
    (or_parts (list_any (bytes_eq (name_at features k)) (map (name_at features) ks)) (has_repeat (map (name_at features) ks)) once).1 at is)
  where
    by_test : (b : Bool) → bytes_eq (name_at features k) q ≡ b → first_named features ks q ≡ Some g
        → cond b (Some k) (first_named features ks q) ≡ Some g
    by_test true e more =
        absurd (zero_suc p (one_name (name_at features) (k ∷ ks) once 0 (suc p) k g refl at (same (name_at features k) q e ∙ sym is)))
    by_test false e more = more

-- ---- metamodels whose parts go by other numbers
-- types of values alike, by the numbers of enums
abbrev ScalarAlike : (ℕ → ℕ → Type 0) → Scalar → Scalar → Type 0
ScalarAlike E Text Text = Unit {0}
ScalarAlike E Flag Flag = Unit {0}
ScalarAlike E Byte Byte = Unit {0}
ScalarAlike E Short Short = Unit {0}
ScalarAlike E Int Int = Unit {0}
ScalarAlike E Long Long = Unit {0}
ScalarAlike E (Literal e) (Literal d) = E e d
ScalarAlike E s t = ⊥

abbrev OppositeAlike : (ℕ → ℕ → Type 0) → Option ℕ → Option ℕ → Type 0
OppositeAlike F None None = Unit {0}
OppositeAlike F (Some f) (Some g) = F f g
OppositeAlike F f g = ⊥

-- kinds alike, by the numbers of classes, enums and features
abbrev KindAlike : (ℕ → ℕ → Type 0) → (ℕ → ℕ → Type 0) → (ℕ → ℕ → Type 0) → Kind → Kind → Type 0
KindAlike C E F (Attr s default) (Attr t other) = ScalarAlike E s t × (default ≡ other)
KindAlike C E F (AttrMany s unique) (AttrMany t other) = ScalarAlike E s t × (unique ≡ other)
KindAlike C E F (Bounded c f) (Bounded d g) = C c d × OppositeAlike F f g
KindAlike C E F (Free c f) (Free d g) = C c d × OppositeAlike F f g
KindAlike C E F (Contains c f) (Contains d g) = C c d × OppositeAlike F f g
KindAlike C E F (Container c f) (Container d g) = C c d × F f g
KindAlike C E F Skip Skip = Unit {0}
KindAlike C E F k l = ⊥

-- features alike
record FeatureAlike (C E F : ℕ → ℕ → Type 0) (a b : Meta) (f g : ℕ) : Type 0 where
  x : Feature
  y : Feature
  at : slice_get a.features f ≡ Some x
  there : slice_get b.features g ≡ Some y
  owner : C x.owner y.owner
  name : x.name ≡ y.name
  lower : x.lower ≡ y.lower
  upper : x.upper ≡ y.upper
  kind : KindAlike C E F x.kind y.kind

-- each part of the first is alike to one of the second
record Alike (a b : Meta) (C E F : ℕ → ℕ → Type 0) : Type 0 where
  uri : a.uri ≡ b.uri
  some_class : (c : ℕ) → c < length a.classes → (d : ℕ) × C c d
  class : (c d : ℕ) → C c d → (class_name a c ≡ class_name b d) × (is_abstract a c ≡ is_abstract b d) × (d < length b.classes)
  above : (c d x y : ℕ) → C c d → C x y → is_a a c x ≡ true → is_a b d y ≡ true
  some_enum : (e : ℕ) → e < length a.enums → (d : ℕ) × E e d
  enum : (e d : ℕ) → E e d → (enum_name a e ≡ enum_name b d) × (literals_of a e ≡ literals_of b d) × (d < length b.enums)
  some_feature : (f : ℕ) → f < length a.features → (g : ℕ) × F f g
  feature : (f g : ℕ) → F f g → FeatureAlike C E F a b f g

flag_own : (t : Bool) → flag_eq t t ≡ true
flag_own true = refl
flag_own false = refl

begins_own : (ls : List EnumLiteral) → begins ls ls ≡ true
begins_own [] = refl
begins_own (l ∷ ls) = and_both (bytes_eq l.name l.name && bytes_eq l.text l.text) (begins ls ls)
    (and_both (bytes_eq l.name l.name) (bytes_eq l.text l.text) (itself l.name) (itself l.text)) (begins_own ls)

-- a test that each number of a list passes
all_pass : (p : ℕ → Bool) (xs : List ℕ) → ((x : ℕ) → list_any (nat_eq x) xs ≡ true → p x ≡ true) → list_all p xs ≡ true
all_pass p [] pass = refl
all_pass p (x ∷ xs) pass =
    and_both (p x) (list_all p xs) (pass x (or_left (nat_eq x x) (list_any (nat_eq x) xs) (nat_itself x)))
    (all_pass p xs (λ y more. pass y (or_right (nat_eq y x) (list_any (nat_eq y) xs) more)))

is_above : (m : Meta) (c x : ℕ) → list_any (nat_eq x) (above_of m c) ≡ true → is_a m c x ≡ true
is_above m c x h = by_option (slice_get m.above c)
    (λ none. absurd (never (sym (ap (λ o. list_any (nat_eq x) (option_map_or (λ ds. ds) o [])) none) ∙ h)))
    (λ ds at. ap (λ o. option_map_or (list_any (nat_eq x)) o false) at
    ∙ sym (ap (λ o. list_any (nat_eq x) (option_map_or (λ ds. ds) o [])) at) ∙ h)

equal_names : (p q : Name) → p ≡ q → bytes_eq p q ≡ true
equal_names p q is = subst (λ z. bytes_eq p z ≡ true) is (itself p)

module _ (a b : Meta) (is_a_meta : IsMetamodel a) (is_b_meta : IsMetamodel b) (C E F : ℕ → ℕ → Type 0) (like : Alike a b C E F) where
  class_found : (c d : ℕ) → C c d → class_in a b c ≡ Some d
  class_found c d h =
      let r = like.class c d h in
      let x = there_is b.classes d r.2 in
      numbered (λ (x : Class). x.name) (class_name a c) b.classes d x.0 is_b_meta.named.classes x.1
      (r.0 ∙ ap (λ o. option_map_or (λ (x : Class). x.name) o []) x.1)

  enum_found : (e d : ℕ) → E e d → enum_in a b e ≡ Some d
  enum_found e d h =
      let r = like.enum e d h in
      let x = there_is b.enums d r.2 in
      numbered (λ (x : Enum). x.name) (enum_name a e) b.enums d x.0 is_b_meta.named.enums x.1
      (r.0 ∙ ap (λ o. option_map_or (λ (x : Enum). x.name) o []) x.1)

  class_alike : (c : ℕ) → c < length a.classes → class_kept a b c ≡ true
  class_alike c lt =
      let d = like.some_class c lt in
      let r = like.class c d.0 d.1 in
      ap (λ o. option_map_or
      (λ d. flag_eq (is_abstract a c) (is_abstract b d) && list_all (λ x. option_map_or (is_a b d) (class_in a b x) false) (above_of a c)) o false)
      (class_found c d.0 d.1)
      ∙ and_both (flag_eq (is_abstract a c) (is_abstract b d.0)) _ (subst (λ t. flag_eq (is_abstract a c) t ≡ true) r.1 (flag_own (is_abstract a c)))
      (all_pass (λ x. option_map_or (is_a b d.0) (class_in a b x) false) (above_of a c) (λ x h.
      let up = is_above a c x h in
      let y = like.some_class x (is_a_meta.above.classes c x up) in
      ap (λ o. option_map_or (is_a b d.0) o false) (class_found x y.0 y.1) ∙ like.above c d.0 x y.0 d.1 y.1 up))

  enum_alike : (e : ℕ) → e < length a.enums → enum_kept a b e ≡ true
  enum_alike e lt =
      let d = like.some_enum e lt in
      ap (λ o. option_map_or (λ d. begins (literals_of a e) (literals_of b d)) o false) (enum_found e d.0 d.1)
      ∙ subst (λ (ls : List EnumLiteral). begins (literals_of a e) ls ≡ true) (like.enum e d.0 d.1).1 (begins_own (literals_of a e))

  -- ---- features
  owners : (f g : ℕ) → F f g → owner_name a f ≡ owner_name b g
  owners f g h =
      let r = like.feature f g h in
      owner_is a is_a_meta f r.x r.at ∙ (like.class r.x.owner r.y.owner r.owner).0 ∙ sym (owner_is b is_b_meta g r.y r.there)

  feature_names : (f g : ℕ) → F f g → name_at a.features f ≡ name_at b.features g
  feature_names f g h =
      let r = like.feature f g h in
      ap (λ o. option_map_or (λ (x : Feature). x.name) o []) r.at ∙ r.name ∙ sym (ap (λ o. option_map_or (λ (x : Feature). x.name) o []) r.there)

  feature_found : (f g : ℕ) → F f g → feature_in a b f ≡ Some g
  feature_found f g h =
      let r = like.feature f g h in
      let q = name_at a.features f in
      let d = r.y.owner in
      let own : owner_of b g ≡ Some d = ap (option_map (λ (x : Feature). x.owner)) r.there in
      let class_is : class_named b (owner_name a f) ≡ Some d =
      ap (class_named b) (owner_is a is_a_meta f r.x r.at) ∙ class_found r.x.owner d r.owner in
      let found : feature_named b d q ≡ Some g =
      first_found b.features (features_of b d) q (place_in (features_of b d) g) g (is_b_meta.named.features d) (own_place b is_b_meta g r.y r.there)
      (sym (feature_names f g h)) in
      ap (option_and_then (λ c. declared_named b c q)) class_is
      ∙ ap (option_and_then (λ k. cond (option_eq nat_eq (owner_of b k) (Some d)) (Some k) None)) found
      ∙ ap (λ t. cond t (Some g) None)
      (subst (λ o. option_eq nat_eq o (Some d) ≡ true) (sym own) (nat_itself d))

  scalar_alike : (s t : Scalar) → ScalarAlike E s t → scalar_same a b s t ≡ true
  scalar_alike Text Text h = refl
  scalar_alike Flag Flag h = refl
  scalar_alike Byte Byte h = refl
  scalar_alike Short Short h = refl
  scalar_alike Int Int h = refl
  scalar_alike Long Long h = refl
  scalar_alike (Literal e) (Literal d) h = equal_names (enum_name a e) (enum_name b d) (like.enum e d h).0
  scalar_alike s t h = absurd h

  one_class : (c d : ℕ) → C c d → class_same a b c d ≡ true
  one_class c d h = equal_names (class_name a c) (class_name b d) (like.class c d h).0

  one_feature : (f g : ℕ) → F f g → feature_same a b f g ≡ true
  one_feature f g h =
      and_both (bytes_eq (owner_name a f) (owner_name b g)) (bytes_eq (name_at a.features f) (name_at b.features g))
      (equal_names (owner_name a f) (owner_name b g) (owners f g h))
      (equal_names (name_at a.features f) (name_at b.features g) (feature_names f g h))

  opposite_alike : (f g : Option ℕ) → OppositeAlike F f g → opposite_same a b f g ≡ true
  opposite_alike None None h = refl
  opposite_alike (Some f) (Some g) h = one_feature f g h
  opposite_alike f g h = absurd h

  kind_alike : (k l : Kind) → KindAlike C E F k l → kind_same a b k l ≡ true
  kind_alike (Attr s default) (Attr t other) h =
      and_both (scalar_same a b s t) (option_eq value_eq default other) (scalar_alike s t h.0)
      (subst (λ o. option_eq value_eq default o ≡ true) h.1 ((option_equality value_eq value_equality).own default))
  kind_alike (AttrMany s unique) (AttrMany t other) h =
      and_both (scalar_same a b s t) (flag_eq unique other) (scalar_alike s t h.0) (subst (λ o. flag_eq unique o ≡ true) h.1 (flag_own unique))
  kind_alike (Bounded c f) (Bounded d g) h = and_both (class_same a b c d) (opposite_same a b f g) (one_class c d h.0) (opposite_alike f g h.1)
  kind_alike (Free c f) (Free d g) h = and_both (class_same a b c d) (opposite_same a b f g) (one_class c d h.0) (opposite_alike f g h.1)
  kind_alike (Contains c f) (Contains d g) h = and_both (class_same a b c d) (opposite_same a b f g) (one_class c d h.0) (opposite_alike f g h.1)
  kind_alike (Container c f) (Container d g) h = and_both (class_same a b c d) (feature_same a b f g) (one_class c d h.0) (one_feature f g h.1)
  kind_alike Skip Skip h = refl
  kind_alike k l h = absurd h

  feature_alike : (f : ℕ) → f < length a.features → feature_kept a b f ≡ true
  feature_alike f lt =
      let g = like.some_feature f lt in
      let r = like.feature f g.0 g.1 in
      let found : option_and_then (slice_get b.features) (feature_in a b f) ≡ Some r.y =
      ap (option_and_then (slice_get b.features)) (feature_found f g.0 g.1) ∙ r.there in
      ap (λ o. option_map_or (λ x. option_map_or (parts_same a b x) (option_and_then (slice_get b.features) (feature_in a b f)) false) o false) r.at
      ∙ ap (λ o. option_map_or (parts_same a b r.x) o false) found
      ∙ and_both (nat_eq r.x.lower r.y.lower && option_eq nat_eq r.x.upper r.y.upper) (kind_same a b r.x.kind r.y.kind)
      (and_both (nat_eq r.x.lower r.y.lower) (option_eq nat_eq r.x.upper r.y.upper)
      (subst (λ n. nat_eq r.x.lower n ≡ true) r.lower (nat_itself r.x.lower))
      (subst (λ o. option_eq nat_eq r.x.upper o ≡ true) r.upper ((option_equality nat_eq nat_equality).own r.x.upper)))
      (kind_alike r.x.kind r.y.kind r.kind)

  nothing_missing : missing a b ≡ None
  nothing_missing = missing_none a b (record { uri = like.uri; classes = class_alike; enums = enum_alike; features = feature_alike })

-- ---- a metamodel and the same with other numbers
module _ (n : Meta) (is : IsMetamodel n) (to : Orders) (cs : IsOrder (length n.classes) to.classes) (fs : IsOrder (length n.features) to.features)
    (es : IsOrder (length n.enums) to.enums) where
  abbrev r : Meta
  r = renumbered n to

  -- the place of a number
  abbrev C : ℕ → ℕ → Type 0
  C c i = slice_get to.classes i ≡ Some c

  abbrev E : ℕ → ℕ → Type 0
  E e i = slice_get to.enums i ≡ Some e

  abbrev F : ℕ → ℕ → Type 0
  F f i = slice_get to.features i ≡ Some f

  class_parts : (c i : ℕ) → C c i → (class_name n c ≡ class_name r i) × (is_abstract n c ≡ is_abstract r i) × (i < length r.classes)
  class_parts c i h =
      let x = class_at n to cs i c h in (
        ap (λ o. option_map_or (λ (x : Class). x.name) o []) x.1 ∙ sym (ap (λ o. option_map_or (λ (x : Class). x.name) o []) x.2),
        ap (λ o. option_map_or (λ (x : Class). x.is_abstract) o false) x.1 ∙ sym (ap (λ o. option_map_or (λ (x : Class). x.is_abstract) o false) x.2),
        slice_get_within r.classes i (class_moved n to c x.0) x.2,
      )

  enum_is : (e i : ℕ) → E e i → slice_get r.enums i ≡ slice_get n.enums e
  enum_is e i h = enum_got n is to cs fs es i ∙ ap (option_and_then (slice_get n.enums)) h

  enum_parts : (e i : ℕ) → E e i → (enum_name n e ≡ enum_name r i) × (literals_of n e ≡ literals_of r i) × (i < length r.enums)
  enum_parts e i h =
      let same_one = enum_is e i h in
      let x = there_is n.enums e (es.back i e h).1 in (
        sym (ap (λ o. option_map_or (λ (x : Enum). x.name) o []) same_one),
        sym (ap (λ o. option_map_or (λ (x : Enum). x.literals) o []) same_one),
        slice_get_within r.enums i x.0 (same_one ∙ x.1),
      )

  enum_place : (i : ℕ) → i < length r.enums → (e : ℕ) × E e i
  enum_place i lt = by_option (slice_get to.enums i)
      (λ none.
      let x = there_is r.enums i lt in
      absurd (none_some x.0 (sym (enum_got n is to cs fs es i ∙ ap (option_and_then (slice_get n.enums)) none) ∙ x.1)))
      (λ e at. (e, at))

  feature_place : (i : ℕ) → i < length r.features → (f : ℕ) × F f i
  feature_place i lt = let x = there_is r.features i lt in let y = feature_from n to fs i x.0 x.1 in (y.0, y.2)

  -- what a kind names is there
  record Names (k : Kind) : Type 0 where
    target : (c : ℕ) → target_in k ≡ Some c → c < length n.classes
    opposite : (f : ℕ) → end_in k ≡ Some f → f < length n.features
    enum_of : (e : ℕ) → scalar_in k ≡ Some (Literal e) → e < length n.enums

  named : (f : ℕ) (x : Feature) → slice_get n.features f ≡ Some x → Names x.kind
  named f x at =
      let k : kind_of n f ≡ x.kind = ap (λ o. option_map_or (λ (feature : Feature). feature.kind) o Skip) at in
      record {
        target = λ c h. is.in_range.targets f c (ap target_in k ∙ h);
        opposite = λ g h. low_opposite n is f g (ap end_in k ∙ h);
        enum_of = λ e h. low_enum n is e (is.in_range.enums f e (ap scalar_in k ∙ h));
      }

  scalar_to : (s : Scalar) → ((e : ℕ) → s ≡ Literal e → e < length n.enums) → ScalarAlike E s (scalar_moved to s)
  scalar_to (Literal e) low = es.there e (low e refl)
  scalar_to Text low = tt
  scalar_to Flag low = tt
  scalar_to Byte low = tt
  scalar_to Short low = tt
  scalar_to Int low = tt
  scalar_to Long low = tt

  opposite_to : (f : Option ℕ) → ((k : ℕ) → f ≡ Some k → k < length n.features) → OppositeAlike F f (option_map (place_in to.features) f)
  opposite_to None low = tt
  opposite_to (Some f) low = fs.there f (low f refl)

  kind_to : (k : Kind) → Names k → KindAlike C E F k (kind_moved to k)
  kind_to (Attr s default) h = (scalar_to s (λ e is. h.enum_of e (ap Some is)), refl)
  kind_to (AttrMany s unique) h = (scalar_to s (λ e is. h.enum_of e (ap Some is)), refl)
  kind_to (Bounded c f) h = (cs.there c (h.target c refl), opposite_to f h.opposite)
  kind_to (Free c f) h = (cs.there c (h.target c refl), opposite_to f h.opposite)
  kind_to (Contains c f) h = (cs.there c (h.target c refl), opposite_to f h.opposite)
  kind_to (Container c f) h = (cs.there c (h.target c refl), fs.there f (h.opposite f refl))
  kind_to Skip h = tt

  feature_to : (f i : ℕ) → F f i → FeatureAlike C E F n r f i
  feature_to f i h =
      let x = feature_at n to fs i f h in
      record {
        x = x.0;
        y = feature_moved to x.0;
        at = x.1;
        there = x.2;
        owner = cs.there x.0.owner (is.in_range.owners f x.0 x.1);
        name = refl;
        lower = refl;
        upper = refl;
        kind = kind_to x.0.kind (named f x.0 x.1);
      }

  forth : Alike n r C E F
  forth = record {
    uri = refl;
    some_class = λ c lt. (place_in to.classes c, cs.there c lt);
    class = class_parts;
    above = λ c i d j here there up. is_a_at n to i j c d here there ∙ up;
    some_enum = λ e lt. (place_in to.enums e, es.there e lt);
    enum = enum_parts;
    some_feature = λ f lt. (place_in to.features f, fs.there f lt);
    feature = feature_to;
  }

  -- ---- and back
  abbrev C' : ℕ → ℕ → Type 0
  C' i c = C c i

  abbrev E' : ℕ → ℕ → Type 0
  E' i e = E e i

  abbrev F' : ℕ → ℕ → Type 0
  F' i f = F f i

  scalar_from : (s : Scalar) → ((e : ℕ) → s ≡ Literal e → e < length n.enums) → ScalarAlike E' (scalar_moved to s) s
  scalar_from (Literal e) low = es.there e (low e refl)
  scalar_from Text low = tt
  scalar_from Flag low = tt
  scalar_from Byte low = tt
  scalar_from Short low = tt
  scalar_from Int low = tt
  scalar_from Long low = tt

  opposite_from : (f : Option ℕ) → ((k : ℕ) → f ≡ Some k → k < length n.features) → OppositeAlike F' (option_map (place_in to.features) f) f
  opposite_from None low = tt
  opposite_from (Some f) low = fs.there f (low f refl)

  kind_from : (k : Kind) → Names k → KindAlike C' E' F' (kind_moved to k) k
  kind_from (Attr s default) h = (scalar_from s (λ e is. h.enum_of e (ap Some is)), refl)
  kind_from (AttrMany s unique) h = (scalar_from s (λ e is. h.enum_of e (ap Some is)), refl)
  kind_from (Bounded c f) h = (cs.there c (h.target c refl), opposite_from f h.opposite)
  kind_from (Free c f) h = (cs.there c (h.target c refl), opposite_from f h.opposite)
  kind_from (Contains c f) h = (cs.there c (h.target c refl), opposite_from f h.opposite)
  kind_from (Container c f) h = (cs.there c (h.target c refl), fs.there f (h.opposite f refl))
  kind_from Skip h = tt

  feature_back : (i f : ℕ) → F' i f → FeatureAlike C' E' F' r n i f
  feature_back i f h =
      let x = feature_at n to fs i f h in
      record {
        x = feature_moved to x.0;
        y = x.0;
        at = x.2;
        there = x.1;
        owner = cs.there x.0.owner (is.in_range.owners f x.0 x.1);
        name = refl;
        lower = refl;
        upper = refl;
        kind = kind_from x.0.kind (named f x.0 x.1);
      }

  back : Alike r n C' E' F'
  back = record {
    uri = refl;
    some_class = λ i lt. at_class n to cs i lt;
    class = λ i c h.
        let p = class_parts c i h in
        let x = class_at n to cs i c h in
        (sym p.0, sym p.1, slice_get_within n.classes c x.0 x.1);
    above = λ i c j d here there up. sym (is_a_at n to i j c d here there) ∙ up;
    some_enum = enum_place;
    enum = λ i e h. let p = enum_parts e i h in (sym p.0, sym p.1, (es.back i e h).1);
    some_feature = feature_place;
    feature = feature_back;
  }

pub evolved_has_the_new : EvolvedHasTheNew
unfolding evolved
evolved_has_the_new o n is_o is_n =
    let to = orders o n in
    let cs = class_order o n is_o is_n in
    let fs = feature_order o n is_o is_n in
    let es = enum_order o n is_o is_n in
    let is_r = evolved_is o n is_o is_n in
    record {
      all = nothing_missing n (renumbered n to) is_n is_r (C n is_n to cs fs es) (E n is_n to cs fs es) (F n is_n to cs fs es) (forth n is_n to cs fs es);
      no_other =
          nothing_missing (renumbered n to) n is_r is_n (C' n is_n to cs fs es) (E' n is_n to cs fs es) (F' n is_n to cs fs es) (back n is_n to cs fs es);
    }
