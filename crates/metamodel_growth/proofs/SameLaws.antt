-- Metamodels that are the same part by part are equal.
use Rattle.std.proofs.Common.{◌≡◌, ℕ, zero, suc, ◌+◌, ◌<◌, ◌≤◌, Bool, true, false, List, [], ◌∷◌, ◌&&◌, refl, sym, ap, subst, ◌∙◌, arith, length, nat_eq}
use Rattle.std.specs.Prelude.{Some, slice_get}
use Rattle.std.specs.List.{filter, list_all, list_any, range_with_len}
use Rattle.std.specs.Option.{option_map_or}
use Rattle.std.specs.Str.{bytes_eq}
use Rattle.std.proofs.lemmas.Bool.Decides.{nat_tests}
use Rattle.finite_maps.specs.Equal.{list_eq, option_eq}
use Rattle.finite_maps.proofs.EqualLaws.{IsEquality, and_both, and_first, and_second, list_equality, nat_equality, option_equality}
use Rattle.model_state.specs.Typing.{flag_eq, value_eq}
use Rattle.model_state.proofs.StepTests.{value_equality}
use Rattle.ecore_meta.specs.Meta.{Meta, features_of}
use Rattle.ecore_meta.specs.Promised.{IsMetamodel}
use Rattle.ecore_meta.specs.Typing.{literals_of}
use Rattle.ecore_meta.specs.declared.meta.Class.{Class}
use Rattle.ecore_meta.specs.declared.meta.Enum.{Enum}
use Rattle.ecore_meta.specs.declared.meta.EnumLiteral.{EnumLiteral}
use Rattle.ecore_meta.specs.declared.meta.Feature.{Feature}
use Rattle.ecore_meta.specs.declared.meta.Kind.{Kind}
use Rattle.ecore_meta.specs.declared.meta.Kind.TheVariants.{Attr, AttrMany, Bounded, Free, Contains, Container, Skip}
use Rattle.ecore_meta.specs.declared.meta.Scalar.{Scalar}
use Rattle.ecore_meta.specs.declared.meta.Scalar.TheVariants.{Text, Flag, Byte, Short, Int, Long, Literal}
use Rattle.ecore_meta.proofs.NameLaws.{itself, same}
use Rattle.ecore_meta.proofs.NumberLaws.{nat_itself, nat_same}
use Rattle.metamodel_growth.specs.Extension.{begins, class_name, enum_name, is_abstract}
use Rattle.metamodel_growth.specs.Same.{SameIsEqual, all_below, class_alike, enum_alike, feature_alike, feature_eq, is_same, kind_eq, literal_eq, scalar_eq}
use Rattle.metamodel_growth.proofs.RenumberLaws.{never, same_some, there_is}

scalar_exact : (s t : Scalar) → scalar_eq s t ≡ true → s ≡ t
scalar_exact Text Text h = refl
scalar_exact Flag Flag h = refl
scalar_exact Byte Byte h = refl
scalar_exact Short Short h = refl
scalar_exact Int Int h = refl
scalar_exact Long Long h = refl
scalar_exact (Literal e) (Literal d) h = ap (λ (z : ℕ). Literal z) (nat_same e d h)
scalar_exact s t h = absurd (never h)

scalar_own : (s : Scalar) → scalar_eq s s ≡ true
scalar_own Text = refl
scalar_own Flag = refl
scalar_own Byte = refl
scalar_own Short = refl
scalar_own Int = refl
scalar_own Long = refl
scalar_own (Literal e) = nat_itself e

flag_exact : (a b : Bool) → flag_eq a b ≡ true → a ≡ b
flag_exact true b h = sym h
flag_exact false true h = absurd (never h)
flag_exact false false h = refl

flag_own : (a : Bool) → flag_eq a a ≡ true
flag_own true = refl
flag_own false = refl

values : IsEquality (option_eq value_eq)
values = option_equality value_eq value_equality

numbers : IsEquality (option_eq nat_eq)
numbers = option_equality nat_eq nat_equality

kind_exact : (k l : Kind) → kind_eq k l ≡ true → k ≡ l
kind_exact (Attr s default) (Attr t other) h =
    let p = scalar_exact s t (and_first _ _ h) in
    let q = values.exact default other (and_second (scalar_eq s t) _ h) in
    λ i. Attr (p i) (q i)
kind_exact (AttrMany s unique) (AttrMany t other) h =
    let p = scalar_exact s t (and_first _ _ h) in
    let q = flag_exact unique other (and_second (scalar_eq s t) _ h) in
    λ i. AttrMany (p i) (q i)
kind_exact (Bounded c f) (Bounded d g) h =
    let p = nat_same c d (and_first _ _ h) in
    let q = numbers.exact f g (and_second (nat_eq c d) _ h) in
    λ i. Bounded (p i) (q i)
kind_exact (Free c f) (Free d g) h =
    let p = nat_same c d (and_first _ _ h) in
    let q = numbers.exact f g (and_second (nat_eq c d) _ h) in
    λ i. Free (p i) (q i)
kind_exact (Contains c f) (Contains d g) h =
    let p = nat_same c d (and_first _ _ h) in
    let q = numbers.exact f g (and_second (nat_eq c d) _ h) in
    λ i. Contains (p i) (q i)
kind_exact (Container c f) (Container d g) h =
    let p = nat_same c d (and_first _ _ h) in
    let q = nat_same f g (and_second (nat_eq c d) _ h) in
    λ i. Container (p i) (q i)
kind_exact Skip Skip h = refl
kind_exact k l h = absurd (never h)

kind_own : (k : Kind) → kind_eq k k ≡ true
kind_own (Attr s default) = and_both _ _ (scalar_own s) (values.own default)
kind_own (AttrMany s unique) = and_both _ _ (scalar_own s) (flag_own unique)
kind_own (Bounded c f) = and_both _ _ (nat_itself c) (numbers.own f)
kind_own (Free c f) = and_both _ _ (nat_itself c) (numbers.own f)
kind_own (Contains c f) = and_both _ _ (nat_itself c) (numbers.own f)
kind_own (Container c f) = and_both _ _ (nat_itself c) (nat_itself f)
kind_own Skip = refl

feature_exact : (x y : Feature) → feature_eq x y ≡ true → x ≡ y
feature_exact x y h =
    let a = and_first _ _ h in
    let b = and_first _ _ a in
    let c = and_first _ _ b in
    let owner = nat_same x.owner y.owner (and_first _ _ c) in
    let name = same x.name y.name (and_second (nat_eq x.owner y.owner) _ c) in
    let lower = nat_same x.lower y.lower (and_second (nat_eq x.owner y.owner && bytes_eq x.name y.name) _ b) in
    let upper = numbers.exact x.upper y.upper (and_second (nat_eq x.owner y.owner && bytes_eq x.name y.name && nat_eq x.lower y.lower) _ a) in
    let kind = kind_exact x.kind y.kind
    (and_second (nat_eq x.owner y.owner && bytes_eq x.name y.name && nat_eq x.lower y.lower && option_eq nat_eq x.upper y.upper) _ h) in
    λ i. record { owner = owner i; name = name i; lower = lower i; upper = upper i; kind = kind i }

feature_own : (x : Feature) → feature_eq x x ≡ true
feature_own x = and_both _ _ (and_both _ _ (and_both _ _ (and_both _ _ (nat_itself x.owner) (itself x.name)) (nat_itself x.lower))
    (numbers.own x.upper)) (kind_own x.kind)

literal_exact : (l m : EnumLiteral) → literal_eq l m ≡ true → l ≡ m
literal_exact l m h =
    let name = same l.name m.name (and_first _ _ h) in
    let text = same l.text m.text (and_second (bytes_eq l.name m.name) _ h) in
    λ i. record { name = name i; text = text i }

features_equality : IsEquality (option_eq feature_eq)
features_equality = option_equality feature_eq (record { exact = feature_exact; own = feature_own })

literals_equality : IsEquality (list_eq literal_eq)
literals_equality = list_equality literal_eq (record { exact = literal_exact; own = λ l. and_both _ _ (itself l.name) (itself l.text) })

above_equality : IsEquality (option_eq (list_eq nat_eq))
above_equality = option_equality (list_eq nat_eq) (list_equality nat_eq nat_equality)

-- ---- numbers below a bound
below_from : (test : ℕ → Bool) (a n k : ℕ) → list_all test (range_with_len a n) ≡ true → a ≤ k → k < a + n → test k ≡ true
below_from test a zero k h le lt = absurd (omega arith)
below_from test a (suc n) k h le lt = by_number (nat_eq k a) refl (λ low. below_from test (a + 1) n k (and_second (test a) _ h) low (omega arith))
  where
    low : (k a : ℕ) → a ≤ k → (k ≡ a → ⊥) → a + 1 ≤ k
    low k a le f = omega (arith, le, f)

    by_number : (b : Bool) → nat_eq k a ≡ b → (a + 1 ≤ k → test k ≡ true) → test k ≡ true
    by_number true e more = ap test (nat_same k a e) ∙ and_first _ _ h
    by_number false e more = more (low k a le (λ s. never (sym e ∙ ap (λ z. nat_eq z a) s ∙ nat_itself a)))

below : (test : ℕ → Bool) (n k : ℕ) → all_below test n ≡ true → k < n → test k ≡ true
below test n k h lt = below_from test 0 n k h (omega arith) (omega arith)

each_below : (test : ℕ → Bool) (a n : ℕ) → ((k : ℕ) → test k ≡ true) → list_all test (range_with_len a n) ≡ true
each_below test a zero h = refl
each_below test a (suc n) h = and_both _ _ (h a) (each_below test (a + 1) n h)

-- lists that have the same at each place are one
same_places : {X : Type 0} (xs ys : List X) → length xs ≡ length ys → ((k : ℕ) → k < length xs → slice_get xs k ≡ slice_get ys k) → xs ≡ ys
same_places [] [] long h = refl
same_places [] (y ∷ ys) long h = absurd (omega (arith, long))
same_places (x ∷ xs) [] long h = absurd (omega (arith, long))
same_places (x ∷ xs) (y ∷ ys) long h =
    let head = same_some x y (h 0 (omega arith)) in
    let tail = same_places xs ys (omega (arith, long)) (λ k lt. h (suc k) (omega (arith, lt))) in
    λ i. head i ∷ tail i

module _ (a b : Meta) (is_a_meta : IsMetamodel a) (is_b_meta : IsMetamodel b) where
  module _ (uri : a.uri ≡ b.uri) (many : length a.classes ≡ length b.classes) (classes : (c : ℕ) → c < length a.classes
      → class_alike a b c ≡ true) (many_enums : length a.enums ≡ length b.enums) (enums : (e : ℕ) → e < length a.enums
      → enum_alike a b e ≡ true) (many_features : length a.features ≡ length b.features) (features : (f : ℕ) → f < length a.features
      → feature_alike a b f ≡ true) where
    features_are : a.features ≡ b.features
    features_are = same_places a.features b.features many_features
        (λ f lt. features_equality.exact (slice_get a.features f) (slice_get b.features f) (features f lt))

    above_are : a.above ≡ b.above
    above_are = same_places a.above b.above (omega (arith, many, is_a_meta.above.many, is_b_meta.above.many)) (λ c lt.
        above_equality.exact (slice_get a.above c) (slice_get b.above c)
        (and_second (bytes_eq (class_name a c) (class_name b c) && flag_eq (is_abstract a c) (is_abstract b c)) _
        (classes c (omega (arith, lt, is_a_meta.above.many)))))

    declared_are : (c : ℕ) → features_of a c ≡ features_of b c
    declared_are c =
        is_a_meta.lists c
        ∙ (λ i. filter (λ f. option_map_or (λ (x : Feature). option_map_or (list_any (nat_eq x.owner)) (slice_get (above_are i) c) false)
        (slice_get (features_are i) f) false) (range_with_len 0 (length (features_are i))))
        ∙ sym (is_b_meta.lists c)

    class_is : (c : ℕ) → c < length a.classes → slice_get a.classes c ≡ slice_get b.classes c
    class_is c lt =
        let x = there_is a.classes c lt in
        let y = there_is b.classes c (omega (arith, lt, many)) in
        let alike = and_first _ _ (classes c lt) in
        let name : x.0.name ≡ y.0.name = sym (ap (λ o. option_map_or (λ (k : Class). k.name) o []) x.1)
        ∙ same (class_name a c) (class_name b c) (and_first _ _ alike) ∙ ap (λ o. option_map_or (λ (k : Class). k.name) o []) y.1 in
        let flag : x.0.is_abstract ≡ y.0.is_abstract = sym (ap (λ o. option_map_or (λ (k : Class). k.is_abstract) o false) x.1)
        ∙ flag_exact (is_abstract a c) (is_abstract b c) (and_second (bytes_eq (class_name a c) (class_name b c)) _ alike)
        ∙ ap (λ o. option_map_or (λ (k : Class). k.is_abstract) o false) y.1 in
        let has : x.0.features ≡ y.0.features = sym (ap (λ o. option_map_or (λ (k : Class). k.features) o []) x.1) ∙ declared_are c
        ∙ ap (λ o. option_map_or (λ (k : Class). k.features) o []) y.1 in
        x.1 ∙ (λ i. Some (record { name = name i; is_abstract = flag i; features = has i })) ∙ sym y.1

    enum_is : (e : ℕ) → e < length a.enums → slice_get a.enums e ≡ slice_get b.enums e
    enum_is e lt =
        let x = there_is a.enums e lt in
        let y = there_is b.enums e (omega (arith, lt, many_enums)) in
        let name : x.0.name ≡ y.0.name = sym (ap (λ o. option_map_or (λ (k : Enum). k.name) o []) x.1)
        ∙ same (enum_name a e) (enum_name b e) (and_first _ _ (enums e lt)) ∙ ap (λ o. option_map_or (λ (k : Enum). k.name) o []) y.1 in
        let has : x.0.literals ≡ y.0.literals = sym (ap (λ o. option_map_or (λ (k : Enum). k.literals) o []) x.1)
        ∙ literals_equality.exact (literals_of a e) (literals_of b e)
        (and_second (bytes_eq (enum_name a e) (enum_name b e)) _ (enums e lt))
        ∙ ap (λ o. option_map_or (λ (k : Enum). k.literals) o []) y.1 in
        x.1 ∙ (λ i. Some (record { name = name i; literals = has i })) ∙ sym y.1

    metas_are : a ≡ b
    metas_are =
        let cs = same_places a.classes b.classes many class_is in
        let es = same_places a.enums b.enums many_enums enum_is in
        λ i. record { uri = uri i; classes = cs i; above = above_are i; features = features_are i; enums = es i }

  forth : is_same a b ≡ true → a ≡ b
  unfolding is_same
  forth h =
      let one = and_first _ _ h in
      let two = and_first _ _ one in
      let f = and_second (bytes_eq a.uri b.uri
      && (nat_eq (length a.classes) (length b.classes) && all_below (class_alike a b) (length a.classes))
      && (nat_eq (length a.enums) (length b.enums) && all_below (enum_alike a b) (length a.enums))) _ h in
      let e = and_second (bytes_eq a.uri b.uri && (nat_eq (length a.classes) (length b.classes) && all_below (class_alike a b) (length a.classes))) _ one in
      let c = and_second (bytes_eq a.uri b.uri) _ two in
      metas_are (same a.uri b.uri (and_first _ _ two))
      (nat_same (length a.classes) (length b.classes) (and_first _ _ c))
      (λ k lt. below (class_alike a b) (length a.classes) k (and_second (nat_eq (length a.classes) (length b.classes)) _ c) lt)
      (nat_same (length a.enums) (length b.enums) (and_first _ _ e))
      (λ k lt. below (enum_alike a b) (length a.enums) k (and_second (nat_eq (length a.enums) (length b.enums)) _ e) lt)
      (nat_same (length a.features) (length b.features) (and_first _ _ f))
      (λ k lt. below (feature_alike a b) (length a.features) k (and_second (nat_eq (length a.features) (length b.features)) _ f) lt)

-- a metamodel is the same as itself
pub own : (a : Meta) → is_same a a ≡ true
unfolding is_same
own a =
    and_both _ _ (and_both _ _ (and_both _ _ (itself a.uri)
    (and_both _ _ (nat_itself (length a.classes))
    (each_below (class_alike a a) 0 (length a.classes)
    (λ c. and_both _ _ (and_both _ _ (itself (class_name a c)) (flag_own (is_abstract a c)))
    (above_equality.own (slice_get a.above c))))))
    (and_both _ _ (nat_itself (length a.enums))
    (each_below (enum_alike a a) 0 (length a.enums)
    (λ e. and_both _ _ (itself (enum_name a e)) (literals_equality.own (literals_of a e))))))
    (and_both _ _ (nat_itself (length a.features)) (each_below (feature_alike a a) 0 (length a.features) (λ f. features_equality.own (slice_get a.features f))))

pub same_is_equal : SameIsEqual
same_is_equal a b is_a_meta is_b_meta = (forth a b is_a_meta is_b_meta, λ e. subst (λ m. is_same a m ≡ true) e (own a))

-- ---- as the code finds it
-- a list that begins another and is as long is it
pub literals_are : (ls ms : List EnumLiteral) → list_eq literal_eq ls ms ≡ begins ls ms && nat_eq (length ls) (length ms)
literals_are [] [] = refl
literals_are [] (m ∷ ms) = other (length ms)
  where
    other : (n : ℕ) → false ≡ nat_eq 0 (suc n)
    other n = grind (arith, nat_tests)
literals_are (l ∷ ls) [] = refl
literals_are (l ∷ ls) (m ∷ ms) = by_first (literal_eq l m) (list_eq literal_eq ls ms) (begins ls ms) (length ls) (length ms) (literals_are ls ms)
  where
    up : (a b : ℕ) → nat_eq a b ≡ nat_eq (suc a) (suc b)
    up a b = grind (arith, nat_tests)

    by_first : (x p q : Bool) (a b : ℕ) → p ≡ q && nat_eq a b → x && p ≡ x && q && nat_eq (suc a) (suc b)
    by_first true p q a b h = h ∙ ap (λ r. q && r) (up a b)
    by_first false p q a b h = refl

pub all_true : (test : ℕ → Bool) (n c : ℕ) → ((k : ℕ) → k < c → test k ≡ true) → n ≤ c → true ≡ all_below test n
all_true test n c h le = sym (from 0 n (λ k less. h k (omega (arith, less, le))))
  where
    from : (a m : ℕ) → ((k : ℕ) → k < a + m → test k ≡ true) → list_all test (range_with_len a m) ≡ true
    from a zero g = refl
    from a (suc m) g = and_both _ _ (g a (omega arith)) (from (a + 1) m (λ k less. g k (omega (arith, less))))

pub one_false : (test : ℕ → Bool) (n c : ℕ) → c < n → test c ≡ false → false ≡ all_below test n
one_false test n c lt h = by_test (all_below test n) refl
  where
    by_test : (b : Bool) → all_below test n ≡ b → false ≡ all_below test n
    by_test true e = absurd (never (sym h ∙ below test n c e lt))
    by_test false e = sym e
