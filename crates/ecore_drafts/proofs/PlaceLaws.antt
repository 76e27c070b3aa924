-- Where no name stands twice, the numbers that an index counts are places among the classes, the enums and the features.
use Rattle.std.proofs.Common.{◌≡◌, ℕ, suc, ◌+◌, Bool, true, false, cond, List, [], ◌∷◌, ◌++◌, ◌&&◌, ◌||◌, refl, sym, ap, subst, ◌∙◌, arith, length, map}
use Rattle.std.specs.Prelude.{Option, None, Some, slice_get}
use Rattle.std.specs.List.{enumerate_from, flat_map, list_any, position_from}
use Rattle.std.specs.Option.{option_map, option_map_or, option_and_then}
use Rattle.std.specs.Str.{bytes_eq}
use Rattle.std.proofs.lemmas.Bool.{or_parts}
use Rattle.std.proofs.lemmas.Iterator.Adapters.{position_from-zero}
use Rattle.ecore_meta.specs.Names.{Name, has_repeat, number_of}
use Rattle.ecore_meta.specs.declared.meta.Scalar.TheVariants.{Text, Literal}
use Rattle.ecore_meta.proofs.NameLaws.{same}
use Rattle.ecore_drafts.specs.Classifiers.{class_in, classifier_named, number_at, number_in, numbered, scalar_in}
use Rattle.ecore_drafts.specs.Document.{ClassifierRows, class_number, classes_of, classifier_name, data_types_of, enum_number, enums_of}
use Rattle.ecore_drafts.specs.Document.{feature_names, feature_number, feature_pairs, has_none, is_data_type, is_empty_at, is_pair}
use Rattle.ecore_drafts.specs.Drafts.{draft, drafts, drafts_of, own_scalar}
use Rattle.ecore_drafts.specs.declared.classifiers.Classifier.{Classifier}
use Rattle.ecore_drafts.specs.declared.classifiers.Classifier.TheVariants.{Class as OfClass, Enum as OfEnum, Plain as OfPlain}
use Rattle.ecore_drafts.specs.declared.drafts.FeatureDraft.{FeatureDraft}
use Rattle.ecore_drafts.specs.declared.drafts.Target.{Target}
use Rattle.ecore_drafts.specs.declared.drafts.Target.TheVariants.{Missing, Values}
use Rattle.ecore_drafts.specs.declared.rows.ClassifierRow.{ClassifierRow}
use Rattle.ecore_drafts.specs.declared.rows.ClassifierRow.TheVariants.{Class, Enum, Plain}
use Rattle.ecore_drafts.specs.declared.rows.ClassRow.{ClassRow}
use Rattle.ecore_drafts.specs.declared.rows.EnumRow.{EnumRow}
use Rattle.ecore_drafts.specs.declared.rows.FeatureRow.{FeatureRow}

-- the names of the rows
abbrev pub names : ClassifierRows → List Name
names rows = map classifier_name rows

-- a name that no row has is none of its kind
module _ (q : Name) where
  no_class : (rows : ClassifierRows) → list_any (bytes_eq q) (names rows) ≡ false → number_of q (map (λ (c : ClassRow). c.name) (classes_of rows)) ≡ None
  no_class [] h = refl
  no_class (Class c ∷ rows) h =
      let parts = or_parts (bytes_eq q c.name) (list_any (bytes_eq q) (names rows)) h in
      let rest = number_of q (map (λ (c : ClassRow). c.name) (classes_of rows)) in
      ap (λ b. cond b (Some 0) (option_map (λ n. suc n) rest)) parts.0 ∙ ap (λ o. option_map (λ n. suc n) o) (no_class rows parts.1)
  no_class (Enum e ∷ rows) h = no_class rows (or_parts (bytes_eq q e.name) (list_any (bytes_eq q) (names rows)) h).1
  no_class (Plain t ∷ rows) h = no_class rows (or_parts (bytes_eq q t) (list_any (bytes_eq q) (names rows)) h).1

  no_enum : (rows : ClassifierRows) → list_any (bytes_eq q) (names rows) ≡ false → number_of q (map (λ (e : EnumRow). e.name) (enums_of rows)) ≡ None
  no_enum [] h = refl
  no_enum (Enum e ∷ rows) h =
      let parts = or_parts (bytes_eq q e.name) (list_any (bytes_eq q) (names rows)) h in
      let rest = number_of q (map (λ (e : EnumRow). e.name) (enums_of rows)) in
      ap (λ b. cond b (Some 0) (option_map (λ n. suc n) rest)) parts.0 ∙ ap (λ o. option_map (λ n. suc n) o) (no_enum rows parts.1)
  no_enum (Class c ∷ rows) h = no_enum rows (or_parts (bytes_eq q c.name) (list_any (bytes_eq q) (names rows)) h).1
  no_enum (Plain t ∷ rows) h = no_enum rows (or_parts (bytes_eq q t) (list_any (bytes_eq q) (names rows)) h).1

  no_data_type : (rows : ClassifierRows) → list_any (bytes_eq q) (names rows) ≡ false → list_any (bytes_eq q) (data_types_of rows) ≡ false
  no_data_type [] h = refl
  no_data_type (Plain t ∷ rows) h =
      let parts = or_parts (bytes_eq q t) (list_any (bytes_eq q) (names rows)) h in
      ap (λ b. b || list_any (bytes_eq q) (data_types_of rows)) parts.0 ∙ no_data_type rows parts.1
  no_data_type (Class c ∷ rows) h = no_data_type rows (or_parts (bytes_eq q c.name) (list_any (bytes_eq q) (names rows)) h).1
  no_data_type (Enum e ∷ rows) h = no_data_type rows (or_parts (bytes_eq q e.name) (list_any (bytes_eq q) (names rows)) h).1

-- a name that is that of the first row is none of the others
others : (q x : Name) (rows : ClassifierRows) → bytes_eq q x ≡ true → list_any (bytes_eq x) (names rows) ≡ false → list_any (bytes_eq q) (names rows) ≡ false
others q x rows e h = subst (λ y. list_any (bytes_eq y) (names rows) ≡ false) (sym (same q x e)) h

-- ---- classes
module _ (q : Name) where
  abbrev counted : ℕ → ℕ → ℕ → ClassifierRows → Option ℕ → Option Classifier
  counted c f e rows o = option_and_then (λ p. slice_get (numbered c f e rows) p) o

  later : (k : Classifier) (ks : List Classifier) (o : Option ℕ)
      → option_and_then (λ p. slice_get (k ∷ ks) p) (option_map (λ n. suc n) o) ≡ option_and_then (λ p. slice_get ks p) o
  later k ks None = refl
  later k ks (Some n) = refl

  shifted : (c : ℕ) (o : Option ℕ) → option_map (λ n. suc c + n) o ≡ option_map (λ n. c + n) (option_map (λ n. suc n) o)
  shifted c None = refl
  shifted c (Some n) = ap (λ (k : ℕ). Some k) (plus c n)
    where
      plus : (c n : ℕ) → suc c + n ≡ c + suc n
      plus c n = omega arith

  class_counted : (c f e : ℕ) (rows : ClassifierRows) → has_repeat (names rows) ≡ false
      → class_in (counted c f e rows (number_of q (names rows))) ≡ option_map (λ n. c + n)
      (number_of q (map (λ (c : ClassRow). c.name) (classes_of rows)))
  class_counted c f e [] h = refl
  class_counted c f e (Class r ∷ rows) h =
      by_test (bytes_eq q r.name) refl
      (class_counted (suc c) (f + length r.features) e rows (or_parts (list_any (bytes_eq r.name) (names rows)) (has_repeat (names rows)) h).1)
    where
      apart : (list_any (bytes_eq r.name) (names rows) ≡ false) × (has_repeat (names rows) ≡ false)
      apart = or_parts (list_any (bytes_eq r.name) (names rows)) (has_repeat (names rows)) h

      zero_more : (c : ℕ) → c ≡ c + 0
      zero_more c = omega arith

      by_test : (b : Bool) → bytes_eq q r.name ≡ b
          → class_in (counted (suc c) (f + length r.features) e rows (number_of q (names rows))) ≡ option_map (λ n. (suc c) + n)
          (number_of q (map (λ (c : ClassRow). c.name) (classes_of rows)))
          → class_in (counted c f e (Class r ∷ rows) (cond b (Some 0) (option_map (λ n. suc n) (number_of q (names rows))))) ≡ option_map (λ n. c + n)
          (cond b (Some 0) (option_map (λ n. suc n) (number_of q (map (λ (c : ClassRow). c.name) (classes_of rows)))))
      by_test true t more = ap (λ (k : ℕ). Some k) (zero_more c)
      by_test false t more = ap class_in (later _ _ (number_of q (names rows))) ∙ more ∙ shifted c _
  class_counted c f e (Enum r ∷ rows) h =
      by_test (bytes_eq q r.name) refl (class_counted c f (suc e) rows (or_parts (list_any (bytes_eq r.name) (names rows)) (has_repeat (names rows)) h).1)
    where
      apart : (list_any (bytes_eq r.name) (names rows) ≡ false) × (has_repeat (names rows) ≡ false)
      apart = or_parts (list_any (bytes_eq r.name) (names rows)) (has_repeat (names rows)) h

      by_test : (b : Bool) → bytes_eq q r.name ≡ b
          → class_in (counted c f (suc e) rows (number_of q (names rows))) ≡ option_map (λ n. c + n)
          (number_of q (map (λ (c : ClassRow). c.name) (classes_of rows)))
          → class_in (counted c f e (Enum r ∷ rows) (cond b (Some 0) (option_map (λ n. suc n) (number_of q (names rows))))) ≡ option_map (λ n. c + n)
          (number_of q (map (λ (c : ClassRow). c.name) (classes_of rows)))
      by_test true t more = sym (ap (λ o. option_map (λ n. c + n) o) (no_class q rows (others q r.name rows t apart.0)))
      by_test false t more = ap class_in (later _ _ (number_of q (names rows))) ∙ more
  class_counted c f e (Plain r ∷ rows) h =
      by_test (bytes_eq q r) refl (class_counted c f e rows (or_parts (list_any (bytes_eq r) (names rows)) (has_repeat (names rows)) h).1)
    where
      apart : (list_any (bytes_eq r) (names rows) ≡ false) × (has_repeat (names rows) ≡ false)
      apart = or_parts (list_any (bytes_eq r) (names rows)) (has_repeat (names rows)) h

      by_test : (b : Bool) → bytes_eq q r ≡ b
          → class_in (counted c f e rows (number_of q (names rows))) ≡ option_map (λ n. c + n)
          (number_of q (map (λ (c : ClassRow). c.name) (classes_of rows)))
          → class_in (counted c f e (Plain r ∷ rows) (cond b (Some 0) (option_map (λ n. suc n) (number_of q (names rows))))) ≡ option_map (λ n. c + n)
          (number_of q (map (λ (c : ClassRow). c.name) (classes_of rows)))
      by_test true t more = sym (ap (λ o. option_map (λ n. c + n) o) (no_class q rows (others q r rows t apart.0)))
      by_test false t more = ap class_in (later _ _ (number_of q (names rows))) ∙ more

  -- ---- enums and data types
  -- an enum's literals as a type, its number counted from e on
  abbrev literals_from : ℕ → List EnumRow → ℕ → Target
  literals_from e enums n = cond (is_empty_at enums n) Missing (Values (Literal (e + n)))

  abbrev type_from : ℕ → ClassifierRows → Target
  type_from e rows = option_map_or (literals_from e (enums_of rows)) (number_of q (map (λ (e : EnumRow). e.name) (enums_of rows)))
      (cond (list_any (bytes_eq q) (data_types_of rows)) (Values Text) Missing)

  no_type : (e : ℕ) (rows : ClassifierRows) → list_any (bytes_eq q) (names rows) ≡ false → type_from e rows ≡ Missing
  no_type e rows h =
      ap (λ o. option_map_or (literals_from e (enums_of rows)) o (cond (list_any (bytes_eq q) (data_types_of rows)) (Values Text) Missing)) (no_enum q rows h)
      ∙ ap (λ b. cond b (Values Text) Missing) (no_data_type q rows h)

  next_enum : (e : ℕ) (r : EnumRow) (es : List EnumRow) (o : Option ℕ) (d : Target)
      → option_map_or (literals_from (suc e) es) o d ≡ option_map_or (literals_from e (r ∷ es)) (option_map (λ n. suc n) o) d
  next_enum e r es None d = refl
  next_enum e r es (Some n) d = ap (λ k. cond (is_empty_at es n) Missing (Values (Literal k))) (plus e n)
    where
      plus : (e n : ℕ) → suc e + n ≡ e + suc n
      plus e n = omega arith

  type_counted : (c f e : ℕ) (rows : ClassifierRows) → has_repeat (names rows) ≡ false
      → scalar_in (counted c f e rows (number_of q (names rows))) ≡ type_from e rows
  type_counted c f e [] h = refl
  type_counted c f e (Class r ∷ rows) h =
      by_test (bytes_eq q r.name) refl
      (type_counted (suc c) (f + length r.features) e rows (or_parts (list_any (bytes_eq r.name) (names rows)) (has_repeat (names rows)) h).1)
    where
      apart : (list_any (bytes_eq r.name) (names rows) ≡ false) × (has_repeat (names rows) ≡ false)
      apart = or_parts (list_any (bytes_eq r.name) (names rows)) (has_repeat (names rows)) h

      by_test : (b : Bool) → bytes_eq q r.name ≡ b
          → scalar_in (counted (suc c) (f + length r.features) e rows (number_of q (names rows))) ≡ type_from e rows
          → scalar_in (counted c f e (Class r ∷ rows) (cond b (Some 0) (option_map (λ n. suc n) (number_of q (names rows))))) ≡ type_from e rows
      by_test true t more = sym (no_type e rows (others q r.name rows t apart.0))
      by_test false t more = ap scalar_in (later _ _ (number_of q (names rows))) ∙ more
  type_counted c f e (Enum r ∷ rows) h =
      by_test (bytes_eq q r.name) refl (type_counted c f (suc e) rows (or_parts (list_any (bytes_eq r.name) (names rows)) (has_repeat (names rows)) h).1)
    where
      apart : (list_any (bytes_eq r.name) (names rows) ≡ false) × (has_repeat (names rows) ≡ false)
      apart = or_parts (list_any (bytes_eq r.name) (names rows)) (has_repeat (names rows)) h

      zero_more : (e : ℕ) → e ≡ e + 0
      zero_more e = omega arith

      by_test : (b : Bool) → bytes_eq q r.name ≡ b → scalar_in (counted c f (suc e) rows (number_of q (names rows))) ≡ type_from (suc e) rows
          → scalar_in (counted c f e (Enum r ∷ rows) (cond b (Some 0) (option_map (λ n. suc n) (number_of q (names rows))))) ≡ option_map_or
          (literals_from e (r ∷ enums_of rows))
          (cond b (Some 0) (option_map (λ n. suc n) (number_of q (map (λ (e : EnumRow). e.name) (enums_of rows)))))
          (cond (list_any (bytes_eq q) (data_types_of rows)) (Values Text) Missing)
      by_test true t more = ap (λ k. cond (has_none r.literals) Missing (Values (Literal k))) (zero_more e)
      by_test false t more =
          ap scalar_in (later _ _ (number_of q (names rows))) ∙ more
          ∙ next_enum e r (enums_of rows) (number_of q (map (λ (e : EnumRow). e.name) (enums_of rows)))
          (cond (list_any (bytes_eq q) (data_types_of rows)) (Values Text) Missing)
  type_counted c f e (Plain r ∷ rows) h =
      by_test (bytes_eq q r) refl (type_counted c f e rows (or_parts (list_any (bytes_eq r) (names rows)) (has_repeat (names rows)) h).1)
    where
      apart : (list_any (bytes_eq r) (names rows) ≡ false) × (has_repeat (names rows) ≡ false)
      apart = or_parts (list_any (bytes_eq r) (names rows)) (has_repeat (names rows)) h

      by_test : (b : Bool) → bytes_eq q r ≡ b → scalar_in (counted c f e rows (number_of q (names rows))) ≡ type_from e rows
          → scalar_in (counted c f e (Plain r ∷ rows) (cond b (Some 0) (option_map (λ n. suc n) (number_of q (names rows))))) ≡ option_map_or
          (literals_from e (enums_of rows)) (number_of q (map (λ (e : EnumRow). e.name) (enums_of rows)))
          (cond (b || list_any (bytes_eq q) (data_types_of rows)) (Values Text) Missing)
      by_test true t more = sym (ap (λ o. option_map_or (literals_from e (enums_of rows)) o (Values Text)) (no_enum q rows (others q r rows t apart.0)))
      by_test false t more = ap scalar_in (later _ _ (number_of q (names rows))) ∙ more

pub class_is : (rows : ClassifierRows) (q : Name) → has_repeat (names rows) ≡ false → class_in (classifier_named rows q) ≡ class_number rows q
unfolding classifier_named class_number
class_is rows q h = class_counted q 0 0 0 rows h ∙ none_less (number_of q (map (λ (c : ClassRow). c.name) (classes_of rows)))
  where
    plus : (n : ℕ) → 0 + n ≡ n
    plus n = omega arith

    none_less : (o : Option ℕ) → option_map (λ n. 0 + n) o ≡ o
    none_less None = refl
    none_less (Some n) = ap (λ (k : ℕ). Some k) (plus n)

pub scalar_is : (rows : ClassifierRows) (q : Name) → has_repeat (names rows) ≡ false → scalar_in (classifier_named rows q) ≡ own_scalar rows q
unfolding classifier_named enum_number is_data_type
scalar_is rows q h = type_counted q 0 0 0 rows h ∙ none_less (number_of q (map (λ (e : EnumRow). e.name) (enums_of rows)))
  where
    plus : (n : ℕ) → 0 + n ≡ n
    plus n = omega arith

    none_less : (o : Option ℕ)
        → option_map_or (λ n. cond (is_empty_at (enums_of rows) n) Missing (Values (Literal (0 + n)))) o
        (cond (list_any (bytes_eq q) (data_types_of rows)) (Values Text) Missing) ≡ option_map_or
        (λ n. cond (is_empty_at (enums_of rows) n) Missing (Values (Literal n))) o
        (cond (list_any (bytes_eq q) (data_types_of rows)) (Values Text) Missing)
    none_less None = refl
    none_less (Some n) = ap (λ k. cond (is_empty_at (enums_of rows) n) Missing (Values (Literal k))) (plus n)

-- ---- features
module _ (class feature : Name) where
  -- where the pair stands among the features of a class of that name and the pairs after them, counted from i on
  abbrev place_among : Name → List FeatureRow → ℕ → List (Name × Name) → Option ℕ
  place_among name fs i ks = position_from (is_pair class feature) i (map (λ (f : FeatureRow). (name, f.name)) fs ++ ks)

  -- no feature of a class of another name
  missed : (name : Name) (fs : List FeatureRow) (i : ℕ) (ks : List (Name × Name)) → bytes_eq class name ≡ false
      → place_among name fs i ks ≡ position_from (is_pair class feature) (i + length fs) ks
  missed name [] i ks h = ap (λ j. position_from (is_pair class feature) j ks) (zero_more i)
    where
      zero_more : (i : ℕ) → i ≡ i + 0
      zero_more i = omega arith
  missed name (f ∷ fs) i ks h =
      ap (λ b. cond (b && bytes_eq feature f.name) (Some i) (place_among name fs (i + 1) ks)) h
      ∙ missed name fs (i + 1) ks h ∙ ap (λ j. position_from (is_pair class feature) j ks) (shift i (length fs))
    where
      shift : (i n : ℕ) → i + 1 + n ≡ i + suc n
      shift i n = omega arith

  no_feature : (rows : ClassifierRows) (i : ℕ) → list_any (bytes_eq class) (names rows) ≡ false
      → position_from (is_pair class feature) i (flat_map feature_pairs (classes_of rows)) ≡ None
  no_feature [] i h = refl
  no_feature (Class c ∷ rows) i h =
      let parts = or_parts (bytes_eq class c.name) (list_any (bytes_eq class) (names rows)) h in
      missed c.name c.features i (flat_map feature_pairs (classes_of rows)) parts.0 ∙ no_feature rows (i + length c.features) parts.1
  no_feature (Enum e ∷ rows) i h = no_feature rows i (or_parts (bytes_eq class e.name) (list_any (bytes_eq class) (names rows)) h).1
  no_feature (Plain t ∷ rows) i h = no_feature rows i (or_parts (bytes_eq class t) (list_any (bytes_eq class) (names rows)) h).1

  -- a feature of the class of that name, where no later one has the name
  found : (name : Name) (fs : List FeatureRow) (i : ℕ) (ks : List (Name × Name)) → bytes_eq class name ≡ true
      → ((j : ℕ) → position_from (is_pair class feature) j ks ≡ None)
      → place_among name fs i ks ≡ option_map (λ k. i + k) (number_of feature (feature_names fs))
  found name [] i ks h none = none i
  found name (f ∷ fs) i ks h none =
      ap (λ b. cond (b && bytes_eq feature f.name) (Some i) (place_among name fs (i + 1) ks)) h
      ∙ by_test (bytes_eq feature f.name) (found name fs (i + 1) ks h none)
    where
      zero_more : (i : ℕ) → i ≡ i + 0
      zero_more i = omega arith

      plus : (i n : ℕ) → i + 1 + n ≡ i + suc n
      plus i n = omega arith

      shifted : (o : Option ℕ) → option_map (λ k. i + 1 + k) o ≡ option_map (λ k. i + k) (option_map (λ n. suc n) o)
      shifted None = refl
      shifted (Some n) = ap (λ (k : ℕ). Some k) (plus i n)

      by_test : (b : Bool) → place_among name fs (i + 1) ks ≡ option_map (λ k. i + 1 + k) (number_of feature (feature_names fs))
          → cond b (Some i) (place_among name fs (i + 1) ks)
          ≡ option_map (λ k. i + k) (cond b (Some 0) (option_map (λ n. suc n) (number_of feature (feature_names fs))))
      by_test true more = ap (λ (k : ℕ). Some k) (zero_more i)
      by_test false more = more ∙ shifted (number_of feature (feature_names fs))

  abbrev number_after : ℕ → ℕ → ℕ → ClassifierRows → Option ℕ → Option ℕ
  number_after c f e rows o = option_and_then (λ p. number_in (slice_get rows p) (slice_get (numbered c f e rows) p) feature) o

  next_row : (c f e d g h : ℕ) (row : ClassifierRow) (k : Classifier) (rows : ClassifierRows) (o : Option ℕ)
      → numbered c f e (row ∷ rows) ≡ k ∷ numbered d g h rows → number_after c f e (row ∷ rows) (option_map (λ n. suc n) o) ≡ number_after d g h rows o
  next_row c f e d g h row k rows None is = refl
  next_row c f e d g h row k rows (Some n) is = ap (λ ks. number_in (slice_get rows n) (slice_get ks (suc n)) feature) is

  feature_counted : (c f e : ℕ) (rows : ClassifierRows) → has_repeat (names rows) ≡ false
      → number_after c f e rows (number_of class (names rows)) ≡ position_from (is_pair class feature) f (flat_map feature_pairs (classes_of rows))
  feature_counted c f e [] h = refl
  feature_counted c f e (Class r ∷ rows) h =
      by_test (bytes_eq class r.name) refl
      (feature_counted (suc c) (f + length r.features) e rows (or_parts (list_any (bytes_eq r.name) (names rows)) (has_repeat (names rows)) h).1)
    where
      apart : (list_any (bytes_eq r.name) (names rows) ≡ false) × (has_repeat (names rows) ≡ false)
      apart = or_parts (list_any (bytes_eq r.name) (names rows)) (has_repeat (names rows)) h

      by_test : (b : Bool) → bytes_eq class r.name ≡ b
          → number_after (suc c) (f + length r.features) e rows (number_of class (names rows)) ≡ position_from (is_pair class feature)
          (f + length r.features) (flat_map feature_pairs (classes_of rows))
          → number_after c f e (Class r ∷ rows) (cond b (Some 0) (option_map (λ n. suc n) (number_of class (names rows)))) ≡ position_from
          (is_pair class feature) f (flat_map feature_pairs (classes_of (Class r ∷ rows)))
      by_test true t more = sym
          (found r.name r.features f (flat_map feature_pairs (classes_of rows)) t (λ j. no_feature rows j (others class r.name rows t apart.0)))
      by_test false t more =
          next_row c f e (suc c) (f + length r.features) e (Class r) (OfClass c f) rows (number_of class (names rows)) refl
          ∙ more ∙ sym (missed r.name r.features f (flat_map feature_pairs (classes_of rows)) t)
  feature_counted c f e (Enum r ∷ rows) h =
      by_test (bytes_eq class r.name) refl
      (feature_counted c f (suc e) rows (or_parts (list_any (bytes_eq r.name) (names rows)) (has_repeat (names rows)) h).1)
    where
      apart : (list_any (bytes_eq r.name) (names rows) ≡ false) × (has_repeat (names rows) ≡ false)
      apart = or_parts (list_any (bytes_eq r.name) (names rows)) (has_repeat (names rows)) h

      by_test : (b : Bool) → bytes_eq class r.name ≡ b
          → number_after c f (suc e) rows (number_of class (names rows)) ≡ position_from (is_pair class feature) f
          (flat_map feature_pairs (classes_of rows))
          → number_after c f e (Enum r ∷ rows) (cond b (Some 0) (option_map (λ n. suc n) (number_of class (names rows)))) ≡ position_from
          (is_pair class feature) f (flat_map feature_pairs (classes_of rows))
      by_test true t more = sym (no_feature rows f (others class r.name rows t apart.0))
      by_test false t more =
          next_row c f e c f (suc e) (Enum r) (OfEnum e (has_none r.literals)) rows (number_of class (names rows)) refl
          ∙ more
  feature_counted c f e (Plain r ∷ rows) h =
      by_test (bytes_eq class r) refl (feature_counted c f e rows (or_parts (list_any (bytes_eq r) (names rows)) (has_repeat (names rows)) h).1)
    where
      apart : (list_any (bytes_eq r) (names rows) ≡ false) × (has_repeat (names rows) ≡ false)
      apart = or_parts (list_any (bytes_eq r) (names rows)) (has_repeat (names rows)) h

      by_test : (b : Bool) → bytes_eq class r ≡ b
          → number_after c f e rows (number_of class (names rows)) ≡ position_from (is_pair class feature) f
          (flat_map feature_pairs (classes_of rows))
          → number_after c f e (Plain r ∷ rows) (cond b (Some 0) (option_map (λ n. suc n) (number_of class (names rows)))) ≡ position_from
          (is_pair class feature) f (flat_map feature_pairs (classes_of rows))
      by_test true t more = sym (no_feature rows f (others class r rows t apart.0))
      by_test false t more =
          next_row c f e c f e (Plain r) OfPlain rows (number_of class (names rows)) refl
          ∙ more

pub feature_is : (rows : ClassifierRows) (class feature : Name) → has_repeat (names rows) ≡ false
    → option_and_then (λ p. number_at rows p feature) (number_of class (names rows)) ≡ feature_number rows class feature
unfolding feature_number
feature_is rows class feature h =
    feature_counted class feature 0 0 0 rows h ∙ sym (position_from-zero (is_pair class feature) (flat_map feature_pairs (classes_of rows)))

-- ---- the features of a document, counted from the first class on
abbrev pub drafts_from : ClassifierRows → ℕ → ClassifierRows → List FeatureDraft
drafts_from all n [] = []
drafts_from all n (Class c ∷ rows) = map (draft all n) c.features ++ drafts_from all (suc n) rows
drafts_from all n (Enum e ∷ rows) = drafts_from all n rows
drafts_from all n (Plain t ∷ rows) = drafts_from all n rows

drafts_are : (all : ClassifierRows) (n : ℕ) (rows : ClassifierRows) → flat_map (drafts_of all) (enumerate_from n (classes_of rows)) ≡ drafts_from all n rows
drafts_are all n [] = refl
drafts_are all n (Class c ∷ rows) =
    ap (λ k. map (draft all n) c.features ++ flat_map (drafts_of all) (enumerate_from k (classes_of rows))) (plus_one n)
    ∙ ap (λ ds. map (draft all n) c.features ++ ds) (drafts_are all (suc n) rows)
  where
    plus_one : (n : ℕ) → n + 1 ≡ suc n
    plus_one n = omega arith
drafts_are all n (Enum e ∷ rows) = drafts_are all n rows
drafts_are all n (Plain t ∷ rows) = drafts_are all n rows

pub drafts_counted : (all : ClassifierRows) → drafts all ≡ drafts_from all 0 all
unfolding drafts
drafts_counted all = drafts_are all 0 all
