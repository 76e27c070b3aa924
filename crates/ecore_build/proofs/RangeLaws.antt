-- What the features of a metamodel name is there, where a document has no fault.
use Rattle.std.proofs.Common.{◌≡◌, ℕ, ℤ, pos, ◌<◌, Bool, true, false, cond, List, refl, sym, ap, subst, ◌∙◌, arith, length, map, codes, rules}
use Rattle.std.specs.Prelude.{negsuc, Option, None, Some, nat_lt, slice_get}
use Rattle.std.specs.List.{AllByRecursion}
use Rattle.std.specs.Option.{option_and_then, option_map, option_map_or}
use Rattle.std.specs.Ordering.{int_eq}
use Rattle.std.specs.Str.{bytes_eq}
use Rattle.std.proofs.lemmas.List.{length-map}
use Rattle.ecore_build.specs.Build.{container, default_in, end_number, feature_from, kind_in, meta_of, reference}
use Rattle.ecore_build.specs.Faults.{contains_back, enums_in, fault, features_of}
use Rattle.ecore_build.proofs.BoundLaws.{drafted}
use Rattle.ecore_build.proofs.BuildLaws.{all_drafts, classes_supers, filled_enum, number_below}
use Rattle.ecore_build.proofs.NoFault.{holds_at}
use Rattle.ecore_build.proofs.OwnerLaws.{owner_below}
use Rattle.ecore_build.proofs.SoundLaws.{got_of, kind_at}
use Rattle.ecore_drafts.specs.Document.{ClassifierRows, class_number, enum_number, enums_of, is_data_type, is_empty_at, supers_in}
use Rattle.ecore_drafts.specs.Drafts.{class_target, drafts, ecore_scalar, enum_target, own_scalar, target_of, value_target}
use Rattle.ecore_drafts.specs.declared.drafts.FeatureDraft.{FeatureDraft}
use Rattle.ecore_drafts.specs.declared.drafts.End.{End}
use Rattle.ecore_drafts.specs.declared.drafts.End.TheVariants.{Open, Nowhere, At}
use Rattle.ecore_drafts.specs.declared.drafts.Target.{Target}
use Rattle.ecore_drafts.specs.declared.drafts.Target.TheVariants.{Skipped, Unsupported, Missing, Elements, Values}
use Rattle.ecore_drafts.specs.declared.rows.FeatureRow.{FeatureRow}
use Rattle.ecore_drafts.specs.declared.rows.MetaRows.{MetaRows}
use Rattle.ecore_drafts.specs.declared.rows.TypeName.{TypeName}
use Rattle.ecore_drafts.specs.declared.rows.TypeName.TheVariants.{Own, Ecore}
use Rattle.ecore_meta.specs.Ends.{target_in}
use Rattle.ecore_meta.specs.Meta.{Meta}
use Rattle.ecore_meta.specs.Names.{Name, number_of}
use Rattle.ecore_meta.specs.Ranges.{IsInRange, scalar_in}
use Rattle.ecore_meta.specs.Typing.{fits, half_of, in_width, kind_of, literal_count, literals_at, literals_of}
use Rattle.ecore_meta.specs.Values.{default_of, literal_in, narrow, or_else, value_of, whole_of}
use Rattle.ecore_meta.specs.declared.meta.Enum.{Enum}
use Rattle.ecore_meta.specs.declared.meta.EnumLiteral.{EnumLiteral}
use Rattle.ecore_meta.specs.declared.meta.Feature.{Feature}
use Rattle.ecore_meta.specs.declared.meta.Kind.{Kind}
use Rattle.ecore_meta.specs.declared.meta.Kind.TheVariants.{Attr, AttrMany, Bounded, Free, Contains, Skip}
use Rattle.ecore_meta.specs.declared.meta.Scalar.{Scalar}
use Rattle.ecore_meta.specs.declared.meta.Scalar.TheVariants.{Text as TextType, Flag as FlagType, Byte, Short, Int, Long, Literal as LiteralType}
use Rattle.ecore_meta.specs.declared.meta.Value.{Value}
use Rattle.ecore_meta.specs.declared.meta.Value.TheVariants.{Text, Flag, Whole, Literal}
use Rattle.ecore_meta.proofs.NameLaws.{number_of-below}
use Rattle.ecore_drafts.proofs.PlaceLaws.{drafts_counted}

-- ---- what a draft's type names is there
-- a type's class is one of the document, and its enum has a literal
abbrev Known : ClassifierRows → Target → Type 0
Known all (Elements c) = c < length (supers_in all all)
Known all (Values (LiteralType e)) = 0 < length (literals_at (enums_in all) e)
Known all t = Unit {0}

picked : (P : Target → Type 0) (b : Bool) (x y : Target) → P x → P y → P (cond b x y)
picked P true x y p q = p
picked P false x y p q = q

known_ecore : (all : ClassifierRows) (t : Name) → Known all (ecore_scalar t)
known_ecore all t =
    by_tests (bytes_eq t (codes "EString")) (bytes_eq t (codes "EBoolean")) (bytes_eq t (codes "EByte")) (bytes_eq t (codes "EShort"))
    (bytes_eq t (codes "EInt")) (bytes_eq t (codes "ELong"))
  where
    by_tests : (a b c d e f : Bool)
        → Known all (cond a (Values TextType)
        (cond b (Values FlagType) (cond c (Values Byte) (cond d (Values Short) (cond e (Values Int) (cond f (Values Long) Unsupported))))))
    by_tests true b c d e f = tt
    by_tests false true c d e f = tt
    by_tests false false true d e f = tt
    by_tests false false false true e f = tt
    by_tests false false false false true f = tt
    by_tests false false false false false true = tt
    by_tests false false false false false false = tt

known_scalar : (all : ClassifierRows) (t : Name) → Known all (own_scalar all t)
known_scalar all t = by_number (enum_number all t)
  where
    by_literals : (e : ℕ) (b : Bool) → is_empty_at (enums_of all) e ≡ b → Known all (cond b Missing (Values (LiteralType e)))
    by_literals e true is = tt
    by_literals e false is = filled_enum (enums_of all) e is

    by_number : (o : Option ℕ) → Known all (option_map_or (enum_target (enums_of all)) o (cond (is_data_type all t) (Values TextType) Missing))
    by_number None = let P : Target → Type 0 = Known all in picked P (is_data_type all t) (Values TextType) Missing tt tt
    by_number (Some e) = by_literals e (is_empty_at (enums_of all) e) refl

known_class : (all : ClassifierRows) (t : Name) (o : Option ℕ) → class_number all t ≡ o → Known all (option_map_or (λ c. Elements c) o Missing)
known_class all t None is = tt
known_class all t (Some c) is = number_below all t c is

known_value : (all : ClassifierRows) (t : TypeName) → Known all (value_target all t)
known_value all (Own t) = known_scalar all t
known_value all (Ecore t) = known_ecore all t

known_target : (all : ClassifierRows) (t : TypeName) → Known all (class_target all t)
known_target all (Own t) = known_class all t (class_number all t) refl
known_target all (Ecore t) = tt

known : (all : ClassifierRows) (f : FeatureRow) → Known all (target_of all f)
known all f =
    picked (Known all) f.skipped Skipped (cond f.is_reference (class_target all f.target) (value_target all f.target)) tt
    (picked (Known all) f.is_reference (class_target all f.target) (value_target all f.target) (known_target all f.target) (known_value all f.target))

all_known : (all : ClassifierRows) (k : ℕ) (d : FeatureDraft) → slice_get (drafts all) k ≡ Some d → Known all d.target
all_known all k d is =
    holds_at (λ (d : FeatureDraft). Known all d.target) (drafts all)
    (subst (AllByRecursion (λ (d : FeatureDraft). Known all d.target)) (sym (drafts_counted all))
    (all_drafts (λ (d : FeatureDraft). Known all d.target) all (λ n f. known all f) 0 all)) k d is

-- ---- what a kind shows of its draft's type
some_same : {X : Type 0} (x y : X) → Some x ≡ Some y → x ≡ y
some_same x y h = cc

attribute_target : (b u : Bool) (s : Scalar) (v : Option Value) (c : ℕ) → target_in (cond b (Attr s v) (AttrMany s u)) ≡ Some c → ⊥
attribute_target true u s v c h = cc
attribute_target false u s v c h = cc

attribute_scalar : (b u : Bool) (s t : Scalar) (v : Option Value) → scalar_in (cond b (Attr s v) (AttrMany s u)) ≡ Some t → s ≡ t
attribute_scalar true u s t v h = some_same s t h
attribute_scalar false u s t v h = some_same s t h

container_target : (n c : ℕ) (e : End) → target_in (container n e) ≡ Some c → n ≡ c
container_target n c Open h = cc
container_target n c Nowhere h = cc
container_target n c (At g) h = some_same n c h

container_scalar : (n : ℕ) (e : End) → scalar_in (container n e) ≡ None
container_scalar n Open = refl
container_scalar n Nowhere = refl
container_scalar n (At g) = refl

module _ (ds : List FeatureDraft) (d : FeatureDraft) where
  reference_target : (n c : ℕ) → target_in (reference ds d n) ≡ Some c → n ≡ c
  reference_target n c h = by_tests d.containment (contains_back ds d.end) (int_eq d.upper (negsuc 0)) h
    where
      by_tests : (k b e : Bool)
          → target_in (cond k (Contains n (end_number d.end))
          (cond b (container n d.end) (cond e (Free n (end_number d.end)) (Bounded n (end_number d.end))))) ≡ Some c → n ≡ c
      by_tests true b e h = some_same n c h
      by_tests false true e h = container_target n c d.end h
      by_tests false false true h = some_same n c h
      by_tests false false false h = some_same n c h

  reference_scalar : (n : ℕ) → scalar_in (reference ds d n) ≡ None
  reference_scalar n = by_tests d.containment (contains_back ds d.end) (int_eq d.upper (negsuc 0))
    where
      by_tests : (k b e : Bool)
          → scalar_in (cond k (Contains n (end_number d.end))
          (cond b (container n d.end) (cond e (Free n (end_number d.end)) (Bounded n (end_number d.end))))) ≡ None
      by_tests true b e = refl
      by_tests false true e = container_scalar n d.end
      by_tests false false true = refl
      by_tests false false false = refl

  target_is : (enums : List Enum) (t : Target) (c : ℕ) → target_in (kind_in enums ds d t) ≡ Some c → t ≡ Elements c
  target_is enums Skipped c h = cc
  target_is enums Unsupported c h = cc
  target_is enums Missing c h = cc
  target_is enums (Elements n) c h = ap (λ n. Elements n) (reference_target n c h)
  target_is enums (Values s) c h = absurd (attribute_target (int_eq d.upper (pos 1)) d.unique s (default_in enums s d.default_text) c h)

  scalar_is : (enums : List Enum) (t : Target) (s : Scalar) → scalar_in (kind_in enums ds d t) ≡ Some s → t ≡ Values s
  scalar_is enums Skipped s h = cc
  scalar_is enums Unsupported s h = cc
  scalar_is enums Missing s h = cc
  scalar_is enums (Elements n) s h = let e : None ≡ Some s = sym (reference_scalar n) ∙ h in cc
  scalar_is enums (Values r) s h = ap (λ s. Values s) (attribute_scalar (int_eq d.upper (pos 1)) d.unique r s (default_in enums r d.default_text) h)

-- the default of a single attribute is what its text gives, or that of its type
attribute_default : (b u : Bool) (s t : Scalar) (o : Option Value) (v : Value) → cond b (Attr s o) (AttrMany s u) ≡ Attr t (Some v) → o ≡ Some v
attribute_default true u s t o v h = cc
attribute_default false u s t o v h = cc

-- ---- defaults are of their types
value_same : (x y : Value) → Some x ≡ Some y → x ≡ y
value_same x y h = cc

-- a whole number that was taken is within its width
narrowed : (half : ℕ) (o : Option ℤ) (v : Value) → option_and_then (narrow half) o ≡ Some v → (n : ℤ) × (v ≡ Whole n) × (in_width half n ≡ true)
narrowed half None v h = cc
narrowed half (Some n) v h = by_width (in_width half n) refl h
  where
    by_width : (b : Bool) → in_width half n ≡ b → cond b (Some (Whole n)) None ≡ Some v → (n : ℤ) × (v ≡ Whole n) × (in_width half n ≡ true)
    by_width true is h = (n, value_same v (Whole n) (sym h), is)
    by_width false is h = cc

flag_fits : (b c : Bool) (v : Value) (P : Value → Type 0) → P (Flag true) → P (Flag false)
    → cond b (Some (Flag true)) (cond c (Some (Flag false)) None) ≡ Some v → P v
flag_fits true c v P p q h = subst P (value_same (Flag true) v h) p
flag_fits false true v P p q h = subst P (value_same (Flag false) v h) q
flag_fits false false v P p q h = cc

is_less : (m n : ℕ) → m < n → nat_lt m n ≡ true
is_less m n h = search rules

-- a literal that was found is one of the enum's
either_below : (n top : ℕ) (a b : Option ℕ) → ((k : ℕ) → a ≡ Some k → k < top) → ((k : ℕ) → b ≡ Some k → k < top) → or_else a b ≡ Some n → n < top
either_below n top None b f g h = g n h
either_below n top (Some k) b f g h = f n h

literal_below : (ls : List EnumLiteral) (text : Name) (n : ℕ) → literal_in ls text ≡ Some n → n < length ls
literal_below ls text n h =
    either_below n (length ls) (number_of text (map (λ (l : EnumLiteral). l.text) ls)) (number_of text (map (λ (l : EnumLiteral). l.name) ls))
    (λ k is. placed (λ (l : EnumLiteral). l.text) k is)
    (λ k is. placed (λ (l : EnumLiteral). l.name) k is)
    h
  where
    placed : (name : EnumLiteral → Name) (k : ℕ) → number_of text (map name ls) ≡ Some k → k < length ls
    placed name k is = let h = number_of-below text (map name ls) k is in omega (arith, h, length-map ls name)

module _ (meta : Meta) where
  whole_fits : (s : Scalar) → ((n : ℤ) → in_width (half_of s) n ≡ true → fits meta s (Whole n) ≡ true) → (o : Option ℤ) (v : Value)
      → option_and_then (narrow (half_of s)) o ≡ Some v → fits meta s v ≡ true
  whole_fits s each o v h =
      let at = narrowed (half_of s) o v h in
      subst (λ v. fits meta s v ≡ true) (sym at.1) (each at.0 at.2)

  named_fits : (e : ℕ) (o : Option ℕ) (v : Value) → ((n : ℕ) → o ≡ Some n → n < literal_count meta e) → option_map (λ n. Literal n) o ≡ Some v
      → fits meta (LiteralType e) v ≡ true
  named_fits e None v each h = cc
  named_fits e (Some n) v each h = subst (λ v. fits meta (LiteralType e) v ≡ true) (value_same (Literal n) v h) (is_less n (literal_count meta e) (each n refl))

  -- a text's value is of the type
  value_fits : (s : Scalar) (text : Name) (v : Value) → value_of meta.enums s text ≡ Some v → fits meta s v ≡ true
  value_fits TextType text v h = subst (λ v. fits meta TextType v ≡ true) (value_same (Text text) v h) refl
  value_fits FlagType text v h = flag_fits _ _ v (λ v. fits meta FlagType v ≡ true) refl refl h
  value_fits Byte text v h = whole_fits Byte (λ n k. k) (whole_of text) v h
  value_fits Short text v h = whole_fits Short (λ n k. k) (whole_of text) v h
  value_fits Int text v h = whole_fits Int (λ n k. k) (whole_of text) v h
  value_fits Long text v h = whole_fits Long (λ n k. k) (whole_of text) v h
  value_fits (LiteralType e) text v h = named_fits e (literal_in (literals_of meta e) text) v (λ n is. literal_below (literals_of meta e) text n is) h

  -- the default of a type is of it, an enum's where it has a literal
  default_fits : (s : Scalar) (v : Value) → ((e : ℕ) → s ≡ LiteralType e → 0 < literal_count meta e) → default_of s ≡ Some v → fits meta s v ≡ true
  default_fits TextType v has h = cc
  default_fits FlagType v has h = subst (λ v. fits meta FlagType v ≡ true) (value_same (Flag false) v h) refl
  default_fits Byte v has h = subst (λ v. fits meta Byte v ≡ true) (value_same (Whole (pos 0)) v h) refl
  default_fits Short v has h = subst (λ v. fits meta Short v ≡ true) (value_same (Whole (pos 0)) v h) refl
  default_fits Int v has h = subst (λ v. fits meta Int v ≡ true) (value_same (Whole (pos 0)) v h) refl
  default_fits Long v has h = subst (λ v. fits meta Long v ≡ true) (value_same (Whole (pos 0)) v h) refl
  default_fits (LiteralType e) v has h =
      subst (λ v. fits meta (LiteralType e) v ≡ true) (value_same (Literal 0) v h) (is_less 0 (literal_count meta e) (has e refl))

  given_fits : (s : Scalar) (text : Option Name) (v : Value) → ((e : ℕ) → s ≡ LiteralType e → 0 < literal_count meta e)
      → default_in meta.enums s text ≡ Some v → fits meta s v ≡ true
  given_fits s None v has h = default_fits s v has h
  given_fits s (Some text) v has h = value_fits s text v h

-- ---- the features of a metamodel
module _ (rows : MetaRows) (none : fault rows.classifiers ≡ None) where
  abbrev all : ClassifierRows
  all = rows.classifiers

  abbrev ds : List FeatureDraft
  ds = drafts rows.classifiers

  abbrev enums : List Enum
  enums = enums_in rows.classifiers

  -- what holds of the kind of each draft, and of a skipped feature, holds of each kind
  each_kind : (P : Kind → Type 0) → P Skip → ((d : FeatureDraft) → Known all d.target → P (kind_in enums ds d d.target)) → (f : ℕ)
      → P (kind_of (meta_of rows) f)
  each_kind P skip each f = by_draft (slice_get ds f) refl
    where
      by_draft : (o : Option FeatureDraft) → slice_get ds f ≡ o → P (kind_of (meta_of rows) f)
      by_draft None is = subst P
          (sym (got_of (λ (x : Feature). x.kind) (feature_from enums ds) ds f
          ∙ ap (λ o. option_map_or (λ (x : FeatureDraft). kind_in enums ds x x.target) o Skip) is)) skip
      by_draft (Some d) is = subst P (sym (kind_at rows none f d is)) (each d (all_known all f d is))

  has_literal : (d : FeatureDraft) (s : Scalar) → Known all d.target → d.target ≡ Values s → (e : ℕ) → s ≡ LiteralType e → 0 < literal_count (meta_of rows) e
  has_literal d s known is e same = subst (Known all) (is ∙ ap (λ s. Values s) same) known

  default_is : (d : FeatureDraft) (s : Scalar) (v : Value) → d.target ≡ Values s → kind_in enums ds d d.target ≡ Attr s (Some v)
      → default_in enums s d.default_text ≡ Some v
  default_is d s v is h = attribute_default (int_eq d.upper (pos 1)) d.unique s s (default_in enums s d.default_text) v (sym (ap (kind_in enums ds d) is) ∙ h)

  pub in_range : IsInRange (meta_of rows)
  in_range = record {
    owners = drafted (λ (x : Feature). x.owner < length (meta_of rows).classes) (feature_from enums ds) ds
        (λ f d is. let below = owner_below all f d is in omega (arith, below, counted));
    targets = λ f c. each_kind (λ k. target_in k ≡ Some c → c < length (meta_of rows).classes) (λ h. cc)
        (λ d known h. let below : c < length (supers_in all all) = subst (Known all) (target_is ds d enums d.target c h) known in omega (arith, below, counted))
        f;
    enums = λ f e. each_kind (λ k. scalar_in k ≡ Some (LiteralType e) → 0 < literal_count (meta_of rows) e) (λ h. cc)
        (λ d known h. has_literal d (LiteralType e) known (scalar_is ds d enums d.target (LiteralType e) h) e refl)
        f;
    defaults = λ f s v. each_kind (λ k. k ≡ Attr s (Some v) → fits (meta_of rows) s v ≡ true) (λ h. cc)
        (λ d known h.
        let is = scalar_is ds d enums d.target s (ap scalar_in h) in
        given_fits (meta_of rows) s d.default_text v (has_literal d s known is) (default_is d s v is h))
        f;
  }
    where
      counted : length (supers_in all all) ≡ length (meta_of rows).classes
      counted = classes_supers all 0 (features_of all) all
