-- Every metamodel that is built of fit names has what holds of names.
use Rattle.std.proofs.Common.{◌≡◌, ℕ, zero, suc, Bool, false, ◌+◌, ◌||◌, List, [], ◌∷◌, map, refl, sym, ap, subst, ◌∙◌, codes}
use Rattle.std.specs.Prelude.{None, Some, slice_get}
use Rattle.std.specs.List.{AllByRecursion, list_any}
use Rattle.std.specs.Option.{option_map_or}
use Rattle.std.specs.Str.{bytes_eq}
use Rattle.std.proofs.lemmas.Bool.{or_parts}
use Rattle.ecore_build.specs.Build.{classes_from, feature_from, meta_of}
use Rattle.ecore_drafts.specs.Document.{ClassifierRows, classifier_name}
use Rattle.ecore_drafts.specs.Drafts.{draft, drafts}
use Rattle.ecore_build.specs.Faults.{draft_name, fault, features_of, literal, enums_in, own_of, repeats_within}
use Rattle.ecore_meta.specs.Meta.{name_at}
use Rattle.ecore_meta.specs.Named.{IsNamed, has_slash, is_reserved, is_taken}
use Rattle.ecore_drafts.specs.Fit.{NamesFit}
use Rattle.ecore_meta.specs.Names.{Name, has_repeat}
use Rattle.ecore_drafts.specs.declared.drafts.FeatureDraft.{FeatureDraft}
use Rattle.ecore_build.proofs.BuildLaws.{all_append, classes_at}
use Rattle.ecore_drafts.proofs.PlaceLaws.{drafts_counted, drafts_from}
use Rattle.ecore_build.proofs.NoFault.{passes}
use Rattle.ecore_meta.specs.declared.meta.Class.{Class as ClassOf}
use Rattle.ecore_meta.specs.declared.meta.Enum.{Enum as EnumOf}
use Rattle.ecore_drafts.specs.declared.rows.ClassifierRow.TheVariants.{Class, Enum, Plain}
use Rattle.ecore_drafts.specs.declared.rows.FeatureRow.{FeatureRow}
use Rattle.ecore_drafts.specs.declared.rows.LiteralRow.{LiteralRow}
use Rattle.ecore_drafts.specs.declared.rows.MetaRows.{MetaRows}

-- ---- names of classes
none_named : (q : Name) (n : ℕ) (fs : List (List ℕ)) (rows : ClassifierRows) → list_any (bytes_eq q) (map classifier_name rows) ≡ false
    → list_any (bytes_eq q) (map (λ (c : ClassOf). c.name) (classes_at n fs rows)) ≡ false
none_named q n fs [] h = refl
none_named q n fs (Class c ∷ rows) h =
    let parts = or_parts (bytes_eq q c.name) (list_any (bytes_eq q) (map classifier_name rows)) h in
    ap (λ b. b || list_any (bytes_eq q) (map (λ (c : ClassOf). c.name) (classes_at (n + 1) fs rows))) parts.0 ∙ none_named q (n + 1) fs rows parts.1
none_named q n fs (Enum e ∷ rows) h = none_named q n fs rows (or_parts (bytes_eq q e.name) (list_any (bytes_eq q) (map classifier_name rows)) h).1
none_named q n fs (Plain t ∷ rows) h = none_named q n fs rows (or_parts (bytes_eq q t) (list_any (bytes_eq q) (map classifier_name rows)) h).1

names_apart : (n : ℕ) (fs : List (List ℕ)) (rows : ClassifierRows) → has_repeat (map classifier_name rows) ≡ false
    → has_repeat (map (λ (c : ClassOf). c.name) (classes_at n fs rows)) ≡ false
names_apart n fs [] h = refl
names_apart n fs (Class c ∷ rows) h =
    let parts = or_parts (list_any (bytes_eq c.name) (map classifier_name rows)) (has_repeat (map classifier_name rows)) h in
    ap (λ b. b || has_repeat (map (λ (c : ClassOf). c.name) (classes_at (n + 1) fs rows))) (none_named c.name (n + 1) fs rows parts.0)
    ∙ names_apart (n + 1) fs rows parts.1
names_apart n fs (Enum e ∷ rows) h =
    names_apart n fs rows (or_parts (list_any (bytes_eq e.name) (map classifier_name rows)) (has_repeat (map classifier_name rows)) h).1
names_apart n fs (Plain t ∷ rows) h =
    names_apart n fs rows (or_parts (list_any (bytes_eq t) (map classifier_name rows)) (has_repeat (map classifier_name rows)) h).1

no_slashes : (n : ℕ) (fs : List (List ℕ)) (rows : ClassifierRows) → NamesFit rows → (k : ℕ) (class : ClassOf)
    → slice_get (classes_at n fs rows) k ≡ Some class → has_slash class.name ≡ false
no_slashes n fs [] fit k class is = cc
no_slashes n fs (Class c ∷ rows) fit zero class is =
    let own : Some (record { name = c.name; is_abstract = c.is_abstract; features = own_of fs n }) ≡ Some class = is in
    subst (λ (x : ClassOf). has_slash x.name ≡ false)
    (some_same (record { name = c.name; is_abstract = c.is_abstract; features = own_of fs n }) class own) fit.0
  where
    some_same : (x y : ClassOf) → Some x ≡ Some y → x ≡ y
    some_same x y h = cc
no_slashes n fs (Class c ∷ rows) fit (suc k) class is = no_slashes (n + 1) fs rows fit.2 k class is
no_slashes n fs (Enum e ∷ rows) fit k class is = no_slashes n fs rows fit k class is
no_slashes n fs (Plain t ∷ rows) fit k class is = no_slashes n fs rows fit k class is

-- ---- the features of a class
-- what holds of the features of each class, and of none
module _ (P : List ℕ → Type 0) (none : P []) (fs : List (List ℕ)) (each : (k : ℕ) → P (own_of fs k)) where
  class_features : (n : ℕ) (rows : ClassifierRows) (c : ℕ) → P (option_map_or (λ (x : ClassOf). x.features) (slice_get (classes_at n fs rows) c) [])
  class_features n [] c = none
  class_features n (Class r ∷ rows) zero = each n
  class_features n (Class r ∷ rows) (suc c) = class_features (n + 1) rows c
  class_features n (Enum e ∷ rows) c = class_features n rows c
  class_features n (Plain t ∷ rows) c = class_features n rows c

none_at : (p : List ℕ → Bool) (fs : List (List ℕ)) → p [] ≡ false → list_any p fs ≡ false → (k : ℕ) → p (own_of fs k) ≡ false
none_at p [] none h k = none
none_at p (xs ∷ fs) none h zero = (or_parts (p xs) (list_any p fs) h).0
none_at p (xs ∷ fs) none h (suc k) = none_at p fs none (or_parts (p xs) (list_any p fs) h).1 k

-- ---- drafts
module _ (enums : List EnumOf) (all : List FeatureDraft) where
  same_name : (ds : List FeatureDraft) (f : ℕ) → name_at (map (feature_from enums all) ds) f ≡ draft_name ds f
  same_name [] f = refl
  same_name (d ∷ ds) zero = refl
  same_name (d ∷ ds) (suc f) = same_name ds f

  same_names : (ds : List FeatureDraft) (fs : List ℕ) → map (name_at (map (feature_from enums all) ds)) fs ≡ map (draft_name ds) fs
  same_names ds [] = refl
  same_names ds (f ∷ fs) = λ i. same_name ds f i ∷ same_names ds fs i

class_drafts : (P : FeatureDraft → Type 0) (Q : FeatureRow → Type 0) (all : ClassifierRows) → ((n : ℕ) (f : FeatureRow) → Q f → P (draft all n f))
    → (n : ℕ) (fs : List FeatureRow) → AllByRecursion Q fs → AllByRecursion P (map (draft all n) fs)
class_drafts P Q all h n [] q = tt
class_drafts P Q all h n (f ∷ fs) q = (h n f q.0, class_drafts P Q all h n fs q.1)

-- ---- no draft has the name of a reserved key
drafts_named : (all : ClassifierRows) (n : ℕ) (rows : ClassifierRows) → NamesFit rows
    → AllByRecursion (λ (d : FeatureDraft). is_taken d.name ≡ false) (drafts_from all n rows)
drafts_named all n [] fit = tt
drafts_named all n (Class c ∷ rows) fit =
    all_append (λ (d : FeatureDraft). is_taken d.name ≡ false) (map (draft all n) c.features) (drafts_from all (suc n) rows)
    (class_drafts (λ (d : FeatureDraft). is_taken d.name ≡ false) (λ (f : FeatureRow). is_taken f.name ≡ false) all (λ n f q. q) n c.features fit.1)
    (drafts_named all (suc n) rows fit.2)
drafts_named all n (Enum e ∷ rows) fit = drafts_named all n rows fit
drafts_named all n (Plain t ∷ rows) fit = drafts_named all n rows fit

name_free : (ds : List FeatureDraft) → AllByRecursion (λ (d : FeatureDraft). is_taken d.name ≡ false) ds → (f : ℕ) → is_taken (draft_name ds f) ≡ false
name_free [] h f = refl
name_free (d ∷ ds) h zero = h.0
name_free (d ∷ ds) h (suc f) = name_free ds h.1 f

-- ---- texts of literals
texts_of : (ls : List LiteralRow) → map (λ l. l.text) (map literal ls) ≡ map (λ l. l.literal) ls
texts_of [] = refl
texts_of (l ∷ ls) = ap (λ xs. l.literal ∷ xs) (texts_of ls)

texts_at : List EnumOf → ℕ → List Name
texts_at enums e = map (λ l. l.text) (option_map_or (λ (x : EnumOf). x.literals) (slice_get enums e) [])

texts_apart : (rows : ClassifierRows) → list_any repeats_within rows ≡ false → (e : ℕ) → has_repeat (texts_at (enums_in rows) e) ≡ false
unfolding texts_at
texts_apart [] h e = refl
texts_apart (Class c ∷ rows) h e = texts_apart rows (or_parts (repeats_within (Class c)) (list_any repeats_within rows) h).1 e
texts_apart (Plain t ∷ rows) h e = texts_apart rows (or_parts (repeats_within (Plain t)) (list_any repeats_within rows) h).1 e
texts_apart (Enum r ∷ rows) h zero =
    let own = (or_parts (repeats_within (Enum r)) (list_any repeats_within rows) h).0 in
    ap has_repeat (texts_of r.literals) ∙ (or_parts (has_repeat (map (λ l. l.name) r.literals)) (has_repeat (map (λ l. l.literal) r.literals)) own).1
texts_apart (Enum r ∷ rows) h (suc e) = texts_apart rows (or_parts (repeats_within (Enum r)) (list_any repeats_within rows) h).1 e

names_of : (ls : List LiteralRow) → map (λ l. l.name) (map literal ls) ≡ map (λ l. l.name) ls
names_of [] = refl
names_of (l ∷ ls) = ap (λ xs. l.name ∷ xs) (names_of ls)

literals_apart : (rows : ClassifierRows) → list_any repeats_within rows ≡ false → (e : ℕ)
    → has_repeat (map (λ l. l.name) (option_map_or (λ (x : EnumOf). x.literals) (slice_get (enums_in rows) e) [])) ≡ false
literals_apart [] h e = refl
literals_apart (Class c ∷ rows) h e = literals_apart rows (or_parts (repeats_within (Class c)) (list_any repeats_within rows) h).1 e
literals_apart (Plain t ∷ rows) h e = literals_apart rows (or_parts (repeats_within (Plain t)) (list_any repeats_within rows) h).1 e
literals_apart (Enum r ∷ rows) h zero =
    let own = (or_parts (repeats_within (Enum r)) (list_any repeats_within rows) h).0 in
    ap has_repeat (names_of r.literals) ∙ (or_parts (has_repeat (map (λ l. l.name) r.literals)) (has_repeat (map (λ l. l.literal) r.literals)) own).0
literals_apart (Enum r ∷ rows) h (suc e) = literals_apart rows (or_parts (repeats_within (Enum r)) (list_any repeats_within rows) h).1 e

-- ---- names of enums
no_enum : (q : Name) (rows : ClassifierRows) → list_any (bytes_eq q) (map classifier_name rows) ≡ false
    → list_any (bytes_eq q) (map (λ (x : EnumOf). x.name) (enums_in rows)) ≡ false
no_enum q [] h = refl
no_enum q (Enum e ∷ rows) h =
    let parts = or_parts (bytes_eq q e.name) (list_any (bytes_eq q) (map classifier_name rows)) h in
    ap (λ b. b || list_any (bytes_eq q) (map (λ (x : EnumOf). x.name) (enums_in rows))) parts.0 ∙ no_enum q rows parts.1
no_enum q (Class c ∷ rows) h = no_enum q rows (or_parts (bytes_eq q c.name) (list_any (bytes_eq q) (map classifier_name rows)) h).1
no_enum q (Plain t ∷ rows) h = no_enum q rows (or_parts (bytes_eq q t) (list_any (bytes_eq q) (map classifier_name rows)) h).1

enums_apart : (rows : ClassifierRows) → has_repeat (map classifier_name rows) ≡ false → has_repeat (map (λ (x : EnumOf). x.name) (enums_in rows)) ≡ false
enums_apart [] h = refl
enums_apart (Enum e ∷ rows) h =
    let parts = or_parts (list_any (bytes_eq e.name) (map classifier_name rows)) (has_repeat (map classifier_name rows)) h in
    ap (λ b. b || has_repeat (map (λ (x : EnumOf). x.name) (enums_in rows))) (no_enum e.name rows parts.0) ∙ enums_apart rows parts.1
enums_apart (Class c ∷ rows) h = enums_apart rows (or_parts (list_any (bytes_eq c.name) (map classifier_name rows)) (has_repeat (map classifier_name rows)) h).1
enums_apart (Plain t ∷ rows) h = enums_apart rows (or_parts (list_any (bytes_eq t) (map classifier_name rows)) (has_repeat (map classifier_name rows)) h).1

-- ---- put together
pub built_named : (rows : MetaRows) → fault rows.classifiers ≡ None → NamesFit rows.classifiers → IsNamed (meta_of rows)
unfolding texts_at
built_named rows none fit =
    let all = rows.classifiers in
    let enums = enums_in all in
    let ds = drafts all in
    let tests = passes all none in
    let named : AllByRecursion (λ (d : FeatureDraft). is_taken d.name ≡ false) ds =
    subst (AllByRecursion (λ (d : FeatureDraft). is_taken d.name ≡ false)) (sym (drafts_counted all)) (drafts_named all 0 all fit) in
    let single = or_parts (has_repeat (map classifier_name all)) (list_any repeats_within all) tests.named in
    record {
      classes = names_apart 0 (features_of all) all single.0;
      slashes = no_slashes 0 (features_of all) all fit;
      features = λ c.
          ap has_repeat (same_names enums ds ds (option_map_or (λ (x : ClassOf). x.features) (slice_get (classes_from (features_of all) all) c) []))
          ∙ class_features (λ fs. has_repeat (map (draft_name ds) fs) ≡ false) refl (features_of all)
          (none_at (λ fs. has_repeat (map (draft_name ds) fs)) (features_of all) refl tests.apart) 0 all c;
      keys = λ f. ap is_reserved (same_name enums ds ds f)
          ∙ (or_parts (is_reserved (draft_name ds f)) (bytes_eq (draft_name ds f) (codes "$ref")) (name_free ds named f)).0;
      refs = λ f.
          ap (λ t. bytes_eq t (codes "$ref")) (same_name enums ds ds f)
          ∙ (or_parts (is_reserved (draft_name ds f)) (bytes_eq (draft_name ds f) (codes "$ref")) (name_free ds named f)).1;
      enums = enums_apart all single.0;
      literals = texts_apart all single.1;
      literal_names = literals_apart all single.1;
    }
