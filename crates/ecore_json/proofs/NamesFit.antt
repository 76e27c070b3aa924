-- Names of a package without a fault are of their form.
use Rattle.std.proofs.Common.{◌≡◌, ℕ, ◌==◌, Bool, true, false, cond, not, ◌&&◌, ◌||◌, List, [], ◌∷◌, length, map, refl, sym, ap, subst, ◌∙◌, codes, rules}
use Rattle.std.specs.Prelude.{Option, None, Some, is_some, option_and_then, nat_lt}
use Rattle.std.specs.List.{AllByRecursion, list_all}
use Rattle.std.specs.Option.{option_map_or}
use Rattle.std.specs.Char.{is_ascii_alphabetic}
use Rattle.std.specs.Str.{bytes_eq}
use Rattle.std.specs.declared.cmp.Ordering.{Ordering}
use Rattle.std.specs.declared.cmp.Ordering.TheVariants.{Less, Equal, Greater}
use Rattle.std.specs.Ordering.{nat_cmp, match_ordering}
use Rattle.std.specs.Cmp.Lexicographic.{slice_cmp}
use Rattle.std.proofs.lemmas.Map.Lookups.{exact_bytes}
use Rattle.serde_json.specs.Data.{Data, null, boolean, number, string, array, object, Items, no_items, item, Members, no_members, member}
use Rattle.serde_json.specs.Find.{as_array, as_str, get, get_member}
use Rattle.ecore_meta.specs.Named.{has_slash, is_taken}
use Rattle.ecore_drafts.specs.Fit.{NamesFit}
use Rattle.ecore_meta.specs.Names.{Name}
use Rattle.ecore_drafts.specs.declared.rows.ClassifierRow.{ClassifierRow}
use Rattle.ecore_drafts.specs.declared.rows.ClassifierRow.TheVariants.{Class, Enum, Plain}
use Rattle.ecore_drafts.specs.declared.rows.FeatureRow.{FeatureRow}
use Rattle.ecore_json.specs.declared.fault.WalkFault.{WalkFault}
use Rattle.ecore_json.specs.declared.table.Position.{Position}
use Rattle.ecore_json.specs.declared.table.Shape.{Shape}
use Rattle.ecore_json.specs.Classes.{ecore_attribute, ecore_class, ecore_data_type, ecore_enum, ecore_reference}
use Rattle.ecore_json.specs.References.{is_feature_name, is_mark, is_name, is_name_byte, most_name_bytes}
use Rattle.ecore_json.specs.Rows.{alone_or, class_row, classifier_row, elements, enum_row, feature_row, list_of, own_prefix, rows_of, text_at}
use Rattle.ecore_json.specs.Table.{required, wants}
use Rattle.ecore_json.specs.Walk as Walk
use Rattle.ecore_json.specs.Walk.{array_fault, classifier_shape, feature_shape, first_lacking, has, is_a, items_fault, keys_fault, object_fault}
use Rattle.ecore_json.specs.Walk.{package_fault, shape_at, value_fault}

-- ---- tests
no_some : {A : Type 0} (o : Option A) → is_some o ≡ false → o ≡ None
no_some None h = refl
no_some (Some v) h = cc

not_so : (b : Bool) → (b ≡ true → ⊥) → b ≡ false
not_so true h = absurd (h refl)
not_so false h = refl

true_false : (b : Bool) → b ≡ true → b ≡ false → ⊥
true_false b h k = cc

not_true : (b : Bool) → not b ≡ true → b ≡ false
not_true true h = cc
not_true false h = refl

and_first : (a b : Bool) → a && b ≡ true → a ≡ true
and_first true b h = refl
and_first false b h = h

and_second : (a b : Bool) → a && b ≡ true → b ≡ true
and_second true b h = h
and_second false b h = cc

same_byte : (b : ℕ) → (b == 47) ≡ true → b ≡ 47
same_byte b h = search rules

-- ---- no fault of two
both_none : (a b : Option WalkFault) → Walk.«then» a b ≡ None → (a ≡ None) × (b ≡ None)
both_none None b h = (refl, h)
both_none (Some e) b h = cc

no_fail : (b : Bool) (e : WalkFault) → cond b (Some e) None ≡ None → b ≡ false
no_fail true e h = cc
no_fail false e h = refl

-- ---- an object without a fault
module _ (own : Name) (s : Shape) (lacking : Option Name) where
  -- the fault of the value at a key
  abbrev judged : Name → Data → Option WalkFault
  judged k d = value_fault own (wants s k) d (λ p. object_fault own p d) (λ p. array_fault own p d)

  found_fault : (k l : Name) (e d : Data) (rest : Option Data) → (rest ≡ Some d → judged k d ≡ None) → judged l e ≡ None → (r : Ordering)
      → slice_cmp nat_cmp k l ≡ r → match_ordering r rest (Some e) rest ≡ Some d → judged k d ≡ None
  found_fault k l e d rest more here Less is at = more at
  found_fault k l e d rest more here Equal is at =
      let key : k ≡ l = exact_bytes k l is in
      let value : e ≡ d = cc in
      ap (λ x. judged x d) key ∙ ap (judged l) (sym value) ∙ here
  found_fault k l e d rest more here Greater is at = more at

  members_judged : (ms : Members) → keys_fault own s lacking ms ≡ None → (k : Name) (d : Data) → get_member k ms ≡ Some d → judged k d ≡ None
  unfolding keys_fault
  members_judged no_members h k d at = cc
  members_judged (member l e ms) h k d at =
      let first = both_none _ _ h in
      let second = both_none _ _ first.1 in
      found_fault k l e d (get_member k ms) (members_judged ms second.1 k d) second.0 (slice_cmp nat_cmp k l) refl at

  none_lacking : (ms : Members) → keys_fault own s lacking ms ≡ None → lacking ≡ None
  unfolding keys_fault
  none_lacking no_members h = no_some lacking (no_fail (is_some lacking) _ h)
  none_lacking (member l e ms) h = none_lacking ms (both_none _ _ (both_none _ _ h).1).1

all_there : (ks : List Name) (d : Data) → first_lacking ks d ≡ None → AllByRecursion (λ k. has k d ≡ true) ks
all_there [] d h = tt
all_there (k ∷ ks) d h = by_test (has k d) refl (all_there ks d) h
  where
    by_test : (b : Bool) → has k d ≡ b → (first_lacking ks d ≡ None → AllByRecursion (λ k. has k d ≡ true) ks)
        → cond b (first_lacking ks d) (Some k) ≡ None → (has k d ≡ true) × AllByRecursion (λ k. has k d ≡ true) ks
    by_test true is more h = (is, more h)
    by_test false is more h = cc

-- what holds of an object of a shape that has no fault
record IsFit (own : Name) (s : Shape) (d : Data) : Type 0 where
  pub values : (k : Name) (v : Data) → get k d ≡ Some v → judged own s (first_lacking (required s) d) k v ≡ None
  pub there : AllByRecursion (λ k. has k d ≡ true) (required s)

module _ (own : Name) where
  members_fit : (s : Shape) (ms : Members) → Walk.shaped_fault (Some s) (object ms) (λ s lacking. keys_fault own s lacking ms) ≡ None → IsFit own s (object ms)
  members_fit s ms h =
      let keys = (both_none _ _ h).1 in
      record {
        values = members_judged own s (first_lacking (required s) (object ms)) ms keys;
        there =
            all_there (required s) (object ms) (none_lacking own s (first_lacking (required s) (object ms)) ms keys);
      }

  shaped_fit : (o : Option Shape) (s : Shape) (ms : Members) → o ≡ Some s
      → Walk.shaped_fault o (object ms) (λ s lacking. keys_fault own s lacking ms) ≡ None → IsFit own s (object ms)
  shaped_fit None s ms is h = cc
  shaped_fit (Some t) s ms is h = let same : t ≡ s = cc in subst (λ x. IsFit own x (object ms)) same (members_fit t ms h)

  object_fit : (p : Position) (d : Data) (s : Shape) → shape_at p d ≡ Some s → object_fault own p d ≡ None → IsFit own s d
  unfolding object_fault
  object_fit p (object ms) s is h = shaped_fit (shape_at p (object ms)) s ms is h
  object_fit p null s is h = cc
  object_fit p (boolean b) s is h = cc
  object_fit p (number n) s is h = cc
  object_fit p (string t) s is h = cc
  object_fit p (array ds) s is h = cc

  has_shape : (o : Option Shape) (ms : Members) → o ≡ None → Walk.shaped_fault o (object ms) (λ s lacking. keys_fault own s lacking ms) ≡ None → ⊥
  has_shape None ms is h = cc
  has_shape (Some s) ms is h = cc

  object_shaped : (p : Position) (d : Data) → shape_at p d ≡ None → object_fault own p d ≡ None → ⊥
  unfolding object_fault
  object_shaped p (object ms) is h = has_shape (shape_at p (object ms)) ms is h
  object_shaped p null is h = cc
  object_shaped p (boolean b) is h = cc
  object_shaped p (number n) is h = cc
  object_shaped p (string t) is h = cc
  object_shaped p (array ds) is h = cc

  items_fit : (p : Position) (ds : Items) → items_fault own p ds ≡ None → AllByRecursion (λ x. object_fault own p x ≡ None) (list_of ds)
  unfolding items_fault
  items_fit p no_items h = tt
  items_fit p (item d ds) h = let parts = both_none _ _ h in (parts.0, items_fit p ds parts.1)

  -- one or many objects
  many_fit : (p : Position) (v : Data) → cond (is_some (as_array v)) (array_fault own p v) (object_fault own p v) ≡ None
      → AllByRecursion (λ x. object_fault own p x ≡ None) (alone_or v (as_array v))
  unfolding array_fault
  many_fit p (array ds) h = items_fit p ds h
  many_fit p null h = (h, tt)
  many_fit p (boolean b) h = (h, tt)
  many_fit p (number n) h = (h, tt)
  many_fit p (string t) h = (h, tt)
  many_fit p (object ms) h = (h, tt)

-- ---- shapes by name
abbrev IsThere : {A : Type 0} → Option A → Type 0
IsThere None = ⊥
IsThere (Some a) = Unit {0}

-- the value of an option that has one
abbrev the : {A : Type 0} (o : Option A) → IsThere o → A
the None there = absurd there
the (Some a) there = a

-- an object that says its class of Ecore
abbrev said : Name → Data
said t = object (member (codes "eClass") (string t) no_members)

-- the shape of a class
abbrev ClassShape : Shape
ClassShape = the (classifier_shape (said ecore_class)) tt

-- the shape of an enum
abbrev EnumShape : Shape
EnumShape = the (classifier_shape (said ecore_enum)) tt

-- the shape of a data type
abbrev DataTypeShape : Shape
DataTypeShape = the (classifier_shape (said ecore_data_type)) tt

-- the shape of an attribute
abbrev AttributeShape : Shape
AttributeShape = the (feature_shape (said ecore_attribute)) tt

-- the shape of a reference
abbrev ReferenceShape : Shape
ReferenceShape = the (feature_shape (said ecore_reference)) tt

-- ---- names
name_is : (d : Data) (v : Data) (p : Name → Bool) (o : Option Name) → get (codes "name") d ≡ Some v → as_str v ≡ o → option_map_or p o false ≡ true
    → p (text_at (codes "name") d) ≡ true
name_is d v p None at is h = cc
name_is d v p (Some t) at is h =
    subst (λ o. p (option_map_or (λ t. t) (option_and_then as_str o) []) ≡ true) (sym at) (subst (λ o. p (option_map_or (λ t. t) o []) ≡ true) (sym is) h)

name_there : (d : Data) (o : Option Data) → get (codes "name") d ≡ o → is_some o ≡ true → (v : Data) × (get (codes "name") d ≡ Some v)
name_there d None at h = cc
name_there d (Some v) at h = (v, at)

not_failed : (b : Bool) (e : WalkFault) → cond (not b) (Some e) None ≡ None → b ≡ true
not_failed true e h = refl
not_failed false e h = cc

-- no byte of a name is a slash
free_byte : (p : ℕ → Bool) → p 47 ≡ false → (b : ℕ) → p b ≡ true → (b == 47) ≡ false
free_byte p none b h = not_so (b == 47) (λ e. true_false (p b) h (ap p (same_byte b e) ∙ none))

free_bytes : (bs : Name) → list_all is_name_byte bs ≡ true → has_slash bs ≡ false
free_bytes [] h = refl
free_bytes (b ∷ bs) h =
    ap (λ t. t || has_slash bs) (free_byte is_name_byte refl b (and_first (is_name_byte b) (list_all is_name_byte bs) h))
    ∙ free_bytes bs (and_second (is_name_byte b) (list_all is_name_byte bs) h)

no_slash : (t : Name) → is_name t ≡ true → has_slash t ≡ false
no_slash [] h = cc
no_slash (b ∷ bs) h =
    let first = and_first (is_ascii_alphabetic b || is_mark b) (nat_lt (length bs) most_name_bytes && list_all is_name_byte bs) h in
    let rest = and_second (nat_lt (length bs) most_name_bytes) (list_all is_name_byte bs)
    (and_second (is_ascii_alphabetic b || is_mark b) (nat_lt (length bs) most_name_bytes && list_all is_name_byte bs) h) in
    ap (λ t. t || has_slash bs) (free_byte (λ b. is_ascii_alphabetic b || is_mark b) refl b first) ∙ free_bytes bs rest

not_taken : (t : Name) → is_feature_name t ≡ true → is_taken t ≡ false
not_taken t h = not_true (bytes_eq t (codes "eClass") || bytes_eq t (codes "_id") || bytes_eq t (codes "$ref"))
    (and_second (is_name t) (not (bytes_eq t (codes "eClass") || bytes_eq t (codes "_id") || bytes_eq t (codes "$ref"))) h)

module _ (own : Name) where
  class_named : (d : Data) → IsFit own ClassShape d → is_name (text_at (codes "name") d) ≡ true
  unfolding wants
  class_named d fit =
      let v = name_there d (get (codes "name") d) refl fit.there.0 in
      name_is d v.0 is_name (as_str v.0) v.1 refl (not_failed _ _ (fit.values (codes "name") v.0 v.1))

  attribute_named : (d : Data) → IsFit own AttributeShape d → is_feature_name (text_at (codes "name") d) ≡ true
  unfolding wants
  attribute_named d fit =
      let v = name_there d (get (codes "name") d) refl fit.there.1.0 in
      name_is d v.0 is_feature_name (as_str v.0) v.1 refl (not_failed _ _ (fit.values (codes "name") v.0 v.1))

  reference_named : (d : Data) → IsFit own ReferenceShape d → is_feature_name (text_at (codes "name") d) ≡ true
  unfolding wants
  reference_named d fit =
      let v = name_there d (get (codes "name") d) refl fit.there.1.0 in
      name_is d v.0 is_feature_name (as_str v.0) v.1 refl (not_failed _ _ (fit.values (codes "name") v.0 v.1))

  -- a feature
  feature_named : (p : Position) (y : Data) → shape_at p y ≡ feature_shape y → object_fault own p y ≡ None → is_feature_name (text_at (codes "name") y) ≡ true
  feature_named p y place h = by_class (is_a ecore_attribute y) (is_a ecore_reference y) place
    where
      by_class : (b c : Bool) → shape_at p y ≡ cond b (Some AttributeShape) (cond c (Some ReferenceShape) None)
          → is_feature_name (text_at (codes "name") y) ≡ true
      by_class true c is = attribute_named y (object_fit own p y AttributeShape is h)
      by_class false true is = reference_named y (object_fit own p y ReferenceShape is h)
      by_class false false is = absurd (object_shaped own p y is h)

  features_named : (p : Position) → ((y : Data) → shape_at p y ≡ feature_shape y) → (prefix : Name) (ys : List Data)
      → AllByRecursion (λ y. object_fault own p y ≡ None) ys → AllByRecursion (λ (f : FeatureRow). is_taken f.name ≡ false) (map (feature_row prefix) ys)
  features_named p place prefix [] all = tt
  features_named p place prefix (y ∷ ys) all =
      (not_taken (text_at (codes "name") y) (feature_named p y (place y) all.0), features_named p place prefix ys all.1)

  features_fit : (prefix : Name) (x : Data) → IsFit own ClassShape x → (o : Option Data) → get (codes "eStructuralFeatures") x ≡ o
      → AllByRecursion (λ (f : FeatureRow). is_taken f.name ≡ false) (map (feature_row prefix) (elements o))
  unfolding wants
  features_fit prefix x fit None at = tt
  features_fit prefix x fit (Some v) at =
      features_named _ (λ y. refl) prefix (alone_or v (as_array v)) (many_fit own _ v (fit.values (codes "eStructuralFeatures") v at))

  classifier_fit : (p : Position) (prefix : Name) (x : Data) → shape_at p x ≡ classifier_shape x → object_fault own p x ≡ None
      → NamesFit (classifier_row prefix x ∷ [])
  classifier_fit p prefix x place h = by_class (is_a ecore_class x) refl
    where
      by_class : (b : Bool) → is_a ecore_class x ≡ b
          → NamesFit (cond b (Class (class_row prefix x)) (cond (is_a ecore_enum x) (Enum (enum_row x)) (Plain (text_at (codes "name") x))) ∷ [])
      by_class true is =
          let shape : shape_at p x ≡ Some ClassShape =
          place ∙ ap (λ b. cond b (Some ClassShape)
          (cond (is_a ecore_enum x) (Some EnumShape) (cond (is_a ecore_data_type x) (Some DataTypeShape) None))) is in
          let fit = object_fit own p x ClassShape shape h in
          (no_slash (text_at (codes "name") x) (class_named x fit), features_fit prefix x fit (get (codes "eStructuralFeatures") x) refl, tt)
      by_class false is =
          elim (is_a ecore_enum x) as (λ c. NamesFit (cond c (Enum (enum_row x)) (Plain (text_at (codes "name") x)) ∷ [])) [
            | true ↦ tt
            | false ↦ tt
          ]

  -- ---- the package
  one_more : (row : ClassifierRow) (rows : List ClassifierRow) → NamesFit (row ∷ []) → NamesFit rows → NamesFit (row ∷ rows)
  one_more (Class c) rows h g = (h.0, h.1, g)
  one_more (Enum e) rows h g = g
  one_more (Plain t) rows h g = g

  classifiers_fit : (p : Position) → ((x : Data) → shape_at p x ≡ classifier_shape x) → (prefix : Name) (xs : List Data)
      → AllByRecursion (λ x. object_fault own p x ≡ None) xs → NamesFit (map (classifier_row prefix) xs)
  classifiers_fit p place prefix [] all = tt
  classifiers_fit p place prefix (x ∷ xs) all =
      one_more (classifier_row prefix x) (map (classifier_row prefix) xs) (classifier_fit p prefix x (place x) all.0)
      (classifiers_fit p place prefix xs all.1)

  package_fit : (prefix : Name) (d : Data) → package_fault own d ≡ None → (o : Option Data) → get (codes "eClassifiers") d ≡ o
      → NamesFit (map (classifier_row prefix) (elements o))
  unfolding wants
  package_fit prefix d h None at = tt
  package_fit prefix d h (Some v) at =
      let fit = object_fit own _ d _ refl h in
      classifiers_fit _ (λ x. refl) prefix (alone_or v (as_array v)) (many_fit own _ v (fit.values (codes "eClassifiers") v at))

-- the names of a document's rows are of their form, where its package has no fault
pub names_fit : (d : Data) → package_fault (own_prefix d) d ≡ None → NamesFit (rows_of d).classifiers
unfolding rows_of
names_fit d h = package_fit (own_prefix d) (own_prefix d) d h (get (codes "eClassifiers") d) refl
