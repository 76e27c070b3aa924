-- The first fault of a package, on a walk over its JSON tree. What an object leaves out is judged as the walk enters it. Then
-- come its keys in the order of their bytes, a missing one where it would stand, and what is nested at its key.
use Rattle.std.specs.Prelude.{ℤ, pos, ◌&&◌, ◌||◌, not, Bool, true, false, List, [], ◌∷◌, codes, cond, Option, None, Some, is_some, option_and_then}
use Rattle.std.specs.Option.{option_map_or}
use Rattle.std.specs.Ordering.{nat_cmp, is_lt, int_eq}
use Rattle.std.specs.Cmp.Lexicographic.{slice_cmp}
use Rattle.std.specs.Str.{bytes_eq}
use Rattle.serde_json.specs.Data.{Data, null, boolean, number, string, array, object, Items, no_items, item, Members, no_members, member}
use Rattle.serde_json.specs.Find.{get, as_bool, as_str, as_array, as_number, as_i64}
use Rattle.ecore_json.specs.Classes.{ecore_attribute, ecore_class, ecore_data_type, ecore_enum, ecore_reference}
use Rattle.ecore_json.specs.declared.fault.WalkFault.{WalkFault}
use Rattle.ecore_json.specs.declared.fault.WalkFault.TheVariants.{BadKey, LeftOut}
use Rattle.ecore_json.specs.declared.table.Shape.{Shape}
use Rattle.ecore_json.specs.declared.table.Shape.TheVariants.{Package, Class, Enum, DataType, Literal, Attribute, Reference, TypeLink, OppositeLink}
use Rattle.ecore_json.specs.declared.table.Position.{Position}
use Rattle.ecore_json.specs.declared.table.Position.TheVariants.{Root, Classifier, Feature, Literal as InLiterals, TypeLink as OfTypeLink}
use Rattle.ecore_json.specs.declared.table.Position.TheVariants.{OppositeLink as OfOppositeLink}
use Rattle.ecore_json.specs.declared.table.ValueKind.{ValueKind}
use Rattle.ecore_json.specs.declared.table.ValueKind.TheVariants.{Anything, Flag, Whole, Text, Name as OfName, FeatureName, TypeReference, OppositeReference}
use Rattle.ecore_json.specs.declared.table.Wanted.{Wanted}
use Rattle.ecore_json.specs.declared.table.Wanted.TheVariants.{Value, Object, Objects}
use Rattle.ecore_meta.specs.declared.meta.Scalar.TheVariants.{Int}
use Rattle.ecore_meta.specs.Names.{Name}
use Rattle.ecore_meta.specs.Typing.{half_of, in_width}
use Rattle.ecore_json.specs.References.{is_name, is_feature_name, is_type_reference, own_feature}
use Rattle.ecore_json.specs.Table.{wants, required}

-- the first of two faults
abbrev pub «then» : Option WalkFault → Option WalkFault → Option WalkFault
«then» None next = next
«then» (Some e) next = Some e

-- the fault where the test holds
abbrev pub fails : Bool → WalkFault → Option WalkFault
fails b e = cond b (Some e) None

-- ---- what an object is

-- the text at a key, none where there is no text
abbrev pub text_in : Name → Data → Option Name
text_in k d = option_and_then as_str (get k d)

-- the text is there, and is that one
abbrev pub is_text : Option Name → Name → Bool
is_text None t = false
is_text (Some s) t = bytes_eq s t

-- the object says that it is of that class of Ecore
abbrev pub is_a : Name → Data → Bool
is_a class d = is_text (text_in (codes "eClass") d) class

-- what a classifier is, by its `eClass`
abbrev pub classifier_shape : Data → Option Shape
classifier_shape d =
    cond (is_a ecore_class d) (Some Class)
    (cond (is_a ecore_enum d) (Some Enum)
    (cond (is_a ecore_data_type d) (Some DataType) None))

-- what a feature is, by its `eClass`
abbrev pub feature_shape : Data → Option Shape
feature_shape d =
    cond (is_a ecore_attribute d) (Some Attribute)
    (cond (is_a ecore_reference d) (Some Reference) None)

-- what the object of a place is, if it may stand there
abbrev pub shape_at : Position → Data → Option Shape
shape_at Root d = Some Package
shape_at Classifier d = classifier_shape d
shape_at Feature d = feature_shape d
shape_at InLiterals d = Some Literal
shape_at OfTypeLink d = Some TypeLink
shape_at OfOppositeLink d = Some OppositeLink

-- ---- what is left out

-- the object has the key
abbrev pub has : Name → Data → Bool
has k d = is_some (get k d)

-- an array without items
abbrev pub is_empty_list : Option Items → Bool
is_empty_list None = false
is_empty_list (Some no_items) = true
is_empty_list (Some (item d ds)) = false

-- the key holds something: any value but an empty list
abbrev pub is_filled : Option Data → Bool
is_filled None = false
is_filled (Some d) = not (is_empty_list (as_array d))

-- the flag at a key, or its default
abbrev pub flag_at : Name → Bool → Data → Bool
flag_at k default d = option_map_or (λ b. b) (option_and_then as_bool (get k d)) default

-- the whole number that a value is, where 64 bits hold it
abbrev pub whole_in : Data → Option ℤ
whole_in d = option_and_then as_i64 (as_number d)

-- volatile, transient or derived
abbrev pub is_skipped : Data → Bool
is_skipped d = flag_at (codes "volatile") false d || (flag_at (codes "transient") false d || flag_at (codes "derived") false d)

-- the number is 1
abbrev pub is_one : Option ℤ → Bool
is_one None = false
is_one (Some n) = int_eq n (pos 1)

-- the upper bound is 1, which it is too where it is not said
abbrev pub is_single : Option Data → Bool
is_single None = true
is_single (Some d) = is_one (whole_in d)

-- a list of references in which one may stand twice
abbrev pub is_bag : Data → Bool
is_bag d = not (is_skipped d) && (not (flag_at (codes "unique") true d) && not (is_single (get (codes "upperBound") d)))

-- a generic type stands in place of the type
abbrev pub is_generic : Data → Bool
is_generic d = has (codes "eGenericType") d && not (has (codes "eType") d)

-- the object has a part of Ecore that is left out here
abbrev pub left_out : Shape → Data → Bool
left_out Package d = is_filled (get (codes "eSubpackages") d)
left_out Class d = is_filled (get (codes "eTypeParameters") d) || has (codes "eGenericSuperTypes") d && not (has (codes "eSuperTypes") d)
left_out Enum d = false
left_out DataType d = false
left_out Literal d = false
left_out Attribute d = is_generic d
left_out Reference d = is_filled (get (codes "eKeys") d) || (is_generic d || is_bag d)
left_out TypeLink d = false
left_out OppositeLink d = false

-- ---- keys and their values

-- the first of the keys that is not there
abbrev pub first_lacking : List Name → Data → Option Name
first_lacking [] d = None
first_lacking (k ∷ ks) d = cond (has k d) (first_lacking ks d) (Some k)

-- a missing key would stand before k
abbrev pub is_before : Option Name → Name → Bool
is_before None k = false
is_before (Some r) k = is_lt (slice_cmp nat_cmp r k)

-- a number of 32 bits, signed
abbrev pub fits : Option ℤ → Bool
fits None = false
fits (Some n) = in_width (half_of Int) n

-- the value is of the kind; own begins the references of the package
abbrev pub is_of : Name → ValueKind → Data → Bool
is_of own Anything d = true
is_of own Flag d = is_some (as_bool d)
is_of own Whole d = fits (whole_in d)
is_of own Text d = is_some (as_str d)
is_of own OfName d = option_map_or is_name (as_str d) false
is_of own FeatureName d = option_map_or is_feature_name (as_str d) false
is_of own TypeReference d = option_map_or (is_type_reference own) (as_str d) false
is_of own OppositeReference d = option_map_or (λ t. is_some (own_feature own t)) (as_str d) false

-- the fault of the value at a key; one judges it as an object, many as an array of them
abbrev pub value_fault : Name → Option Wanted → Data → (Position → Option WalkFault) → (Position → Option WalkFault) → Option WalkFault
value_fault own None d one many = Some BadKey
value_fault own (Some (Value kind)) d one many = fails (not (is_of own kind d)) BadKey
value_fault own (Some (Object p)) d one many = one p
value_fault own (Some (Objects p)) d one many = cond (is_some (as_array d)) (many p) (one p)

-- an object of a known shape is judged by what it leaves out, and then by its keys
abbrev pub shaped_fault : Option Shape → Data → (Shape → Option Name → Option WalkFault) → Option WalkFault
shaped_fault None d keys = Some BadKey
shaped_fault (Some s) d keys = «then» (fails (left_out s d) LeftOut) (keys s (first_lacking (required s) d))

unfoldable mutual
  -- an object that stands in the place
  pub object_fault : Name → Position → Data → Option WalkFault
  object_fault own p (object ms) = shaped_fault (shape_at p (object ms)) (object ms) (λ s lacking. keys_fault own s lacking ms)
  object_fault own p null = Some BadKey
  object_fault own p (boolean b) = Some BadKey
  object_fault own p (number n) = Some BadKey
  object_fault own p (string t) = Some BadKey
  object_fault own p (array ds) = Some BadKey

  -- an array of them
  pub array_fault : Name → Position → Data → Option WalkFault
  array_fault own p (array ds) = items_fault own p ds
  array_fault own p null = Some BadKey
  array_fault own p (boolean b) = Some BadKey
  array_fault own p (number n) = Some BadKey
  array_fault own p (string t) = Some BadKey
  array_fault own p (object ms) = Some BadKey

  -- its items, one after another
  pub items_fault : Name → Position → Items → Option WalkFault
  items_fault own p no_items = None
  items_fault own p (item d ds) = «then» (object_fault own p d) (items_fault own p ds)

  -- the keys of an object of the shape, which lacks a key or none
  pub keys_fault : Name → Shape → Option Name → Members → Option WalkFault
  keys_fault own s lacking no_members = fails (is_some lacking) BadKey
  keys_fault own s lacking (member k d ms) =
      «then» (fails (is_before lacking k) BadKey)
      («then» (value_fault own (wants s k) d (λ p. object_fault own p d) (λ p. array_fault own p d))
      (keys_fault own s lacking ms))

-- an array of objects, or one that stands for the array of it alone
abbrev pub objects_fault : Name → Position → Data → Option WalkFault
objects_fault own p d = cond (is_some (as_array d)) (array_fault own p d) (object_fault own p d)

-- the first fault of a package, whose own references begin with the text
abbrev pub package_fault : Name → Data → Option WalkFault
package_fault own d = object_fault own Root d
