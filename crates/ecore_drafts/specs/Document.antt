-- The classifiers of a document and its features, and the number of each: its place among those of its kind.
use Rattle.std.specs.Prelude.{ℕ, ◌+◌, ◌&&◌, Bool, true, false, List, [], ◌∷◌, Option, None, Some, slice_get, map, length, nat_eq, not, is_some}
use Rattle.std.specs.List.{enumerate_from, filter, filter_map, flat_map, list_any, position, range_with_len}
use Rattle.std.specs.Option.{option_map_or}
use Rattle.std.specs.Str.{bytes_eq}
use Rattle.ecore_meta.specs.Names.{Name, number_of}
use Rattle.ecore_drafts.specs.declared.rows.ClassifierRow.{ClassifierRow}
use Rattle.ecore_drafts.specs.declared.rows.ClassifierRow.TheVariants.{Class, Enum, Plain}
use Rattle.ecore_drafts.specs.declared.rows.ClassRow.{ClassRow}
use Rattle.ecore_drafts.specs.declared.rows.EnumRow.{EnumRow}
use Rattle.ecore_drafts.specs.declared.rows.LiteralRow.{LiteralRow}
use Rattle.ecore_drafts.specs.declared.rows.FeatureRow.{FeatureRow}

-- the classifiers of a document, in its order
abbrev pub ClassifierRows : Type 0
ClassifierRows = List ClassifierRow

-- the name of a classifier
abbrev pub classifier_name : ClassifierRow → Name
classifier_name (Class c) = c.name
classifier_name (Enum e) = e.name
classifier_name (Plain t) = t

-- the names of the features that a class declares
abbrev pub feature_names : List FeatureRow → List Name
feature_names fs = map (λ f. f.name) fs

-- there are no literals
abbrev pub has_none : List LiteralRow → Bool
has_none [] = true
has_none (l ∷ ls) = false

-- the class that a row declares
abbrev pub class_row_of : ClassifierRow → Option ClassRow
class_row_of (Class c) = Some c
class_row_of (Enum e) = None
class_row_of (Plain t) = None

-- the enum that a row declares
abbrev pub enum_row_of : ClassifierRow → Option EnumRow
enum_row_of (Class c) = None
enum_row_of (Enum e) = Some e
enum_row_of (Plain t) = None

-- the data type that a row declares, by its name
abbrev pub data_type_of : ClassifierRow → Option Name
data_type_of (Class c) = None
data_type_of (Enum e) = None
data_type_of (Plain t) = Some t

-- the classes of a document, in its order
abbrev pub classes_of : ClassifierRows → List ClassRow
classes_of rows = filter_map class_row_of rows

-- its enums
abbrev pub enums_of : ClassifierRows → List EnumRow
enums_of rows = filter_map enum_row_of rows

-- the names of its data types
abbrev pub data_types_of : ClassifierRows → List Name
data_types_of rows = filter_map data_type_of rows

-- the number of the class of that name: its place among the classes
unfoldable pub class_number : ClassifierRows → Name → Option ℕ
class_number rows q = number_of q (map (λ c. c.name) (classes_of rows))

-- the number of the enum of that name: its place among the enums
unfoldable pub enum_number : ClassifierRows → Name → Option ℕ
enum_number rows q = number_of q (map (λ e. e.name) (enums_of rows))

-- the name is that of a data type
unfoldable pub is_data_type : ClassifierRows → Name → Bool
is_data_type rows q = list_any (bytes_eq q) (data_types_of rows)

-- the enum at that place has no literal
abbrev pub is_empty_at : List EnumRow → ℕ → Bool
is_empty_at enums e = option_map_or (λ e. has_none e.literals) (slice_get enums e) true

-- the features that a classifier declares
abbrev pub features_in : ClassifierRow → List FeatureRow
features_in (Class c) = c.features
features_in (Enum e) = []
features_in (Plain t) = []

-- the names of each feature: its class's and its own
abbrev pub feature_pairs : ClassRow → List (Name × Name)
feature_pairs c = map (λ f. (c.name, f.name)) c.features

-- a feature's names are those two
abbrev pub is_pair : Name → Name → Name × Name → Bool
is_pair class feature names = bytes_eq class names.0 && bytes_eq feature names.1

-- the number of the feature of that name that the class of that name declares: its place among all, in the order of declaration
unfoldable pub feature_number : ClassifierRows → Name → Name → Option ℕ
feature_number rows class feature = position (is_pair class feature) (flat_map feature_pairs (classes_of rows))

-- the numbers of the direct supertypes of each class
abbrev pub supers_in : ClassifierRows → ClassifierRows → List (List ℕ)
supers_in all rows = map (λ c. filter_map (class_number all) c.supers) (classes_of rows)

-- a supertype is no class of the package
abbrev pub lacks_super : ClassifierRows → ClassifierRow → Bool
lacks_super all (Class c) = list_any (λ t. not (is_some (class_number all t))) c.supers
lacks_super all (Enum e) = false
lacks_super all (Plain t) = false

-- how many features the classifiers declare
abbrev pub feature_total : ClassifierRows → ℕ
feature_total [] = 0
feature_total (row ∷ rows) = length (features_in row) + feature_total rows

-- the number of a class, which is its place, for each feature that it declares
abbrev pub owners_in : ℕ × ClassRow → List ℕ
owners_in class = map (λ f. class.0) class.1.features

-- the number of its class for each feature, in the order of declaration
abbrev pub owners_of : ClassifierRows → List ℕ
owners_of rows = flat_map owners_in (enumerate_from 0 (classes_of rows))

-- the places at which a number stands in a list
abbrev pub places_of : List ℕ → ℕ → List ℕ
places_of xs n = map (λ p. p.0) (filter (λ p. nat_eq p.1 n) (enumerate_from 0 xs))

-- the numbers of the features that each class declares: the places of those, among all, whose class it is
unfoldable pub own_features : ClassifierRows → List (List ℕ)
own_features rows = map (places_of (owners_of rows)) (range_with_len 0 (length (classes_of rows)))
