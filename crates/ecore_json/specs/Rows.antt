-- The rows that a package describes, in its order: its classifiers with their features and literals, by name.
use Rattle.std.specs.Prelude.{ℤ, pos, true, false, List, [], ◌∷◌, ◌++◌, map, codes, cond, Option, None, Some, is_some, option_and_then}
use Rattle.std.specs.Option.{option_map_or}
use Rattle.serde_json.specs.Data.{Data, Items, no_items, item}
use Rattle.serde_json.specs.Find.{get, as_array}
use Rattle.ecore_drafts.specs.declared.rows.MetaRows.{MetaRows}
use Rattle.ecore_drafts.specs.declared.rows.ClassifierRow.{ClassifierRow}
use Rattle.ecore_drafts.specs.declared.rows.ClassifierRow.TheVariants.{Class, Enum, Plain}
use Rattle.ecore_drafts.specs.declared.rows.ClassRow.{ClassRow}
use Rattle.ecore_drafts.specs.declared.rows.EnumRow.{EnumRow}
use Rattle.ecore_drafts.specs.declared.rows.LiteralRow.{LiteralRow}
use Rattle.ecore_drafts.specs.declared.rows.FeatureRow.{FeatureRow}
use Rattle.ecore_drafts.specs.declared.rows.OppositeRow.{OppositeRow}
use Rattle.ecore_drafts.specs.declared.rows.TypeName.{TypeName}
use Rattle.ecore_drafts.specs.declared.rows.TypeName.TheVariants.{Own, Ecore}
use Rattle.ecore_json.specs.Classes.{ecore_class, ecore_enum, ecore_reference}
use Rattle.ecore_meta.specs.Names.{Name}
use Rattle.ecore_json.specs.References.{ecore_name, own_name, own_feature}
use Rattle.ecore_json.specs.Walk.{text_in, is_a, flag_at, whole_in, is_skipped}

-- the text at a key, empty where there is none
abbrev pub text_at : Name → Data → Name
text_at k d = option_map_or (λ t. t) (text_in k d) []

-- the whole number at a key, or its default
abbrev pub whole_at : Name → ℤ → Data → ℤ
whole_at k default d = option_map_or (λ n. n) (option_and_then whole_in (get k d)) default

-- the values of an array
abbrev pub list_of : Items → List Data
list_of no_items = []
list_of (item d ds) = d ∷ list_of ds

-- the values of the array, or the value alone where it is none
abbrev pub alone_or : Data → Option Items → List Data
alone_or d None = d ∷ []
alone_or d (Some ds) = list_of ds

-- the values of a list; a single value stands for the list of it alone
abbrev pub elements : Option Data → List Data
elements None = []
elements (Some d) = alone_or d (as_array d)

-- the reference that the object at a key holds
abbrev pub link_at : Name → Data → Name
link_at k d = option_map_or (text_at (codes "$ref")) (get k d) []

-- a type of Ecore by its name, or else one of the package
abbrev pub type_from : Option Name → Option Name → TypeName
type_from (Some t) own = Ecore t
type_from None own = Own (option_map_or (λ t. t) own [])

-- the type that a reference names: one of Ecore, or else one of the package
abbrev pub type_name : Name → Name → TypeName
type_name own t = type_from (ecore_name t) (own_name own t)

-- the class that a supertype's reference names; a reference to a type of Ecore stands for itself, since no class has such a name
abbrev pub super_name : Name → Name → Name
super_name own t = cond (is_some (ecore_name t)) t (option_map_or (λ n. n) (own_name own t) [])

-- the class that an object refers to as a supertype
abbrev pub super_of : Name → Data → Name
super_of own d = super_name own (text_at (codes "$ref") d)

-- an opposite, by its class and its feature
abbrev pub opposite_from : Option (Name × Name) → Option OppositeRow
opposite_from None = None
opposite_from (Some p) = Some (record { class = p.0; feature = p.1 })

-- the opposite that a reference names
abbrev pub opposite_at : Name → Data → Option OppositeRow
opposite_at own d = opposite_from (own_feature own (link_at (codes "eOpposite") d))

-- the default text of an attribute; that of a reference is not read
abbrev pub default_at : Data → Option Name
default_at d = cond (is_a ecore_reference d) None (text_in (codes "defaultValueLiteral") d)

-- an attribute or a reference, with its defaults where something is not said
abbrev pub feature_row : Name → Data → FeatureRow
feature_row own d = record {
  name = text_at (codes "name") d;
  is_reference = is_a ecore_reference d;
  target = type_name own (link_at (codes "eType") d);
  lower = whole_at (codes "lowerBound") (pos 0) d;
  upper = whole_at (codes "upperBound") (pos 1) d;
  unique = flag_at (codes "unique") true d;
  containment = flag_at (codes "containment") false d;
  opposite = opposite_at own d;
  default_text = default_at d;
  skipped = is_skipped d;
}

-- a literal, whose text is its name where none is said
abbrev pub literal_row : Data → LiteralRow
literal_row d = record {
  name = text_at (codes "name") d;
  value = whole_at (codes "value") (pos 0) d;
  literal = option_map_or (λ t. t) (text_in (codes "literal") d) (text_at (codes "name") d);
}

-- a class, with its supertypes and features
abbrev pub class_row : Name → Data → ClassRow
class_row own d = record {
  name = text_at (codes "name") d;
  is_abstract = flag_at (codes "abstract") false d;
  supers = map (super_of own) (elements (get (codes "eSuperTypes") d));
  features = map (feature_row own) (elements (get (codes "eStructuralFeatures") d));
}

-- an enum, with its literals
abbrev pub enum_row : Data → EnumRow
enum_row d = record {
  name = text_at (codes "name") d;
  literals = map literal_row (elements (get (codes "eLiterals") d));
}

-- a class, an enum or else a data type
abbrev pub classifier_row : Name → Data → ClassifierRow
classifier_row own d =
    cond (is_a ecore_class d) (Class (class_row own d))
    (cond (is_a ecore_enum d) (Enum (enum_row d)) (Plain (text_at (codes "name") d)))

-- what the package's own references begin with, beside `//` and `#//`
abbrev pub own_prefix : Data → Name
own_prefix d = text_at (codes "nsURI") d ++ codes "#//"

-- what a package describes
unfoldable pub rows_of : Data → MetaRows
rows_of d = record {
  name = text_at (codes "name") d;
  uri = text_at (codes "nsURI") d;
  classifiers = map (classifier_row (own_prefix d)) (elements (get (codes "eClassifiers") d));
}
