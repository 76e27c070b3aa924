-- The metamodel that a document without a fault stands for.
use Rattle.std.specs.Prelude.{IsTrue, ◌↔◌, ℕ, ℤ, pos, negsuc, ◌<◌, List, Option, None, Some, map, length, cond}
use Rattle.std.specs.List.{enumerate_from}
use Rattle.std.specs.Ordering.{int_eq}
use Rattle.ecore_drafts.specs.Document.{ClassifierRows, classes_of, supers_in}
use Rattle.ecore_drafts.specs.Drafts.{drafts}
use Rattle.ecore_build.specs.Faults.{contains_back, is_skipped, own_of, features_of, enums_in}
use Rattle.ecore_meta.specs.Meta.{Meta, is_a}
use Rattle.ecore_drafts.specs.Supers.{Leads, all_above}
use Rattle.ecore_meta.specs.Values.{value_of, default_of}
use Rattle.ecore_drafts.specs.declared.drafts.FeatureDraft.{FeatureDraft}
use Rattle.ecore_drafts.specs.declared.drafts.Target.{Target}
use Rattle.ecore_drafts.specs.declared.drafts.Target.TheVariants.{Skipped, Unsupported, Missing, Elements, Values}
use Rattle.ecore_drafts.specs.declared.drafts.End.{End}
use Rattle.ecore_drafts.specs.declared.drafts.End.TheVariants.{Open, Nowhere, At}
use Rattle.ecore_meta.specs.declared.meta.Class.{Class}
use Rattle.ecore_meta.specs.declared.meta.Enum.{Enum as EnumOf}
use Rattle.ecore_meta.specs.declared.meta.Feature.{Feature}
use Rattle.ecore_meta.specs.declared.meta.Kind.{Kind}
use Rattle.ecore_meta.specs.declared.meta.Kind.TheVariants.{Attr, AttrMany, Bounded, Free, Contains, Container, Skip}
use Rattle.ecore_meta.specs.declared.meta.Scalar.{Scalar}
use Rattle.ecore_meta.specs.declared.meta.Value.{Value}
use Rattle.ecore_drafts.specs.declared.rows.MetaRows.{MetaRows}
use Rattle.ecore_drafts.specs.declared.rows.ClassRow.{ClassRow}

-- a bound as a natural number, 0 for a negative one
abbrev pub natural : ℤ → ℕ
natural (pos n) = n
natural (negsuc n) = 0

-- the number of the opposite, where there is one
abbrev pub end_number : End → Option ℕ
end_number Open = None
end_number Nowhere = None
end_number (At g) = Some g

-- the default of a single attribute: its text's value, or else that of its type
abbrev pub default_in : List EnumOf → Scalar → Option (List ℕ) → Option Value
default_in enums s None = default_of s
default_in enums s (Some text) = value_of enums s text

-- an attribute: single where its upper bound is 1, else many-valued
abbrev pub attribute : List EnumOf → FeatureDraft → Scalar → Kind
attribute enums d s = cond (int_eq d.upper (pos 1)) (Attr s (default_in enums s d.default_text)) (AttrMany s d.unique)

-- a reference to the container, by the containment that is its opposite
abbrev pub container : ℕ → End → Kind
container c Open = Skip
container c Nowhere = Skip
container c (At g) = Container c g

-- a plain reference: free where it has no upper bound, else bounded
abbrev pub plain : FeatureDraft → ℕ → Kind
plain d c = cond (int_eq d.upper (negsuc 0)) (Free c (end_number d.end)) (Bounded c (end_number d.end))

-- a reference: elements inside, the container where the opposite has elements inside, or links
abbrev pub reference : List FeatureDraft → FeatureDraft → ℕ → Kind
reference ds d c = cond d.containment (Contains c (end_number d.end)) (cond (contains_back ds d.end) (container c d.end) (plain d c))

-- the kind of a feature, by what its type is
abbrev pub kind_in : List EnumOf → List FeatureDraft → FeatureDraft → Target → Kind
kind_in enums ds d Skipped = Skip
kind_in enums ds d Unsupported = Skip
kind_in enums ds d Missing = Skip
kind_in enums ds d (Elements c) = reference ds d c
kind_in enums ds d (Values s) = attribute enums d s

-- a skipped feature has the bounds 0 and 1
abbrev pub lower_from : FeatureDraft → ℕ
lower_from d = cond (is_skipped d.target) 0 (natural d.lower)

-- the upper bound, None where there is none
abbrev pub upper_from : FeatureDraft → Option ℕ
upper_from d = cond (is_skipped d.target) (Some 1) (cond (int_eq d.upper (negsuc 0)) None (Some (natural d.upper)))

-- a feature of the metamodel, by its draft
abbrev pub feature_from : List EnumOf → List FeatureDraft → FeatureDraft → Feature
feature_from enums ds d = record { owner = d.owner; name = d.name; lower = lower_from d; upper = upper_from d; kind = kind_in enums ds d d.target }

-- a class of a document, which has its place, with its features
abbrev pub class_from : List (List ℕ) → ℕ × ClassRow → Class
class_from features class = record { name = class.1.name; is_abstract = class.1.is_abstract; features = own_of features class.0 }

-- the classes with the features of each
abbrev pub classes_from : List (List ℕ) → ClassifierRows → List Class
classes_from features rows = map (class_from features) (enumerate_from 0 (classes_of rows))

-- the metamodel that a package stands for
abbrev pub meta_of : MetaRows → Meta
meta_of rows = record {
  uri = rows.uri;
  classes = classes_from (features_of rows.classifiers) rows.classifiers;
  above = all_above (supers_in rows.classifiers rows.classifiers);
  features = map (feature_from (enums_in rows.classifiers) (drafts rows.classifiers)) (drafts rows.classifiers);
  enums = enums_in rows.classifiers;
}

-- a class is another exactly where a list of classes leads there, each a direct supertype of the one before
abbrev pub Chains : List (List ℕ) → Meta → Type 0
Chains supers meta = (c d : ℕ) → c < length meta.classes → (IsTrue (is_a meta c d) ↔ Leads supers c d)
