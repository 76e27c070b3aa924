-- The features of a document, with the names in them resolved.
use Rattle.std.specs.Prelude.{ℕ, List, Option, None, Some, map, codes, cond, if◌then◌else◌}
use Rattle.std.specs.List.{enumerate_from, flat_map}
use Rattle.std.specs.Option.{option_map_or}
use Rattle.std.specs.Str.{bytes_eq}
use Rattle.ecore_meta.specs.Names.{Name}
use Rattle.ecore_drafts.specs.Document.{ClassifierRows, class_number, classes_of, enum_number, enums_of, feature_number, is_data_type, is_empty_at}
use Rattle.ecore_drafts.specs.declared.rows.ClassRow.{ClassRow}
use Rattle.ecore_drafts.specs.declared.rows.EnumRow.{EnumRow}
use Rattle.ecore_drafts.specs.declared.rows.FeatureRow.{FeatureRow}
use Rattle.ecore_drafts.specs.declared.rows.OppositeRow.{OppositeRow}
use Rattle.ecore_drafts.specs.declared.rows.TypeName.{TypeName}
use Rattle.ecore_drafts.specs.declared.rows.TypeName.TheVariants.{Own, Ecore}
use Rattle.ecore_drafts.specs.declared.drafts.FeatureDraft.{FeatureDraft}
use Rattle.ecore_drafts.specs.declared.drafts.Target.{Target}
use Rattle.ecore_drafts.specs.declared.drafts.Target.TheVariants.{Skipped, Unsupported, Missing, Elements, Values}
use Rattle.ecore_drafts.specs.declared.drafts.End.{End}
use Rattle.ecore_drafts.specs.declared.drafts.End.TheVariants.{Open, Nowhere, At}
use Rattle.ecore_meta.specs.declared.meta.Scalar.TheVariants.{Text, Flag, Byte, Short, Int, Long, Literal}

-- the types of Ecore that an attribute may have
abbrev pub ecore_scalar : Name → Target
ecore_scalar t =
    if bytes_eq t (codes "EString") then Values Text
    else if bytes_eq t (codes "EBoolean") then Values Flag
    else if bytes_eq t (codes "EByte") then Values Byte
    else if bytes_eq t (codes "EShort") then Values Short
    else if bytes_eq t (codes "EInt") then Values Int
    else if bytes_eq t (codes "ELong") then Values Long
    else Unsupported

-- an attribute's type: the enum at that place, where it has a literal
abbrev pub enum_target : List EnumRow → ℕ → Target
enum_target enums e = cond (is_empty_at enums e) Missing (Values (Literal e))

-- an attribute's type of the package: an enum, or a data type, whose values are texts
abbrev pub own_scalar : ClassifierRows → Name → Target
own_scalar all t = option_map_or (enum_target (enums_of all)) (enum_number all t) (cond (is_data_type all t) (Values Text) Missing)

-- an attribute's type: one of the package or of Ecore
abbrev pub value_target : ClassifierRows → TypeName → Target
value_target all (Own t) = own_scalar all t
value_target all (Ecore t) = ecore_scalar t

-- a reference's type is a class of the package
abbrev pub class_target : ClassifierRows → TypeName → Target
class_target all (Own t) = option_map_or (λ c. Elements c) (class_number all t) Missing
class_target all (Ecore t) = Missing

-- what a feature's type is; that of a skipped feature is not looked at
abbrev pub target_of : ClassifierRows → FeatureRow → Target
target_of all f = cond f.skipped Skipped (cond f.is_reference (class_target all f.target) (value_target all f.target))

-- the opposite that was found, or nowhere
abbrev pub end_at : Option ℕ → End
end_at None = Nowhere
end_at (Some n) = At n

-- the opposite of that name, where one is named
abbrev pub named_end : ClassifierRows → Option OppositeRow → End
named_end all None = Open
named_end all (Some o) = end_at (feature_number all o.class o.feature)

-- the opposite that a reference names; attributes and skipped features have none
abbrev pub end_of : ClassifierRows → FeatureRow → End
end_of all f = cond f.skipped Open (cond f.is_reference (named_end all f.opposite) Open)

-- a feature that the class of that number declares
abbrev pub draft : ClassifierRows → ℕ → FeatureRow → FeatureDraft
draft all owner f = record {
  owner = owner;
  name = f.name;
  target = target_of all f;
  end = end_of all f;
  lower = f.lower;
  upper = f.upper;
  unique = f.unique;
  containment = f.containment;
  default_text = f.default_text;
}

-- the features of a class, which has its place
abbrev pub drafts_of : ClassifierRows → ℕ × ClassRow → List FeatureDraft
drafts_of all class = map (draft all class.0) class.1.features

-- the features of a document, in the order of their declaration
unfoldable pub drafts : ClassifierRows → List FeatureDraft
drafts all = flat_map (drafts_of all) (enumerate_from 0 (classes_of all))
