-- Which keys an object may have, by what it is, and what each asks of its value.
use Rattle.std.specs.Prelude.{ℕ, List, [], ◌∷◌, codes, Option, Some, None, cond}
use Rattle.std.specs.Str.{bytes_eq}
use Rattle.ecore_json.specs.declared.table.Shape.{Shape}
use Rattle.ecore_json.specs.declared.table.Shape.TheVariants.{Package, Class, Enum, DataType, Literal as OfLiteral, Attribute, Reference, TypeLink}
use Rattle.ecore_json.specs.declared.table.Shape.TheVariants.{OppositeLink}
use Rattle.ecore_json.specs.declared.table.Position.TheVariants.{Classifier, Feature, Literal as InLiterals, TypeLink as OfTypeLink}
use Rattle.ecore_json.specs.declared.table.Position.TheVariants.{OppositeLink as OfOppositeLink}
use Rattle.ecore_json.specs.declared.table.ValueKind.TheVariants.{Anything, Flag, Whole, Text, Name, FeatureName, TypeReference, OppositeReference}
use Rattle.ecore_json.specs.declared.table.Wanted.{Wanted}
use Rattle.ecore_json.specs.declared.table.Wanted.TheVariants.{Value, Object, Objects}

-- the keys that an object of the shape may have, each with what it asks of its value
abbrev pub table : Shape → List (List ℕ × Wanted)
table Package =
    (codes "_id", Value Anything)
    ∷ (codes "eAnnotations", Value Anything)
    ∷ (codes "eClass", Value Anything)
    ∷ (codes "eClassifiers", Objects Classifier)
    ∷ (codes "eSubpackages", Value Anything)
    ∷ (codes "name", Value Name)
    ∷ (codes "nsPrefix", Value Anything)
    ∷ (codes "nsURI", Value Text)
    ∷ []
table Class =
    (codes "_id", Value Anything)
    ∷ (codes "abstract", Value Flag)
    ∷ (codes "eAnnotations", Value Anything)
    ∷ (codes "eClass", Value Anything)
    ∷ (codes "eGenericSuperTypes", Value Anything)
    ∷ (codes "eOperations", Value Anything)
    ∷ (codes "eStructuralFeatures", Objects Feature)
    ∷ (codes "eSuperTypes", Objects OfTypeLink)
    ∷ (codes "eTypeParameters", Value Anything)
    ∷ (codes "instanceClassName", Value Anything)
    ∷ (codes "instanceTypeName", Value Anything)
    ∷ (codes "interface", Value Anything)
    ∷ (codes "name", Value Name)
    ∷ []
table Enum =
    (codes "_id", Value Anything)
    ∷ (codes "eAnnotations", Value Anything)
    ∷ (codes "eClass", Value Anything)
    ∷ (codes "eLiterals", Objects InLiterals)
    ∷ (codes "instanceClassName", Value Anything)
    ∷ (codes "instanceTypeName", Value Anything)
    ∷ (codes "name", Value Name)
    ∷ (codes "serializable", Value Anything)
    ∷ []
table DataType =
    (codes "_id", Value Anything)
    ∷ (codes "eAnnotations", Value Anything)
    ∷ (codes "eClass", Value Anything)
    ∷ (codes "instanceClassName", Value Anything)
    ∷ (codes "instanceTypeName", Value Anything)
    ∷ (codes "name", Value Name)
    ∷ (codes "serializable", Value Anything)
    ∷ []
table OfLiteral =
    (codes "_id", Value Anything)
    ∷ (codes "eAnnotations", Value Anything)
    ∷ (codes "eClass", Value Anything)
    ∷ (codes "literal", Value Text)
    ∷ (codes "name", Value Name)
    ∷ (codes "value", Value Whole)
    ∷ []
table Attribute =
    (codes "_id", Value Anything)
    ∷ (codes "changeable", Value Anything)
    ∷ (codes "defaultValueLiteral", Value Text)
    ∷ (codes "derived", Value Flag)
    ∷ (codes "eAnnotations", Value Anything)
    ∷ (codes "eClass", Value Anything)
    ∷ (codes "eGenericType", Value Anything)
    ∷ (codes "eType", Object OfTypeLink)
    ∷ (codes "iD", Value Anything)
    ∷ (codes "lowerBound", Value Whole)
    ∷ (codes "name", Value FeatureName)
    ∷ (codes "ordered", Value Anything)
    ∷ (codes "transient", Value Flag)
    ∷ (codes "unique", Value Flag)
    ∷ (codes "unsettable", Value Anything)
    ∷ (codes "upperBound", Value Whole)
    ∷ (codes "volatile", Value Flag)
    ∷ []
table Reference =
    (codes "_id", Value Anything)
    ∷ (codes "changeable", Value Anything)
    ∷ (codes "containment", Value Flag)
    ∷ (codes "defaultValueLiteral", Value Anything)
    ∷ (codes "derived", Value Flag)
    ∷ (codes "eAnnotations", Value Anything)
    ∷ (codes "eClass", Value Anything)
    ∷ (codes "eGenericType", Value Anything)
    ∷ (codes "eKeys", Value Anything)
    ∷ (codes "eOpposite", Object OfOppositeLink)
    ∷ (codes "eType", Object OfTypeLink)
    ∷ (codes "lowerBound", Value Whole)
    ∷ (codes "name", Value FeatureName)
    ∷ (codes "ordered", Value Anything)
    ∷ (codes "resolveProxies", Value Anything)
    ∷ (codes "transient", Value Flag)
    ∷ (codes "unique", Value Flag)
    ∷ (codes "unsettable", Value Anything)
    ∷ (codes "upperBound", Value Whole)
    ∷ (codes "volatile", Value Flag)
    ∷ []
table TypeLink =
    (codes "$ref", Value TypeReference)
    ∷ (codes "_id", Value Anything)
    ∷ (codes "eClass", Value Anything)
    ∷ []
table OppositeLink =
    (codes "$ref", Value OppositeReference)
    ∷ (codes "_id", Value Anything)
    ∷ (codes "eClass", Value Anything)
    ∷ []

-- what the first row of that key asks
abbrev pub row_of : List (List ℕ × Wanted) → List ℕ → Option Wanted
row_of [] k = None
row_of (r ∷ rs) k = cond (bytes_eq k r.0) (Some r.1) (row_of rs k)

-- what the key asks of its value in an object of the shape
unfoldable pub wants : Shape → List ℕ → Option Wanted
wants s k = row_of (table s) k

-- the keys that an object of the shape must have, in the order of their bytes
abbrev pub required : Shape → List (List ℕ)
required Package = codes "name" ∷ codes "nsURI" ∷ []
required Class = codes "name" ∷ []
required Enum = codes "name" ∷ []
required DataType = codes "name" ∷ []
required OfLiteral = codes "name" ∷ []
required Attribute = codes "eType" ∷ codes "name" ∷ []
required Reference = codes "eType" ∷ codes "name" ∷ []
required TypeLink = codes "$ref" ∷ []
required OppositeLink = codes "$ref" ∷ []
