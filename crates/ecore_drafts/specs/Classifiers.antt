-- What an index of the classifiers holds: each with a number, counted from the first on.
use Rattle.std.specs.Prelude.{◌≡◌, ℕ, suc, ◌<◌, ◌+◌, true, false, cond, List, [], ◌∷◌, Option, None, Some, map, length, slice_get, ◌^◌}
use Rattle.std.specs.BTreeMap.{BTreeMap}
use Rattle.std.specs.Option.{option_map, option_and_then}
use denote.Ref.{Bor}
use Rattle.ecore_meta.specs.Names.{Name, has_repeat, number_of, place_in}
use Rattle.ecore_meta.specs.declared.meta.Scalar.TheVariants.{Text, Literal}
use Rattle.ecore_drafts.specs.Document.{ClassifierRows, classifier_name, feature_names, features_in, feature_total, has_none}
use Rattle.ecore_drafts.specs.declared.classifiers.Classifier.{Classifier}
use Rattle.ecore_drafts.specs.declared.classifiers.Classifier.TheVariants.{Class as OfClass, Enum as OfEnum, Plain as OfPlain}
use Rattle.ecore_drafts.specs.declared.drafts.Target.{Target}
use Rattle.ecore_drafts.specs.declared.drafts.Target.TheVariants.{Missing, Values}
use Rattle.ecore_drafts.specs.declared.rows.ClassifierRow.{ClassifierRow}
use Rattle.ecore_drafts.specs.declared.rows.ClassifierRow.TheVariants.{Class, Enum, Plain}
use Rattle.ecore_drafts.specs.Counts.{too_many}

-- each classifier with its number, after so many classes, features and enums
abbrev pub numbered : ℕ → ℕ → ℕ → ClassifierRows → List Classifier
numbered c f e [] = []
numbered c f e (Class row ∷ rows) = OfClass c f ∷ numbered (suc c) (f + length row.features) e rows
numbered c f e (Enum row ∷ rows) = OfEnum e (has_none row.literals) ∷ numbered c f (suc e) rows
numbered c f e (Plain t ∷ rows) = OfPlain ∷ numbered c f e rows

-- what the index has for the name: the class or the enum of that number, or a data type
unfoldable pub classifier_named : ClassifierRows → Name → Option Classifier
classifier_named rows q = option_and_then (λ p. slice_get (numbered 0 0 0 rows) p) (number_of q (map classifier_name rows))

-- the number of the class, where the classifier is one
abbrev pub class_in : Option Classifier → Option ℕ
class_in None = None
class_in (Some (OfClass c f)) = Some c
class_in (Some (OfEnum e empty)) = None
class_in (Some OfPlain) = None

-- the classifier as an attribute's type
abbrev pub scalar_in : Option Classifier → Target
scalar_in None = Missing
scalar_in (Some (OfClass c f)) = Missing
scalar_in (Some (OfEnum e empty)) = cond empty Missing (Values (Literal e))
scalar_in (Some OfPlain) = Values Text

-- the number of the feature of that name that a class declares, whose first feature has its number
abbrev pub number_in : Option ClassifierRow → Option Classifier → Name → Option ℕ
number_in (Some (Class row)) (Some (OfClass c first)) feature = option_map (λ k. first + k) (number_of feature (feature_names row.features))
number_in (Some (Class row)) (Some (OfEnum e empty)) feature = None
number_in (Some (Class row)) (Some OfPlain) feature = None
number_in (Some (Class row)) None feature = None
number_in (Some (Enum e)) k feature = None
number_in (Some (Plain t)) k feature = None
number_in None k feature = None

-- the same of the classifier at a place
abbrev pub number_at : ClassifierRows → ℕ → Name → Option ℕ
number_at rows p feature = number_in (slice_get rows p) (slice_get (numbered 0 0 0 rows) p) feature

-- the place of each feature that the row declares, by its name
abbrev pub Placed : ClassifierRow → BTreeMap (Bor Name) ℕ → Type 0
Placed row index = (q : Name) → place_in index q ≡ number_of q (feature_names (features_in row))

-- the same for each row
abbrev pub AllPlaced : ClassifierRows → List (BTreeMap (Bor Name) ℕ) → Type 0
AllPlaced [] [] = Unit {0}
AllPlaced [] (m ∷ ms) = ⊥
AllPlaced (row ∷ rows) [] = ⊥
AllPlaced (row ∷ rows) (m ∷ ms) = Placed row m × AllPlaced rows ms

-- no name stands twice; the place of each name, what stands at each place, and the places of the features of each class
pub record Tells (rows : ClassifierRows) (index : BTreeMap (Bor Name) ℕ) (numbers : List Classifier) (own : List (BTreeMap (Bor Name) ℕ)) : Type 0 where
  pub apart : has_repeat (map classifier_name rows) ≡ false
  pub places : (q : Name) → place_in index q ≡ number_of q (map classifier_name rows)
  pub placed : AllPlaced rows own
  pub kinds : numbers ≡ numbered 0 0 0 rows
  pub features : feature_total rows < too_many

-- none exactly where a name stands twice
abbrev pub MayHave : ClassifierRows → Option ClassifierRows → Type 0
MayHave rows None = has_repeat (map classifier_name rows) ≡ true
MayHave rows (Some found) = (has_repeat (map classifier_name rows) ≡ false) × (found ≡ rows)

-- the numbers of the features that the class declares are below 2^32
abbrev pub FitsIn : ClassifierRow → Option Classifier → Type 0
FitsIn (Class row) (Some (OfClass n first)) = first + length row.features < 2 ^ 32
FitsIn row kind = Unit {0}
