-- What the indexes of a metamodel and of its enums hold.
use Rattle.std.specs.Prelude.{String, ◌≡◌, ◌<◌, ℕ, List, [], ◌∷◌, length, map, ◌^◌}
use Rattle.std.specs.BTreeMap.{BTreeMap, get_by_text}
use Rattle.ecore_meta.specs.Holds.{Holds}
use Rattle.ecore_meta.specs.Meta.{Meta, class_named}
use Rattle.ecore_meta.specs.Names.{Name, number_of}
use Rattle.ecore_meta.specs.Features.{AllListed}
use Rattle.ecore_meta.specs.Values.{AreShort, literal_in}
use Rattle.ecore_meta.specs.declared.meta.Enum.{Enum}

-- an index of literals for each enum, by text and else by name
abbrev pub AllKnown : {Y : Type 0} → List Enum → List (BTreeMap (String Y) ℕ) → Type 0
AllKnown [] [] = Unit {0}
AllKnown [] (m ∷ ms) = ⊥
AllKnown (e ∷ es) [] = ⊥
AllKnown (e ∷ es) (m ∷ ms) = ((q : Name) → get_by_text m q ≡ literal_in e.literals q) × AllKnown es ms

-- enums and their literals can be numbered, and so much holds of the indexes of the literals
pub record HasLiterals {Y : Type 0} (enums : List Enum) (literals : List (BTreeMap (String Y) ℕ)) : Type 0 where
  pub few : length enums < 2 ^ 32
  pub short : AreShort enums
  pub known : AllKnown enums literals

-- what holds of a metamodel, and of its indexes of classes and features
pub record Keeps {Y : Type 0} (meta : Meta) (classes : BTreeMap (String Y) ℕ) (names : BTreeMap (String Y) ℕ) (features : List (BTreeMap ℕ ℕ)) : Type 0 where
  pub holds : Holds meta
  pub by_class : (q : Name) → get_by_text classes q ≡ class_named meta q
  pub by_name : (q : Name) → get_by_text names q ≡ number_of q (map (λ f. f.name) meta.features)
  pub by_feature : AllListed meta.features meta.classes features
