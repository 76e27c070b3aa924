-- What contracts see of a metamodel.
use Rattle.std.specs.Prelude.{ℕ, Bool, false, List, [], ◌∷◌, Option, None, Some, cond, map, slice_get, nat_eq}
use Rattle.std.specs.List.{list_any}
use Rattle.std.specs.Str.{bytes_eq}
use Rattle.std.specs.Option.{option_map_or}
use Rattle.ecore_meta.specs.declared.meta.Class.{Class}
use Rattle.ecore_meta.specs.declared.meta.Feature.{Feature}
use Rattle.ecore_meta.specs.declared.meta.Enum.{Enum}
use Rattle.ecore_meta.specs.Names.{Name, number_of}

-- classes, features and enums by number, and for each class, by number, the classes that it is: itself and all above it
pub record Meta : Type 0 where
  pub uri : List ℕ
  pub classes : List Class
  pub above : List (List ℕ)
  pub features : List Feature
  pub enums : List Enum

-- d is one of the classes that c is, by the table
abbrev pub is_in : List (List ℕ) → ℕ → ℕ → Bool
is_in above c d = option_map_or (list_any (nat_eq d)) (slice_get above c) false

-- c is d, or d is above it
abbrev pub is_a : Meta → ℕ → ℕ → Bool
is_a meta c d = is_in meta.above c d

-- whether a class has a feature, its own or inherited
abbrev pub has_feature : Meta → ℕ → ℕ → Bool
has_feature meta c f = option_map_or (λ class. list_any (nat_eq f) class.features) (slice_get meta.classes c) false

-- the class of that name
abbrev pub class_named : Meta → Name → Option ℕ
class_named meta q = number_of q (map (λ c. c.name) meta.classes)

-- the name of the feature of that number
abbrev pub name_at : List Feature → ℕ → Name
name_at features n = option_map_or (λ f. f.name) (slice_get features n) []

-- the first of the features that has the name
abbrev pub first_named : List Feature → List ℕ → Name → Option ℕ
first_named features [] q = None
first_named features (n ∷ ns) q = cond (bytes_eq (name_at features n) q) (Some n) (first_named features ns q)

-- the features of a class, its own and inherited, rising; none for a number that is none
abbrev pub features_of : Meta → ℕ → List ℕ
features_of meta c = option_map_or (λ class. class.features) (slice_get meta.classes c) []

-- the feature of that name that the class has, its own or inherited
abbrev pub feature_named : Meta → ℕ → Name → Option ℕ
feature_named meta c q = first_named meta.features (features_of meta c) q
