-- The keys of an element's object, in the order of their names.
use Rattle.std.specs.Prelude.{ℕ, suc, List, ◌∷◌, map, codes}
use Rattle.std.specs.declared.cmp.Ordering.{Ordering}
use Rattle.std.specs.Ordering.{nat_cmp, ordering_then}
use Rattle.std.specs.Cmp.Lexicographic.{slice_cmp}
use Rattle.finite_maps.specs.Sorts.{in_order}
use Rattle.ecore_meta.specs.Meta.{Meta, features_of, name_at}
use Rattle.model_texts.specs.declared.key.Key.{Key}
use Rattle.model_texts.specs.declared.key.Key.TheVariants.{Ident, Class, Feature}

-- the name of a key
abbrev pub key_name : Meta → Key → List ℕ
key_name meta Ident = codes "_id"
key_name meta Class = codes "eClass"
key_name meta (Feature f) = name_at meta.features f

-- what distinguishes keys of one name
abbrev pub key_number : Key → ℕ
key_number Ident = 0
key_number Class = 1
key_number (Feature f) = suc (suc f)

-- by the bytes of their names
abbrev pub key_cmp : Meta → Key → Key → Ordering
key_cmp meta x y = ordering_then (slice_cmp nat_cmp (key_name meta x) (key_name meta y)) (nat_cmp (key_number x) (key_number y))

-- the id, the class and the features of the class, by name
unfoldable pub keys_of : Meta → ℕ → List Key
keys_of meta c = in_order (key_cmp meta) (Ident ∷ Class ∷ map (λ f. Feature f) (features_of meta c))
