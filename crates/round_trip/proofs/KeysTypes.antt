-- The types of the rows, links and keys, which their crates use alone: named by the lists and functions that have them.
use Rattle.std.proofs.Common.{◌≡◌, ℕ, suc, false, List, [], ◌∷◌, map, refl}
use Rattle.finite_maps.specs.Sorts.{in_order}
use Rattle.ecore_meta.specs.Meta.{Meta, features_of}
use Rattle.model_documents.specs.Parts.{no_part}
use Rattle.model_texts.specs.Keys.{key_cmp, key_number, keys_of}

-- the type of the items of a list
abbrev pub item_of : {A : Type 0} → List A → Type 0
item_of {A} xs = A

-- the type of what a function takes
abbrev pub taken_by : {A B : Type 0} → (A → B) → Type 0
taken_by {A} {B} f = A

-- an element as the walk finds it
abbrev pub ElementDraft : Type 0
ElementDraft = item_of no_part.rows

-- the links of a reference as the walk finds them
abbrev pub Links : Type 0
Links = item_of no_part.links

-- a key of an element's object
abbrev pub Key : Type 0
Key = taken_by key_number

-- ---- the keys of a class with one feature, whose name is empty: the feature, the id, the class
abbrev probe : ℕ → Meta
probe f = record { uri = []; classes = record { name = []; is_abstract = false; features = f ∷ [] } ∷ []; above = []; features = []; enums = [] }

-- the list has an item
abbrev IsFull : {A : Type 0} → List A → Type 0
IsFull [] = ⊥
IsFull (x ∷ xs) = Unit {0}

-- its first item
abbrev head : {A : Type 0} (xs : List A) → IsFull xs → A
head [] full = absurd full
head (x ∷ xs) full = x

-- the items after it
abbrev tail : {A : Type 0} → List A → List A
tail [] = []
tail (x ∷ xs) = xs

-- the key of a feature
unfoldable pub Feature : ℕ → Key
unfolding keys_of
Feature f = head (keys_of (probe f) 0) tt

-- the key of the id
unfoldable pub Ident : Key
unfolding keys_of
Ident = head (tail (keys_of (probe 0) 0)) tt

-- the key of the class
unfoldable pub Class : Key
unfolding keys_of
Class = head (tail (tail (keys_of (probe 0) 0))) tt

-- the keys of an object, in order
pub keys_are : (meta : Meta) (c : ℕ) → keys_of meta c ≡ in_order (key_cmp meta) (Ident ∷ Class ∷ map Feature (features_of meta c))
unfolding keys_of Ident Class Feature
keys_are meta c = refl

-- the number of a feature's key
pub feature_number : (f : ℕ) → key_number (Feature f) ≡ suc (suc f)
unfolding keys_of Feature
feature_number f = refl
