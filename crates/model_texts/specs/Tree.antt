-- The text of a model, as a function of a state. It is JSON without spaces, in which ranks do not show but by the order of lists.
use Rattle.std.specs.Prelude.{ℕ, zero, suc, Bool, true, false, List, [], ◌∷◌, ◌++◌, codes, Option, None, Some, map, slice_get}
use Rattle.std.specs.Option.{option_map_or}
use Rattle.std.specs.FinMap.{get, len}
use Rattle.serde_json.specs.Data.{Data, string, array, object, no_items, Members, no_members, member}
use Rattle.serde_json.specs.View.{items_of}
use Rattle.serde_json.specs.Written.{compact_text}
use Rattle.ecore_meta.specs.Meta.{Meta}
use Rattle.ecore_meta.specs.Typing.{is_one, kind_of, upper_of}
use Rattle.ecore_meta.specs.declared.meta.Kind.{Kind}
use Rattle.ecore_meta.specs.declared.meta.Kind.TheVariants.{Attr, AttrMany, Bounded, Free, Contains, Container, Skip}
use Rattle.ecore_meta.specs.declared.meta.Scalar.{Scalar}
use Rattle.ecore_meta.specs.declared.meta.Value.{Value}
use Rattle.model_state.specs.declared.entry.Entry.{Entry}
use Rattle.model_state.specs.declared.step.Place.{Place}
use Rattle.model_state.specs.declared.step.Place.TheVariants.{Root, Inside}
use Rattle.model_state.specs.Keys.{IdBytes}
use Rattle.model_state.specs.Listing.{children, targets, values_at}
use Rattle.model_state.specs.State.{State}
use Rattle.emfjson_values.specs.Values.{data_of}
use Rattle.model_texts.specs.declared.key.Key.{Key}
use Rattle.model_texts.specs.declared.key.Key.TheVariants.{Ident, Class, Feature}
use Rattle.model_texts.specs.Keys.{key_name, keys_of}

-- ---- the lists of a state, without their ranks

-- the ids of entries
abbrev pub entry_ids : List Entry → List IdBytes
entry_ids es = map (λ (e : Entry). e.id) es

-- the targets of a reference, in order
abbrev pub target_ids : State → IdBytes → ℕ → List IdBytes
target_ids m a f = entry_ids (targets m.row a f)

-- the elements of a place, in order
abbrev pub child_ids : State → Place → List IdBytes
child_ids m p = entry_ids (children m.place m.prank p)

-- ---- an element's object

-- the one value of a list that may hold one, else the array
abbrev pub one_or_all : Bool → Data → List Data → Data
one_or_all true d [] = d
one_or_all true d (e ∷ ds) = array (items_of (d ∷ e ∷ ds))
one_or_all false d ds = array (items_of (d ∷ ds))

-- a list under a key, which is absent where the list is empty
abbrev pub listed : Bool → List Data → Option Data
listed single [] = None
listed single (d ∷ ds) = Some (one_or_all single d ds)

-- the value of a single attribute that is set
abbrev pub first_value : Meta → Scalar → List Value → Option Data
first_value meta scalar [] = None
first_value meta scalar (v ∷ vs) = Some (data_of meta scalar v)

-- a reference to an element, by its id
abbrev pub reference : IdBytes → Data
reference b = object (member (codes "$ref") (string b) no_members)

-- a reference or containment has one value rather than a list where its upper bound is 1
abbrev pub is_single : Meta → ℕ → Bool
is_single meta f = is_one (upper_of meta f)

-- what stands under a feature; below gives the objects of the elements inside. The container is shown by the nesting alone
abbrev pub content : Meta → State → (IdBytes → Data) → IdBytes → ℕ → Kind → Option Data
content meta m below e f (Attr scalar default) = first_value meta scalar (values_at m e f)
content meta m below e f (AttrMany scalar unique) = listed false (map (data_of meta scalar) (values_at m e f))
content meta m below e f (Bounded target opposite) = listed (is_single meta f) (map reference (target_ids m e f))
content meta m below e f (Free target opposite) = listed (is_single meta f) (map reference (target_ids m e f))
content meta m below e f (Contains target opposite) = listed (is_single meta f) (map below (child_ids m (Inside e f)))
content meta m below e f (Container target opposite) = None
content meta m below e f Skip = None

-- a class is named by the namespace URI, `#//` and its name
abbrev pub class_text : Meta → ℕ → List ℕ
class_text meta c = meta.uri ++ codes "#//" ++ option_map_or (λ class. class.name) (slice_get meta.classes c) []

-- what stands under a key
abbrev pub part : Meta → State → (IdBytes → Data) → IdBytes → ℕ → Key → Option Data
part meta m below e c Ident = Some (string e)
part meta m below e c Class = Some (string (class_text meta c))
part meta m below e c (Feature f) = content meta m below e f (kind_of meta f)

-- one member more, where something stands under the key
abbrev pub with_member : List ℕ → Option Data → Members → Members
with_member k None ms = ms
with_member k (Some d) ms = member k d ms

-- the keys under which something stands
abbrev pub members : (Key → List ℕ) → (Key → Option Data) → List Key → Members
members name part [] = no_members
members name part (k ∷ ks) = with_member (name k) (part k) (members name part ks)

-- an element's object, by its class
abbrev pub object_of : Meta → State → (IdBytes → Data) → IdBytes → Option ℕ → Data
object_of meta m below e None = object no_members
object_of meta m below e (Some c) = object (members (key_name meta) (part meta m below e c) (keys_of meta c))

-- an element's object, with so many levels of objects
unfoldable pub element : Meta → State → ℕ → IdBytes → Data
element meta m zero e = object no_members
element meta m (suc n) e = object_of meta m (element meta m n) e (get m.kind e)

-- there are no more levels than elements
unfoldable pub whole : Meta → State → IdBytes → Data
whole meta m e = element meta m (len m.kind) e

-- ---- the document

-- the empty array for no element, the object of the one root, or the array of the roots
abbrev pub one_or_list : Bool → List Data → Data
one_or_list single [] = array no_items
one_or_list single (d ∷ ds) = one_or_all single d ds

-- the tree of a model
abbrev pub tree : Meta → State → Data
tree meta m = one_or_list true (map (whole meta m) (child_ids m Root))

-- the text of the model
abbrev pub text : Meta → State → List ℕ
text meta m = compact_text (tree meta m)
