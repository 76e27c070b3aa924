-- What one metamodel has of another, by names.
use Rattle.std.specs.Prelude.{String, ◌≡◌, ℕ, Bool, true, false, List, [], ◌∷◌, ◌++◌, ◌&&◌, Option, None, Some, cond, codes, map, nat_eq, slice_get, length}
use Rattle.metamodel_growth.specs.declared.fault.EvolveFault.{EvolveFault}
use Rattle.metamodel_growth.specs.declared.fault.EvolveFault.TheVariants.{Memory, NotExtension}
use Rattle.std.specs.BTreeMap.{BTreeMap, get_by_text}
use Rattle.std.specs.List.{list_all, range_with_len}
use Rattle.std.specs.Option.{option_and_then, option_map_or}
use Rattle.std.specs.Str.{bytes_eq}
use Rattle.finite_maps.specs.Equal.{option_eq}
use Rattle.model_state.specs.Typing.{flag_eq, value_eq}
use Rattle.ecore_meta.specs.Above.{above_of}
use Rattle.ecore_meta.specs.Ends.{owner_of}
use Rattle.ecore_meta.specs.Meta.{Meta, class_named, feature_named, is_a, name_at}
use Rattle.ecore_meta.specs.Names.{Name, number_of}
use Rattle.ecore_meta.specs.Typing.{literals_of}
use Rattle.ecore_meta.specs.declared.meta.EnumLiteral.{EnumLiteral}
use Rattle.ecore_meta.specs.declared.meta.Feature.{Feature}
use Rattle.ecore_meta.specs.declared.meta.Kind.{Kind}
use Rattle.ecore_meta.specs.declared.meta.Kind.TheVariants.{Attr, AttrMany, Bounded, Free, Contains, Container, Skip}
use Rattle.ecore_meta.specs.declared.meta.Scalar.{Scalar}
use Rattle.ecore_meta.specs.declared.meta.Scalar.TheVariants.{Text, Flag, Byte, Short, Int, Long, Literal}

-- the name of the class of that number; empty for a number that is none, as all names here
abbrev pub class_name : Meta → ℕ → Name
class_name meta c = option_map_or (λ x. x.name) (slice_get meta.classes c) []

-- and of the enum
abbrev pub enum_name : Meta → ℕ → Name
enum_name meta e = option_map_or (λ x. x.name) (slice_get meta.enums e) []

-- whether the class of that number has no elements of its own
abbrev pub is_abstract : Meta → ℕ → Bool
is_abstract meta c = option_map_or (λ x. x.is_abstract) (slice_get meta.classes c) false

-- the name of the class that declares the feature
abbrev pub owner_name : Meta → ℕ → Name
owner_name meta f = option_map_or (class_name meta) (owner_of meta f) []

-- the enum of that name
abbrev pub enum_named : Meta → Name → Option ℕ
enum_named meta q = number_of q (map (λ x. x.name) meta.enums)

-- the index has the number of each enum under its name
abbrev pub IsEnumIndex : {Y : Type 0} → BTreeMap (String Y) ℕ → Meta → Type 0
IsEnumIndex index meta = (q : Name) → get_by_text index q ≡ enum_named meta q

-- the feature of that name that the class declares
abbrev pub declared_named : Meta → ℕ → Name → Option ℕ
declared_named meta c q = option_and_then (λ f. cond (option_eq nat_eq (owner_of meta f) (Some c)) (Some f) None) (feature_named meta c q)

-- the class of the second metamodel that has the name of the first's
abbrev pub class_in : Meta → Meta → ℕ → Option ℕ
class_in o n c = class_named n (class_name o c)

-- and its enum
abbrev pub enum_in : Meta → Meta → ℕ → Option ℕ
enum_in o n e = enum_named n (enum_name o e)

-- and its feature, which the class of the owner's name declares
abbrev pub feature_in : Meta → Meta → ℕ → Option ℕ
feature_in o n f = option_and_then (λ c. declared_named n c (name_at o.features f)) (class_named n (owner_name o f))

-- a class of each with one name
abbrev pub class_same : Meta → Meta → ℕ → ℕ → Bool
class_same o n c d = bytes_eq (class_name o c) (class_name n d)

-- an enum of each with one name
abbrev pub enum_same : Meta → Meta → ℕ → ℕ → Bool
enum_same o n e d = bytes_eq (enum_name o e) (enum_name n d)

-- a feature of each with one name, declared by classes with one name
abbrev pub feature_same : Meta → Meta → ℕ → ℕ → Bool
feature_same o n f g = bytes_eq (owner_name o f) (owner_name n g) && bytes_eq (name_at o.features f) (name_at n.features g)

-- a type of values of each, enums by names
abbrev pub scalar_same : Meta → Meta → Scalar → Scalar → Bool
scalar_same o n Text Text = true
scalar_same o n Flag Flag = true
scalar_same o n Byte Byte = true
scalar_same o n Short Short = true
scalar_same o n Int Int = true
scalar_same o n Long Long = true
scalar_same o n (Literal e) (Literal d) = enum_same o n e d
scalar_same o n s t = false

-- no opposite in both, or one with the same names
abbrev pub opposite_same : Meta → Meta → Option ℕ → Option ℕ → Bool
opposite_same o n None None = true
opposite_same o n (Some f) (Some g) = feature_same o n f g
opposite_same o n None (Some g) = false
opposite_same o n (Some f) None = false

-- a kind of each with the same parts, by names
abbrev pub kind_same : Meta → Meta → Kind → Kind → Bool
kind_same o n (Attr s default) (Attr t other) = scalar_same o n s t && option_eq value_eq default other
kind_same o n (Attr s default) l = false
kind_same o n (AttrMany s unique) (AttrMany t other) = scalar_same o n s t && flag_eq unique other
kind_same o n (AttrMany s unique) l = false
kind_same o n (Bounded c f) (Bounded d g) = class_same o n c d && opposite_same o n f g
kind_same o n (Bounded c f) l = false
kind_same o n (Free c f) (Free d g) = class_same o n c d && opposite_same o n f g
kind_same o n (Free c f) l = false
kind_same o n (Contains c f) (Contains d g) = class_same o n c d && opposite_same o n f g
kind_same o n (Contains c f) l = false
kind_same o n (Container c f) (Container d g) = class_same o n c d && feature_same o n f g
kind_same o n (Container c f) l = false
kind_same o n Skip Skip = true
kind_same o n Skip l = false

-- the first list is how the second begins
abbrev pub begins : List EnumLiteral → List EnumLiteral → Bool
begins [] ms = true
begins (l ∷ ls) [] = false
begins (l ∷ ls) (m ∷ ms) = bytes_eq l.name m.name && bytes_eq l.text m.text && begins ls ms

-- the second has the class with the same flag, below each class that it is below in the first
abbrev pub class_kept : Meta → Meta → ℕ → Bool
class_kept o n c =
    option_map_or
    (λ d. flag_eq (is_abstract o c) (is_abstract n d) && list_all (λ b. option_map_or (is_a n d) (class_in o n b) false) (above_of o c))
    (class_in o n c) false

-- the second has the enum, and its literals begin with those of the first
abbrev pub enum_kept : Meta → Meta → ℕ → Bool
enum_kept o n e = option_map_or (λ d. begins (literals_of o e) (literals_of n d)) (enum_in o n e) false

-- the two features have the same bounds and the same kind
abbrev pub parts_same : Meta → Meta → Feature → Feature → Bool
parts_same o n x y = nat_eq x.lower y.lower && option_eq nat_eq x.upper y.upper && kind_same o n x.kind y.kind

-- the second has the feature, declared by the class of the same name, with the same parts
abbrev pub feature_kept : Meta → Meta → ℕ → Bool
feature_kept o n f =
    option_map_or
    (λ x. option_map_or (parts_same o n x) (option_and_then (slice_get n.features) (feature_in o n f)) false)
    (slice_get o.features f) false

-- a feature by its class and its name
abbrev pub full_name : Meta → ℕ → Name
full_name meta f = owner_name meta f ++ codes "." ++ name_at meta.features f

-- All parts of the first by name, and whether the second has each: the URI, and then the classes, the enums and the
-- features, each by number.
abbrev pub parts : Meta → Meta → List (Name × Bool)
parts o n =
    (codes "nsURI", bytes_eq o.uri n.uri) ∷
    (map (λ c. (class_name o c, class_kept o n c)) (range_with_len 0 (length o.classes))
    ++ (map (λ e. (enum_name o e, enum_kept o n e)) (range_with_len 0 (length o.enums))
    ++ map (λ f. (full_name o f, feature_kept o n f)) (range_with_len 0 (length o.features))))

-- the name of the first that is not kept
abbrev pub first_lost : List (Name × Bool) → Option Name
first_lost [] = None
first_lost (part ∷ rest) = cond part.1 (first_lost rest) (Some part.0)

-- the name of the first part of the first metamodel that the second does not have; None where the second extends the first
unfoldable pub missing : Meta → Meta → Option Name
missing o n = first_lost (parts o n)

-- the fault names the missing part, or is of memory, of which nothing is said
abbrev pub IsMissing : Option Name → EvolveFault → Type 0
IsMissing name (NotExtension part) = name ≡ Some part
IsMissing name Memory = Unit {0}
