-- Whether two metamodels are the same.
use Rattle.std.specs.Prelude.{◌≡◌, ◌↔◌, ℕ, Bool, true, false, ◌&&◌, IsTrue, nat_eq, slice_get, length}
use Rattle.std.specs.List.{list_all, range_with_len}
use Rattle.std.specs.Str.{bytes_eq}
use Rattle.finite_maps.specs.Equal.{list_eq, option_eq}
use Rattle.model_state.specs.Typing.{flag_eq, value_eq}
use Rattle.ecore_meta.specs.Meta.{Meta}
use Rattle.ecore_meta.specs.Promised.{IsMetamodel}
use Rattle.ecore_meta.specs.Typing.{literals_of}
use Rattle.ecore_meta.specs.declared.meta.EnumLiteral.{EnumLiteral}
use Rattle.ecore_meta.specs.declared.meta.Feature.{Feature}
use Rattle.ecore_meta.specs.declared.meta.Kind.{Kind}
use Rattle.ecore_meta.specs.declared.meta.Kind.TheVariants.{Attr, AttrMany, Bounded, Free, Contains, Container, Skip}
use Rattle.ecore_meta.specs.declared.meta.Scalar.{Scalar}
use Rattle.ecore_meta.specs.declared.meta.Scalar.TheVariants.{Text, Flag, Byte, Short, Int, Long, Literal}
use Rattle.metamodel_growth.specs.Extension.{class_name, enum_name, is_abstract}

-- the same type of values, enums by number
abbrev pub scalar_eq : Scalar → Scalar → Bool
scalar_eq Text Text = true
scalar_eq Flag Flag = true
scalar_eq Byte Byte = true
scalar_eq Short Short = true
scalar_eq Int Int = true
scalar_eq Long Long = true
scalar_eq (Literal e) (Literal d) = nat_eq e d
scalar_eq s t = false

-- the same kind with the same parts, by number
abbrev pub kind_eq : Kind → Kind → Bool
kind_eq (Attr s default) (Attr t other) = scalar_eq s t && option_eq value_eq default other
kind_eq (Attr s default) l = false
kind_eq (AttrMany s unique) (AttrMany t other) = scalar_eq s t && flag_eq unique other
kind_eq (AttrMany s unique) l = false
kind_eq (Bounded c f) (Bounded d g) = nat_eq c d && option_eq nat_eq f g
kind_eq (Bounded c f) l = false
kind_eq (Free c f) (Free d g) = nat_eq c d && option_eq nat_eq f g
kind_eq (Free c f) l = false
kind_eq (Contains c f) (Contains d g) = nat_eq c d && option_eq nat_eq f g
kind_eq (Contains c f) l = false
kind_eq (Container c f) (Container d g) = nat_eq c d && nat_eq f g
kind_eq (Container c f) l = false
kind_eq Skip Skip = true
kind_eq Skip l = false

-- the same owner, name, bounds and kind
abbrev pub feature_eq : Feature → Feature → Bool
feature_eq x y =
    nat_eq x.owner y.owner && bytes_eq x.name y.name && nat_eq x.lower y.lower
    && option_eq nat_eq x.upper y.upper && kind_eq x.kind y.kind

-- the same name and text
abbrev pub literal_eq : EnumLiteral → EnumLiteral → Bool
literal_eq l m = bytes_eq l.name m.name && bytes_eq l.text m.text

-- the class of that number is the same in both
abbrev pub class_alike : Meta → Meta → ℕ → Bool
class_alike a b c =
    bytes_eq (class_name a c) (class_name b c)
    && flag_eq (is_abstract a c) (is_abstract b c)
    && option_eq (list_eq nat_eq) (slice_get a.above c) (slice_get b.above c)

-- and the enum
abbrev pub enum_alike : Meta → Meta → ℕ → Bool
enum_alike a b e =
    bytes_eq (enum_name a e) (enum_name b e)
    && list_eq literal_eq (literals_of a e) (literals_of b e)

-- and the feature, or neither has one
abbrev pub feature_alike : Meta → Meta → ℕ → Bool
feature_alike a b f = option_eq feature_eq (slice_get a.features f) (slice_get b.features f)

-- each number below n passes
abbrev pub all_below : (ℕ → Bool) → ℕ → Bool
all_below test n = list_all test (range_with_len 0 n)

-- They have one URI and, by number, the same classes, features and enums. A class is its name, its flag and the classes that it is.
unfoldable pub is_same : Meta → Meta → Bool
is_same a b =
    bytes_eq a.uri b.uri
    && (nat_eq (length a.classes) (length b.classes) && all_below (class_alike a b) (length a.classes))
    && (nat_eq (length a.enums) (length b.enums) && all_below (enum_alike a b) (length a.enums))
    && (nat_eq (length a.features) (length b.features) && all_below (feature_alike a b) (length a.features))

-- so they are the same metamodel just where this holds
abbrev pub SameIsEqual : Type 0
SameIsEqual = (a b : Meta) → IsMetamodel a → IsMetamodel b → IsTrue (is_same a b) ↔ (a ≡ b)
