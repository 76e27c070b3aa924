-- What a metamodel says of its features by number.
use Rattle.std.specs.Prelude.{ℕ, ℤ, pos, negsuc, Bool, true, false, List, [], Option, None, Some, slice_get, nat_eq, nat_lt, ◌&&◌, length}
use Rattle.std.specs.Option.{option_map_or}
use Rattle.ecore_meta.specs.Meta.{Meta, has_feature, is_a}
use Rattle.ecore_meta.specs.declared.meta.Enum.{Enum}
use Rattle.ecore_meta.specs.declared.meta.EnumLiteral.{EnumLiteral}
use Rattle.ecore_meta.specs.declared.meta.Kind.{Kind}
use Rattle.ecore_meta.specs.declared.meta.Kind.TheVariants.{Attr, AttrMany, Bounded, Free, Contains, Container, Skip}
use Rattle.ecore_meta.specs.declared.meta.Scalar.{Scalar}
use Rattle.ecore_meta.specs.declared.meta.Scalar.TheVariants.{Text as TextType, Flag as FlagType, Byte, Short, Int, Long, Literal as LiteralType}
use Rattle.ecore_meta.specs.declared.meta.Value.{Value}
use Rattle.ecore_meta.specs.declared.meta.Value.TheVariants.{Text, Flag, Whole, Literal}

-- a whole number of so many signed bits, by the power below them
abbrev pub in_width : ℕ → ℤ → Bool
in_width half (pos n) = nat_lt n half
in_width half (negsuc n) = nat_lt n half

-- the power below the whole numbers of a type: 0 where it has none
abbrev pub half_of : Scalar → ℕ
half_of Byte = 128
half_of Short = 32768
half_of Int = 2147483648
half_of Long = 9223372036854775808
half_of TextType = 0
half_of FlagType = 0
half_of (LiteralType e) = 0

-- the literals of the enum of that number, none where there is no such enum
abbrev pub literals_at : List Enum → ℕ → List EnumLiteral
literals_at enums e = option_map_or (λ found. found.literals) (slice_get enums e) []

-- the text of the literal of that number, empty for a number that is none
abbrev pub text_in : List EnumLiteral → ℕ → List ℕ
text_in literals n = option_map_or (λ l. l.text) (slice_get literals n) []

-- the literals of an enum of the metamodel
abbrev pub literals_of : Meta → ℕ → List EnumLiteral
literals_of meta e = literals_at meta.enums e

-- how many literals an enum has
abbrev pub literal_count : Meta → ℕ → ℕ
literal_count meta e = length (literals_of meta e)

-- the text of a literal of an enum of the metamodel
abbrev pub literal_text : Meta → ℕ → ℕ → List ℕ
literal_text meta e n = text_in (literals_of meta e) n

-- the value is of the type
abbrev pub fits : Meta → Scalar → Value → Bool
fits meta TextType (Text a) = true
fits meta FlagType (Flag a) = true
fits meta Byte (Whole a) = in_width (half_of Byte) a
fits meta Short (Whole a) = in_width (half_of Short) a
fits meta Int (Whole a) = in_width (half_of Int) a
fits meta Long (Whole a) = in_width (half_of Long) a
fits meta (LiteralType e) (Literal n) = nat_lt n (literal_count meta e)
fits meta s v = false

-- the kind of a feature, Skip for a number that is none
abbrev pub kind_of : Meta → ℕ → Kind
kind_of meta f = option_map_or (λ feature. feature.kind) (slice_get meta.features f) Skip

-- the upper bound of a feature, None for a number that is none
abbrev pub upper_of : Meta → ℕ → Option ℕ
upper_of meta f = option_map_or (λ feature. feature.upper) (slice_get meta.features f) None

-- an upper bound of one
abbrev pub is_one : Option ℕ → Bool
is_one None = false
is_one (Some n) = nat_eq n 1

-- the opposite of a plain feature
abbrev pub opposite_in : Kind → Option ℕ
opposite_in (Attr scalar default) = None
opposite_in (AttrMany scalar unique) = None
opposite_in (Bounded target opposite) = opposite
opposite_in (Free target opposite) = opposite
opposite_in (Contains target opposite) = None
opposite_in (Container target opposite) = None
opposite_in Skip = None

-- the opposite of the feature of that number
abbrev pub opposite_of : Meta → ℕ → Option ℕ
opposite_of meta f = opposite_in (kind_of meta f)

-- a plain reference to elements of a class
abbrev pub plain_to : Meta → Kind → ℕ → Bool
plain_to meta (Attr scalar default) d = false
plain_to meta (AttrMany scalar unique) d = false
plain_to meta (Bounded target opposite) d = is_a meta d target
plain_to meta (Free target opposite) d = is_a meta d target
plain_to meta (Contains target opposite) d = false
plain_to meta (Container target opposite) d = false
plain_to meta Skip d = false

-- an element of class c may have a link by the feature to one of class d
abbrev pub links : Meta → ℕ → ℕ → ℕ → Bool
links meta c f d = has_feature meta c f && plain_to meta (kind_of meta f) d
