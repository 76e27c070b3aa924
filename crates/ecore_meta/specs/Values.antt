-- The value that a text stands for.
use Rattle.std.specs.Prelude.{◌≡◌, ℕ, ℤ, pos, neg_ℤ, ◌+◌, ◌-◌, ◌*◌, Bool, true, false, List, [], ◌∷◌, Option, None, Some, map, drop, length, codes}
use Rattle.std.specs.Prelude.{cond, nat_eq, ◌<◌, if◌then◌else◌, ◌^◌}
use Rattle.std.specs.Option.{option_map, option_and_then}
use Rattle.std.specs.Str.{bytes_eq, all_ascii_digits}
use Rattle.ecore_meta.specs.Names.{number_of}
use Rattle.ecore_meta.specs.Typing.{half_of, in_width}
pub use Rattle.ecore_meta.specs.Typing.{literals_at, text_in}
use Rattle.ecore_meta.specs.declared.fault.ValueFault.{ValueFault}
use Rattle.ecore_meta.specs.declared.fault.ValueFault.TheVariants.{Bad, Memory}
use Rattle.ecore_meta.specs.declared.meta.Enum.{Enum}
use Rattle.ecore_meta.specs.declared.meta.EnumLiteral.{EnumLiteral}
use Rattle.ecore_meta.specs.declared.meta.Scalar.{Scalar}
use Rattle.ecore_meta.specs.declared.meta.Scalar.TheVariants.{Text as TextType, Flag as FlagType, Byte, Short, Int, Long, Literal as LiteralType}
use Rattle.ecore_meta.specs.declared.meta.Value.{Value}
use Rattle.ecore_meta.specs.declared.meta.Value.TheVariants.{Text, Flag, Whole, Literal}

-- the number that decimal digits write, after those that gave n
abbrev pub digits_from : ℕ → List ℕ → ℕ
digits_from n [] = n
digits_from n (b ∷ bs) = digits_from (10 * n + (b - 48)) bs

-- one digit or more
abbrev pub is_digits : List ℕ → Bool
is_digits [] = false
is_digits (b ∷ bs) = all_ascii_digits (b ∷ bs)

-- the text begins with a minus
abbrev pub is_negative : List ℕ → Bool
is_negative [] = false
is_negative (b ∷ bs) = nat_eq b 45

-- a whole number: digits, or a minus and digits
unfoldable pub whole_of : List ℕ → Option ℤ
whole_of text =
    if is_negative text then cond (is_digits (drop 1 text)) (Some (neg_ℤ (pos (digits_from 0 (drop 1 text))))) None
    else cond (is_digits text) (Some (pos (digits_from 0 text))) None

-- the number, where 64 bits hold it
abbrev pub wide : Option ℤ → Option ℤ
wide o = option_and_then (λ n. cond (in_width (half_of Long) n) (Some n) None) o

-- the number as a value, where the width holds it
abbrev pub narrow : ℕ → ℤ → Option Value
narrow half n = cond (in_width half n) (Some (Whole n)) None

-- the whole number that a text stands for, where the width holds it
abbrev pub whole_in : ℕ → List ℕ → Option Value
whole_in half text = option_and_then (narrow half) (whole_of text)

-- the flag of `true` or `false`
abbrev pub flag_of : List ℕ → Option Value
flag_of text = if bytes_eq text (codes "true") then Some (Flag true) else if bytes_eq text (codes "false") then Some (Flag false) else None

-- the first, or else the second
abbrev pub or_else : Option ℕ → Option ℕ → Option ℕ
or_else None o = o
or_else (Some n) o = Some n

-- the literal that has this text, or else the one that has this name
abbrev pub literal_in : List EnumLiteral → List ℕ → Option ℕ
literal_in ls text = or_else (number_of text (map (λ l. l.text) ls)) (number_of text (map (λ l. l.name) ls))

-- the literal that a text names, of the enum of that number
abbrev pub named_of : List Enum → ℕ → List ℕ → Option Value
named_of enums e text = option_map (λ n. Literal n) (literal_in (literals_at enums e) text)

-- the value of the type that a text stands for
abbrev pub value_of : List Enum → Scalar → List ℕ → Option Value
value_of enums TextType text = Some (Text text)
value_of enums FlagType text = flag_of text
value_of enums Byte text = whole_in (half_of Byte) text
value_of enums Short text = whole_in (half_of Short) text
value_of enums Int text = whole_in (half_of Int) text
value_of enums Long text = whole_in (half_of Long) text
value_of enums (LiteralType e) text = named_of enums e text

-- the default of a type: texts have none
abbrev pub default_of : Scalar → Option Value
default_of TextType = None
default_of FlagType = Some (Flag false)
default_of Byte = Some (Whole (pos 0))
default_of Short = Some (Whole (pos 0))
default_of Int = Some (Whole (pos 0))
default_of Long = Some (Whole (pos 0))
default_of (LiteralType e) = Some (Literal 0)

-- the literals of each enum can be numbered
abbrev pub AreShort : List Enum → Type 0
AreShort [] = Unit {0}
AreShort (found ∷ enums) = (length found.literals < 2 ^ 32) × AreShort enums

-- why a text was not read: it stands for no value, or there was no memory
abbrev pub IsBad : Option Value → ValueFault → Type 0
IsBad value Bad = value ≡ None
IsBad value Memory = Unit {0}
