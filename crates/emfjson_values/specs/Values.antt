-- Values of attributes in model texts: which value a JSON text is, and the text that a value has.
use Rattle.std.specs.Prelude.{◌≡◌, ℕ, ℤ, List, [], Option, Some, Result, Ok, Err, option_map, option_and_then}
use Rattle.serde_json.specs.Data.{Data, boolean, number, string}
use Rattle.serde_json.specs.Find.{as_bool, as_i64, as_number, as_str, of_integer}
use Rattle.serde_json.specs.Read.{read}
use Rattle.serde_json.specs.Written.{compact_text}
use Rattle.ecore_meta.specs.Meta.{Meta}
use Rattle.ecore_meta.specs.Typing.{half_of, literals_of, literal_text}
use Rattle.ecore_meta.specs.Values.{IsBad, literal_in, narrow}
use Rattle.ecore_meta.specs.declared.fault.ValueFault.{ValueFault}
use Rattle.ecore_meta.specs.declared.meta.Scalar.{Scalar}
use Rattle.ecore_meta.specs.declared.meta.Scalar.TheVariants.{Text as TextType, Flag as FlagType, Byte, Short, Int, Long, Literal as LiteralType}
use Rattle.ecore_meta.specs.declared.meta.Value.{Value}
use Rattle.ecore_meta.specs.declared.meta.Value.TheVariants.{Text, Flag, Whole, Literal}

-- a whole number of JSON that 64 bits hold
abbrev pub integer_in : Data → Option ℤ
integer_in d = option_and_then as_i64 (as_number d)

-- a whole number of so many signed bits, by the power below them
abbrev pub whole_in : ℕ → Data → Option Value
whole_in half d = option_and_then (narrow half) (integer_in d)

-- the literal whose text it is, or else the one whose name it is
abbrev pub named_in : Meta → ℕ → Data → Option Value
named_in meta e d = option_map (λ n. Literal n) (option_and_then (literal_in (literals_of meta e)) (as_str d))

-- the value of the type that a JSON value is
abbrev pub value_in : Meta → Scalar → Data → Option Value
value_in meta TextType d = option_map (λ t. Text t) (as_str d)
value_in meta FlagType d = option_map (λ b. Flag b) (as_bool d)
value_in meta Byte d = whole_in (half_of Byte) d
value_in meta Short d = whole_in (half_of Short) d
value_in meta Int d = whole_in (half_of Int) d
value_in meta Long d = whole_in (half_of Long) d
value_in meta (LiteralType e) d = named_in meta e d

-- the value of the type that a text is: JSON, and of the type's kind
abbrev pub value_of : Meta → Scalar → List ℕ → Option Value
value_of meta s text = option_and_then (value_in meta s) (read text)

-- the text of a literal of the type, empty where the type is no enum
abbrev pub literal_word : Meta → Scalar → ℕ → List ℕ
literal_word meta (LiteralType e) n = literal_text meta e n
literal_word meta s n = []

-- the JSON value that a value of the type is; a literal is its text
abbrev pub data_of : Meta → Scalar → Value → Data
data_of meta s (Text t) = string t
data_of meta s (Flag b) = boolean b
data_of meta s (Whole n) = number (of_integer n)
data_of meta s (Literal n) = string (literal_word meta s n)

-- the text of a value of the type: its JSON without spaces
abbrev pub value_text : Meta → Scalar → Value → List ℕ
value_text meta s v = compact_text (data_of meta s v)

-- an answer is the value that the text is, or Bad where it is none; out of memory says nothing of the text
abbrev pub GivesValue : Result Value ValueFault → Option Value → Type 0
GivesValue (Ok v) found = found ≡ Some v
GivesValue (Err e) found = IsBad found e
