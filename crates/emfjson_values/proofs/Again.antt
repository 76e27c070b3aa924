-- What is written for a value is read again as that value.
use Rattle.std.proofs.Common.{◌≡◌, ℕ, ℤ, pos, negsuc, ◌^◌, ◌<◌, ◌≤◌, true, cond, None, Some, length, ap, ◌∙◌, arith}
use Rattle.std.specs.Prelude.{option_map, option_and_then}
use Rattle.std.proofs.lemmas.Bool.{ltb-true, lt-ltb}
use Rattle.serde_json.specs.Data.{number}
use Rattle.serde_json.specs.Find.{of_integer}
use Rattle.serde_json.specs.Read.{read}
use Rattle.serde_json.specs.Written.{compact_text}
use Rattle.ecore_meta.specs.Meta.{Meta}
use Rattle.ecore_meta.specs.Named.{TextsAreApart}
use Rattle.ecore_meta.specs.Typing.{fits, in_width, literal_count, literals_of, literal_text}
use Rattle.ecore_meta.specs.Values.{narrow}
use Rattle.ecore_meta.specs.declared.meta.Scalar.TheVariants.{Text as TextType, Flag as FlagType, Byte, Short, Int, Long, Literal as LiteralType}
use Rattle.ecore_meta.specs.declared.meta.Value.{Value}
use Rattle.ecore_meta.specs.declared.meta.Value.TheVariants.{Text, Flag, Whole, Literal}
use Rattle.emfjson_values.specs.Values.{value_in, value_of, value_text, whole_in}
use Rattle.emfjson_values.specs.Laws.{WrittenValuesAreRead}
use Rattle.emfjson_values.proofs.JsonTexts.{read_string, read_flag, read_natural, read_negative}
use Rattle.emfjson_values.proofs.Literals.{named_again}

text_again : (meta : Meta) (v : Value) → fits meta TextType v ≡ true → value_of meta TextType (value_text meta TextType v) ≡ Some v
text_again meta (Text t) h = ap (option_and_then (value_in meta TextType)) (read_string t)
text_again meta v h = cc

flag_again : (meta : Meta) (v : Value) → fits meta FlagType v ≡ true → value_of meta FlagType (value_text meta FlagType v) ≡ Some v
flag_again meta (Flag b) h = ap (option_and_then (value_in meta FlagType)) (read_flag b)
flag_again meta v h = cc

-- a whole number within 64 bits is read again, where it is of the width
whole_again : (half : ℕ) → half ≤ 2 ^ 63 → (n : ℤ) → in_width half n ≡ true
    → option_and_then (whole_in half) (read (compact_text (number (of_integer n)))) ≡ Some (Whole n)
whole_again half small (pos n) h =
    let below : n < half = ltb-true n half h in
    ap (option_and_then (whole_in half)) (read_natural n (omega arith))
    ∙ ap (λ b. option_and_then (narrow half) (cond b (Some (pos n)) None)) (lt-ltb n (2 ^ 63) (omega arith))
    ∙ ap (λ b. cond b (Some (Whole (pos n))) None) h
whole_again half small (negsuc n) h =
    let below : n < half = ltb-true n half h in
    ap (option_and_then (whole_in half)) (read_negative n (omega arith))
    ∙ ap (λ b. cond b (Some (Whole (negsuc n))) None) h

byte_again : (meta : Meta) (v : Value) → fits meta Byte v ≡ true → value_of meta Byte (value_text meta Byte v) ≡ Some v
byte_again meta (Whole n) h = whole_again 128 (omega arith) n h
byte_again meta v h = cc

short_again : (meta : Meta) (v : Value) → fits meta Short v ≡ true → value_of meta Short (value_text meta Short v) ≡ Some v
short_again meta (Whole n) h = whole_again 32768 (omega arith) n h
short_again meta v h = cc

int_again : (meta : Meta) (v : Value) → fits meta Int v ≡ true → value_of meta Int (value_text meta Int v) ≡ Some v
int_again meta (Whole n) h = whole_again 2147483648 (omega arith) n h
int_again meta v h = cc

long_again : (meta : Meta) (v : Value) → fits meta Long v ≡ true → value_of meta Long (value_text meta Long v) ≡ Some v
long_again meta (Whole n) h = whole_again 9223372036854775808 (omega arith) n h
long_again meta v h = cc

literal_again : (meta : Meta) → TextsAreApart meta → (e : ℕ) (v : Value) → fits meta (LiteralType e) v ≡ true
    → value_of meta (LiteralType e) (value_text meta (LiteralType e) v) ≡ Some v
literal_again meta apart e (Literal n) h =
    let below : n < length (literals_of meta e) = ltb-true n (literal_count meta e) h in
    ap (option_and_then (value_in meta (LiteralType e))) (read_string (literal_text meta e n))
    ∙ ap (option_map (λ n. Literal n)) (named_again (literals_of meta e) n (apart e) below)
literal_again meta apart e v h = cc

pub written_read : WrittenValuesAreRead
written_read meta apart TextType v h = text_again meta v h
written_read meta apart FlagType v h = flag_again meta v h
written_read meta apart Byte v h = byte_again meta v h
written_read meta apart Short v h = short_again meta v h
written_read meta apart Int v h = int_again meta v h
written_read meta apart Long v h = long_again meta v h
written_read meta apart (LiteralType e) v h = literal_again meta apart e v h
