-- Operations and packages: read again, and spelled so.
use Rattle.std.proofs.Common.{◌≡◌, inl, inr, ℕ, suc, zero, ◌<◌, List, [], ◌∷◌, length, ◌&&◌, true, nat_eq, nat_le, Option, Some, None, Ok, Err, refl}
use Rattle.std.proofs.Common.{ap, subst, arith, IsAscii}
use Rattle.std.specs.List.{list_all}
use Rattle.std.specs.Char.{is_ascii_alphabetic}
use Rattle.std.proofs.lemmas.Bool.{leb-true}
use Rattle.std.proofs.lemmas.Str.{IsUtf8-from_ascii}
use Rattle.byte_form.specs.Rest.{Rest}
use Rattle.byte_form.specs.Fields.{byte_at, text_encoding}
use Rattle.byte_form.specs.Laws.{IsReadAgain, IsSpelledSo, StoodThere, IsShortText, IsBelow, byte_encoding}
use Rattle.byte_form.proofs.FieldLemmas.{reached, ok_is}
use Rattle.model_state.specs.Names.{is_name, is_name_byte}
use Rattle.model_state.specs.declared.operation.OpKind.{OpKind}
use Rattle.model_state.specs.declared.operation.OpKind.TheVariants as kinds
use Rattle.model_state.specs.declared.operation.Operation.TheVariants.{Simple, Composite}
use Rattle.op_reading.specs.declared.fault.FormFault.TheVariants.{NotForm}
use Rattle.op_reading.specs.Reading.{u8_at}
use Rattle.op_reading.specs.Packages.{kind_of, kind_from, kind_at, name_at, simple_at, composite_at, operation_of, operation_at, package_at}
use Rattle.op_form.specs.Packages.{kind_byte, kind_encoding, operation_encoding, package_encoding}
use Rattle.op_form.specs.Formed.{IsNameText, IsOperation, IsPackage}
use Rattle.op_reading.proofs.Codes.{Codes, both, either, some_codes, list_codes, made_again, made_spelled, byte_stood}
use Rattle.op_reading.proofs.ValueCodes.{and_both, told_again, told_spelled}
use Rattle.op_reading.proofs.StepCodes.{step_codes}

kind_again : IsReadAgain (λ kind. Unit {0}) kind_encoding kind_at
unfolding kind_at byte_at
kind_again kinds.Create is rest offset = refl
kind_again kinds.Delete is rest offset = refl
kind_again kinds.Attribute is rest offset = refl
kind_again kinds.ManyAttribute is rest offset = refl
kind_again kinds.Reference is rest offset = refl
kind_again kinds.Move is rest offset = refl

kind_found : (offset : ℕ) (o : Option OpKind) (mid : Rest) (kind : OpKind) (after : Rest) → kind_from offset o mid ≡ Ok (kind, after)
    → (o ≡ Some kind) × (mid ≡ after)
kind_found offset None mid kind after e = cc
kind_found offset (Some k) mid kind after e = let pair = ok_is (k, mid) (kind, after) e in (ap (λ p. Some p.0) pair, ap (λ p. p.1) pair)

some_kind : (kind other : OpKind) → Some kind ≡ Some other → kind ≡ other
some_kind kind other e = cc

-- the kind of a byte has that byte
kind_stood : (before : Rest) (n : ℕ) (mid : Rest) → ((tag : ℕ) → nat_eq n tag ≡ true → StoodThere (IsBelow 256) byte_encoding before mid tag)
    → (kind : OpKind) → kind_of n ≡ Some kind
    → StoodThere (λ k. Unit {0}) kind_encoding before mid kind
kind_stood before n mid stood kind e =
    elim (either (nat_eq n 1) (Some kinds.Create) _ (Some kind) e) [
      | inl h ↦ one kinds.Create (some_kind kinds.Create kind h.1) (stood 1 h.0)
      | inr h ↦ elim (either (nat_eq n 2) (Some kinds.Delete) _ (Some kind) h.1) [
        | inl i ↦ one kinds.Delete (some_kind kinds.Delete kind i.1) (stood 2 i.0)
        | inr i ↦ elim (either (nat_eq n 3) (Some kinds.Attribute) _ (Some kind) i.1) [
          | inl j ↦ one kinds.Attribute (some_kind kinds.Attribute kind j.1) (stood 3 j.0)
          | inr j ↦ elim (either (nat_eq n 4) (Some kinds.ManyAttribute) _ (Some kind) j.1) [
            | inl k ↦ one kinds.ManyAttribute (some_kind kinds.ManyAttribute kind k.1) (stood 4 k.0)
            | inr k ↦ elim (either (nat_eq n 5) (Some kinds.Reference) _ (Some kind) k.1) [
              | inl l ↦ one kinds.Reference (some_kind kinds.Reference kind l.1) (stood 5 l.0)
              | inr l ↦ elim (either (nat_eq n 6) (Some kinds.Move) None (Some kind) l.1) [
                | inl m ↦ one kinds.Move (some_kind kinds.Move kind m.1) (stood 6 m.0)
                | inr m ↦ cc
              ]
            ]
          ]
        ]
      ]
    ]
  where
    one : (known : OpKind) → known ≡ kind → StoodThere (IsBelow 256) byte_encoding before mid (kind_byte known)
        → StoodThere (λ k. Unit {0}) kind_encoding before mid kind
    one known same s = subst (λ k. StoodThere (λ k. Unit {0}) kind_encoding before mid k) same (record { is = tt; bytes = s.bytes; offset = s.offset })

kind_spelled : IsSpelledSo (λ kind. Unit {0}) kind_encoding kind_at
unfolding kind_at
kind_spelled before bytes kind after e =
    let k = reached (u8_at before) (λ byte. kind_from before.offset (kind_of byte.0) byte.1) (kind, after) e in
    let f = kind_found before.offset (kind_of k.0.0) k.0.1 kind after k.2 in
    subst (λ r. StoodThere (λ k. Unit {0}) kind_encoding before r kind) f.1 (kind_stood before k.0.0 k.0.1 (byte_stood before k.0.0 k.0.1 bytes k.1) kind f.0)

pub kind_codes : Codes (λ kind. Unit {0}) kind_encoding kind_at
kind_codes = record { again = kind_again; spelled = kind_spelled }

low_letter : (b : ℕ) → is_ascii_alphabetic b ≡ true → b < 128
low_letter b e = grind (arith, e)

low_name_byte : (b : ℕ) → is_name_byte b ≡ true → b < 128
low_name_byte b e = grind (arith, e)

bytes_are_ascii : (bs : List ℕ) → list_all is_name_byte bs ≡ true → IsAscii bs
bytes_are_ascii [] e i = omega arith
bytes_are_ascii (b ∷ bs) e zero = low_name_byte b (and_both (is_name_byte b) (list_all is_name_byte bs) e).0
bytes_are_ascii (b ∷ bs) e (suc i) = bytes_are_ascii bs (and_both (is_name_byte b) (list_all is_name_byte bs) e).1 i

names_are_ascii : (b : ℕ) (bs : List ℕ) → is_ascii_alphabetic b ≡ true → list_all is_name_byte bs ≡ true → IsAscii (b ∷ bs)
names_are_ascii b bs first rest zero = low_letter b first
names_are_ascii b bs first rest (suc i) = bytes_are_ascii bs rest i

-- a name is a short text
pub name_short : (text : List ℕ) → is_name text ≡ true → IsShortText text
name_short [] is = cc
name_short (b ∷ bs) is =
    let k = and_both (is_ascii_alphabetic b && nat_le (length bs) 63) (list_all is_name_byte bs) is in
    let m = and_both (is_ascii_alphabetic b) (nat_le (length bs) 63) k.0 in
    (omega (arith, leb-true (length bs) 63 m.1), IsUtf8-from_ascii (b ∷ bs) (names_are_ascii b bs m.0 k.1))

name_again : IsReadAgain IsNameText text_encoding name_at
unfolding name_at
name_again text is rest offset = told_again is_name name_short name_at text is rest offset

name_spelled : IsSpelledSo IsNameText text_encoding name_at
unfolding name_at
name_spelled before bytes text after e = told_spelled is_name name_short name_at before bytes text after e

pub name_codes : Codes IsNameText text_encoding name_at
name_codes = record { again = name_again; spelled = name_spelled }

operation_again : IsReadAgain IsOperation operation_encoding operation_at
unfolding operation_at operation_encoding simple_at composite_at byte_at
operation_again (Simple kind steps) is rest offset = made_again (both kind_codes (some_codes step_codes)) (λ t. Simple t.0 t.1) 1 (kind, steps) is rest offset
operation_again (Composite name steps) is rest offset =
    made_again (both name_codes (some_codes step_codes)) (λ t. Composite t.0 t.1) 2 (name, steps) is rest offset

operation_spelled : IsSpelledSo IsOperation operation_encoding operation_at
unfolding operation_at operation_encoding simple_at composite_at
operation_spelled before bytes o after e =
    let k = reached (u8_at before) (operation_of before.offset) (o, after) e in
    let stood = byte_stood before k.0.0 k.0.1 bytes k.1 in
    elim (either (nat_eq k.0.0 1) (simple_at k.0.1) _ (Ok (o, after)) k.2) [
      | inl h ↦ made_spelled (both kind_codes (some_codes step_codes)) (λ t. Simple t.0 t.1) 1 IsOperation operation_encoding (λ t is. is)
          (λ t is. refl) before k.0.1 after o bytes (stood 1 h.0) h.1
      | inr h ↦ elim (either (nat_eq k.0.0 2) (composite_at k.0.1) (Err (NotForm before.offset)) (Ok (o, after)) h.1) [
        | inl i ↦ made_spelled (both name_codes (some_codes step_codes)) (λ t. Composite t.0 t.1) 2 IsOperation operation_encoding (λ t is. is)
            (λ t is. refl) before k.0.1 after o bytes (stood 2 i.0) i.1
        | inr i ↦ cc
      ]
    ]

pub operation_codes : Codes IsOperation operation_encoding operation_at
operation_codes = record { again = operation_again; spelled = operation_spelled }

package_again : IsReadAgain IsPackage package_encoding package_at
unfolding package_at package_encoding
package_again = (list_codes operation_codes).again

package_spelled : IsSpelledSo IsPackage package_encoding package_at
unfolding package_at package_encoding
package_spelled = (list_codes operation_codes).spelled

pub package_codes : Codes IsPackage package_encoding package_at
package_codes = record { again = package_again; spelled = package_spelled }
