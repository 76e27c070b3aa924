-- Readings of fields one after another, of options and of lists.
use Rattle.std.specs.Prelude.{ℕ, zero, suc, ◌==◌, List, [], ◌∷◌, Option, Some, None, Result, Ok, Err, if◌then◌else◌}
use Rattle.std.specs.Int.{w32, w64}
use Rattle.byte_form.specs.declared.reader.ReadFault.{ReadFault}
use Rattle.byte_form.specs.declared.reader.ReadFault.TheVariants as read
use Rattle.byte_form.specs.Rest.{Rest}
use Rattle.byte_form.specs.Fields.{◌>>=◌, byte_at, number_at, text_at}
use Rattle.op_reading.specs.declared.fault.FormFault.{FormFault}
use Rattle.op_reading.specs.declared.fault.FormFault.TheVariants.{NotForm, Memory}

-- what the bytes begin with and what is left after it, or the fault
abbrev pub Reading : Type 0 → Type 0
Reading X = Rest → Result (X × Rest) FormFault

-- a field that can't be read is no encoding, at the field's offset
abbrev pub not_form : ReadFault → FormFault
not_form (read.Short at) = NotForm at
not_form (read.BadText at) = NotForm at
not_form (read.Spare at) = NotForm at
not_form read.Memory = Memory

-- a field that is read, with its fault as one of encodings
abbrev pub field : {X : Type 0} → Result X ReadFault → Result X FormFault
field (Ok x) = Ok x
field (Err e) = Err (not_form e)

-- no field
abbrev pub nothing_at : Reading (Unit {0})
nothing_at r = Ok (tt, r)

-- a byte
abbrev pub u8_at : Reading ℕ
u8_at r = field (byte_at r)

-- a number of four bytes
abbrev pub u32_at : Reading ℕ
u32_at r = field (number_at w32 r)

-- a number of eight bytes
abbrev pub u64_at : Reading ℕ
u64_at r = field (number_at w64 r)

-- a text
abbrev pub any_text_at : Reading (List ℕ)
any_text_at r = field (text_at r)

-- what is read, by the value that it makes
abbrev pub made : {X Y : Type 0} → (X → Y) → Result (X × Rest) FormFault → Result (Y × Rest) FormFault
made make (Ok x) = Ok (make x.0, x.1)
made make (Err e) = Err e

-- one reading after another
infixr 8 ◌⊗◌
abbrev pub ◌⊗◌ : {A B : Type 0} → Reading A → Reading B → Reading (A × B)
(a ⊗ b) r = a r >>= λ x. made (λ y. (x.0, y)) (b x.1)

-- a value after its byte 1, or none after the byte 0
abbrev pub option_of : {X : Type 0} → Reading X → ℕ → ℕ × Rest → Result (Option X × Rest) FormFault
option_of read offset tag =
    if tag.0 == 0 then Ok (None, tag.1)
    else if tag.0 == 1 then made (λ x. Some x) (read tag.1)
    else Err (NotForm offset)

-- a value or none, by its first byte
unfoldable pub option_at : {X : Type 0} → Reading X → Reading (Option X)
option_at read r = u8_at r >>= option_of read r.offset

-- so many items one after another
abbrev pub items_at : {X : Type 0} → Reading X → ℕ → Reading (List X)
items_at read zero r = Ok ([], r)
items_at read (suc n) r = read r >>= λ x. made (λ xs. x.0 ∷ xs) (items_at read n x.1)

-- a list: the count of its items in four bytes, and the items
unfoldable pub list_at : {X : Type 0} → Reading X → Reading (List X)
list_at read r = u32_at r >>= λ count. items_at read count.0 count.1

-- a list that isn't empty: a count of 0 can't be read
unfoldable pub some_at : {X : Type 0} → Reading X → Reading (List X)
some_at read r = u32_at r >>= λ count. if count.0 == 0 then Err (NotForm r.offset) else items_at read count.0 count.1
