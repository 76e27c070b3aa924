-- Fields: how each is encoded, and how the first of some bytes is read, with the fault of one that can't be read.
use Rattle.std.specs.Prelude.{◌≡◌, ℕ, ◌+◌, List, [], ◌∷◌, ◌++◌, length, take, drop, Result, Ok, Err, nat_lt, if◌then◌else◌}
use Rattle.std.specs.Int.{Width, w32, w64, byte_len, from_be_bytes, to_be_bytes}
use Rattle.std.specs.Str.{is_utf8}
use Rattle.byte_form.specs.declared.reader.ReadFault.{ReadFault}
use Rattle.byte_form.specs.declared.reader.ReadFault.TheVariants.{Short, BadText, Spare, Memory}
use Rattle.byte_form.specs.Rest.{Rest}

-- one reading after another; the first that fails is the fault
infixl 10 ◌>>=◌
abbrev pub ◌>>=◌ : {A B E : Type 0} → Result A E → (A → Result B E) → Result B E
(Ok x) >>= f = f x
(Err e) >>= f = Err e

-- the encoding of a number in four bytes, the most significant first
unfoldable pub u32_encoding : ℕ → List ℕ
u32_encoding n = to_be_bytes w32 n

-- the same in eight bytes
unfoldable pub u64_encoding : ℕ → List ℕ
u64_encoding n = to_be_bytes w64 n

-- the encoding of a text: the count of its bytes in four bytes, and the bytes
unfoldable pub text_encoding : List ℕ → List ℕ
text_encoding text = u32_encoding (length text) ++ text

-- what is left after so many bytes
abbrev pub past : Rest → ℕ → Rest
past r n = record { bytes = drop n r.bytes; offset = r.offset + n }

-- the first of the bytes that begin at an offset, and what is left after it
abbrev pub byte_from : ℕ → List ℕ → Result (ℕ × Rest) ReadFault
byte_from offset [] = Err (Short offset)
byte_from offset (b ∷ bytes) = Ok (b, record { bytes = bytes; offset = offset + 1 })

-- the first byte
unfoldable pub byte_at : Rest → Result (ℕ × Rest) ReadFault
byte_at r = byte_from r.offset r.bytes

-- the number that the first bytes are, the most significant first
unfoldable pub number_at : Width → Rest → Result (ℕ × Rest) ReadFault
number_at w r = if nat_lt (length r.bytes) (byte_len w) then Err (Short r.offset) else Ok (from_be_bytes w (take (byte_len w) r.bytes), past r (byte_len w))

-- first a count, and then as many bytes, which are text
unfoldable pub text_at : Rest → Result (List ℕ × Rest) ReadFault
text_at r = do
  n ← number_at w32 r
  if nat_lt (length n.1.bytes) n.0 then Err (Short r.offset)
      else if is_utf8 (take n.0 n.1.bytes) then Ok (take n.0 n.1.bytes, past n.1 n.0)
      else Err (BadText r.offset)

-- nothing is left
abbrev pub ends_at : Rest → Result (Unit {0}) ReadFault
ends_at r = if nat_lt 0 (length r.bytes) then Err (Spare r.offset) else Ok tt

-- a call gave what reading gives, and stands after it; after a fault it stands where it stood
abbrev pub Reads : {X Y : Type 0} → (X → Y) → Rest → Rest → Result X ReadFault → Result (Y × Rest) ReadFault → Type 0
Reads view old new (Ok x) read = read ≡ Ok (view x, new)
Reads view old new (Err Memory) read = new ≡ old
Reads view old new (Err e) read = (read ≡ Err e) × (new ≡ old)
