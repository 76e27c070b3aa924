-- The fields of encodings: the bytes of each, where one ends, and other bytes that are the same up to there.
use Rattle.std.specs.Prelude.{◌≡◌, ℕ, ◌+◌, ◌<◌, List, [], ◌∷◌, ◌++◌, length, take, drop}
use Rattle.std.specs.Int.{w32, from_be_bytes}
use Rattle.byte_form.specs.Fields.{u32_encoding, u64_encoding, text_encoding}

-- a field of an encoding: a byte, a number of four bytes or of eight, or a text
pub data Field : Type 0 where
  Byte : ℕ → Field
  Number : ℕ → Field
  LongNumber : ℕ → Field
  Text : List ℕ → Field

-- the bytes of a field
abbrev pub field_encoding : Field → List ℕ
field_encoding (Byte n) = n ∷ []
field_encoding (Number n) = u32_encoding n
field_encoding (LongNumber n) = u64_encoding n
field_encoding (Text text) = text_encoding text

-- the bytes of fields, one after another
abbrev pub fields_encoding : List Field → List ℕ
fields_encoding [] = []
fields_encoding (field ∷ fields) = field_encoding field ++ fields_encoding fields

-- where a field of the same kind ends that begins at an offset of bytes; the length of a text is in its first four bytes
abbrev pub field_end : Field → ℕ → List ℕ → ℕ
field_end (Byte n) offset bytes = offset + 1
field_end (Number n) offset bytes = offset + 4
field_end (LongNumber n) offset bytes = offset + 8
field_end (Text text) offset bytes = offset + 4 + from_be_bytes w32 (take 4 (drop offset bytes))

-- the same of the first of these fields; where there is none, what stands at the offset is a byte too much
abbrev pub first_end : List Field → ℕ → List ℕ → ℕ
first_end [] offset bytes = offset + 1
first_end (field ∷ fields) offset bytes = field_end field offset bytes

-- other bytes are the same up to an end, and are as many where these end before it
pub record IsSameUpTo (end : ℕ) (bytes other : List ℕ) : Type 0 where
  pub before : take end other ≡ take end bytes
  pub ends : length bytes < end → length other ≡ length bytes
