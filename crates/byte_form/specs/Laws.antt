-- Each value has one encoding: what is encoded is read again, whatever follows it, and what is read was encoded so.
use Rattle.std.specs.Prelude.{◌≡◌, ℕ, ◌+◌, ◌^◌, ◌<◌, List, [], ◌∷◌, ◌++◌, length, slice_index, Result, Ok}
use Rattle.std.specs.Str.{IsUtf8}
use Rattle.byte_form.specs.Rest.{Rest}

-- what is left at an offset
abbrev pub at : List ℕ → ℕ → Rest
at bytes offset = record { bytes = bytes; offset = offset }

-- the encoding of each value of the kind is read as the value, whatever stands after it
abbrev pub IsReadAgain : {X E : Type 0} → (X → Type 0) → (X → List ℕ) → (Rest → Result (X × Rest) E) → Type 0
IsReadAgain Is form read = (x : _) → Is x → (rest : List ℕ) (offset : ℕ) → read (at (form x ++ rest) offset) ≡ Ok (x, at rest (offset + length (form x)))

-- the bytes began with the encoding of a value of the kind
pub record StoodThere {X : Type 0} (Is : X → Type 0) (form : X → List ℕ) (before after : Rest) (x : X) : Type 0 where
  pub is : Is x
  pub bytes : before.bytes ≡ form x ++ after.bytes
  pub offset : after.offset ≡ before.offset + length (form x)

-- bytes are numbers below 256
abbrev pub AreBytes : List ℕ → Type 0
AreBytes bytes = (i : ℕ) → slice_index bytes i < 256

-- what is read of bytes was encoded so
abbrev pub IsSpelledSo : {X E : Type 0} → (X → Type 0) → (X → List ℕ) → (Rest → Result (X × Rest) E) → Type 0
IsSpelledSo Is form read = (before : Rest) → AreBytes before.bytes → (x : _) (after : Rest) → read before ≡ Ok (x, after) → StoodThere Is form before after x

-- no encoding begins another
abbrev pub NoneBeginsAnother : {X : Type 0} → (X → Type 0) → (X → List ℕ) → Type 0
NoneBeginsAnother Is form = (x y : _) → Is x → Is y → (rest more : List ℕ) → form x ++ rest ≡ form y ++ more → x ≡ y

-- a number below the limit
abbrev pub IsBelow : ℕ → ℕ → Type 0
IsBelow limit n = n < limit

-- a byte is its own encoding
abbrev pub byte_encoding : ℕ → List ℕ
byte_encoding n = n ∷ []

-- a text of fewer than 2 ^ 32 bytes
abbrev pub IsShortText : List ℕ → Type 0
IsShortText text = (length text < 2 ^ 32) × IsUtf8 text
