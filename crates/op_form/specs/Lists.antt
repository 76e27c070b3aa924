-- The encodings of options and lists.
use Rattle.std.specs.Prelude.{ℕ, List, [], ◌∷◌, ◌++◌, length, Option, Some, None}
use Rattle.byte_form.specs.Fields.{u32_encoding}

-- the encoding of a value or none
abbrev pub option_encoding : {X : Type 0} → (X → List ℕ) → Option X → List ℕ
option_encoding form None = 0 ∷ []
option_encoding form (Some x) = 1 ∷ form x

-- the encodings of items, one after another
abbrev pub items_encoding : {X : Type 0} → (X → List ℕ) → List X → List ℕ
items_encoding form [] = []
items_encoding form (x ∷ xs) = form x ++ items_encoding form xs

-- the encoding of a list
abbrev pub list_encoding : {X : Type 0} → (X → List ℕ) → List X → List ℕ
list_encoding form xs = u32_encoding (length xs) ++ items_encoding form xs
