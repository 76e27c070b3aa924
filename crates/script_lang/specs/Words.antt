-- The words of a line, with the column of the first that does not fit.
use Rattle.std.specs.Prelude.{◌≡◌, ℕ, ◌+◌, ◌-◌, ◌^◌, ◌==◌, ◌&&◌, ◌||◌, not, codes, Bool, nat_lt, nat_le, List, [], ◌∷◌, length, slice_index}
use Rattle.std.specs.Prelude.{Option, Some, None, Result, Ok, Err, if◌then◌else◌}
use Rattle.std.specs.List.{before_first, after_first, list_all}
use Rattle.std.specs.Char.{is_ascii_digit}
use Rattle.std.specs.Str.Parse.{digits_value}
use Rattle.std.specs.Borrow.{Bor}
use Rattle.script_lang.specs.declared.fault.ParseFault.{ParseFault}
use Rattle.script_lang.specs.declared.fault.ParseFault.TheVariants.{BadLine, Memory}
use Rattle.model_state.specs.Names.{is_name}
use Rattle.script_lang.specs.Left.{Left, left_of}
use Rattle.finite_maps.specs.Equal.{text_eq}

-- one reading after another; the first that does not fit gives its column
infixl 10 ◌>>=◌
abbrev pub ◌>>=◌ : {A B : Type 0} → Result A ℕ → (A → Result B ℕ) → Result B ℕ
(Ok x) >>= f = f x
(Err e) >>= f = Err e

-- a space
abbrev pub is_space : ℕ → Bool
is_space b = b == 32

-- the first word of the rest of a line, and what is left after it; an empty word does not fit
abbrev pub word_of : ℕ → List ℕ → Result (List ℕ × Left) ℕ
word_of column rest =
    let word = before_first is_space rest in
    if length word == 0 then Err column
    else Ok (
      word,
      record {
        rest = if nat_lt (length word) (length rest) then Some (after_first is_space rest) else None;
        column = column + length word + 1;
      },
    )

-- a word that is missing is missed one past the end
abbrev pub word_from : Option (List ℕ) → ℕ → Result (List ℕ × Left) ℕ
word_from None column = Err (column - 1)
word_from (Some rest) column = word_of column rest

-- the next word
unfoldable pub word_at : Left → Result (List ℕ × Left) ℕ
word_at left = word_from left.rest left.column

-- digits, at least one, and no zero before others
abbrev pub is_numeral : List ℕ → Bool
is_numeral word = nat_lt 0 (length word) && ((length word == 1) || not (slice_index word 0 == 48)) && list_all is_ascii_digit word

-- a decimal number without needless zeros, below the limit
unfoldable pub number_below : ℕ → List ℕ → Option ℕ
number_below limit word = if is_numeral word && nat_lt (digits_value 10 word) limit then Some (digits_value 10 word) else None

-- a number of 32 bits
abbrev pub number_of : List ℕ → Option ℕ
number_of word = number_below (2 ^ 32) word

-- the value of a word that began at the column, where it has one
abbrev pub found_at : {X : Type 0} → ℕ → Option X → Left → Result (X × Left) ℕ
found_at column None left = Err column
found_at column (Some x) left = Ok (x, left)

-- the number, where it is at least that
abbrev pub not_below : ℕ → Option ℕ → Option ℕ
not_below least None = None
not_below least (Some n) = if nat_le least n then Some n else None

-- the next word, a number of at least that
unfoldable pub number_at : ℕ → Left → Result (ℕ × Left) ℕ
number_at least left = do
  word ← word_at left
  found_at left.column (not_below least (number_of word.0)) word.1

-- the next word, a number of 64 bits
unfoldable pub moment_at : Left → Result (ℕ × Left) ℕ
moment_at left = do
  word ← word_at left
  found_at left.column (number_below (2 ^ 64) word.0) word.1

-- no word is left
abbrev pub end_from : Option (List ℕ) → ℕ → Result (Unit {0}) ℕ
end_from None column = Ok tt
end_from (Some rest) column = Err column

-- the line ends here
abbrev pub end_at : Left → Result (Unit {0}) ℕ
end_at left = end_from left.rest left.column

-- the next word, a name
unfoldable pub name_at : Left → Result (List ℕ × Left) ℕ
name_at left = do
  word ← word_at left
  found_at left.column (if is_name word.0 then Some word.0 else None) word.1

-- the next word where something is left, else none
abbrev pub optional_from : Option (List ℕ) → Left → Result (Option (List ℕ) × Left) ℕ
optional_from None left = Ok (None, left)
optional_from (Some rest) left = word_at left >>= λ word. Ok (Some word.0, word.1)

-- the next word, where there is one
unfoldable pub optional_at : Left → Result (Option (List ℕ) × Left) ℕ
optional_at left = optional_from left.rest left

-- the next word, an index, where something is left, else none
abbrev pub optional_number_from : Option (List ℕ) → Left → Result (Option ℕ × Left) ℕ
optional_number_from None left = Ok (None, left)
optional_number_from (Some rest) left = number_at 0 left >>= λ number. Ok (Some number.0, number.1)

-- the next word, an index, where there is one
unfoldable pub optional_number_at : Left → Result (Option ℕ × Left) ℕ
optional_number_at left = optional_number_from left.rest left

-- all that is left, not empty; it may hold spaces
abbrev pub rest_from : Option (List ℕ) → ℕ → Result (List ℕ) ℕ
rest_from None column = Err (column - 1)
rest_from (Some []) column = Err column
rest_from (Some (b ∷ bs)) column = Ok (b ∷ bs)

-- the rest of the line
unfoldable pub rest_at : Left → Result (List ℕ) ℕ
rest_at left = rest_from left.rest left.column

-- the rest of the line, not empty, where something is left, else none
abbrev pub optional_rest_from : Option (List ℕ) → Left → Result (Option (List ℕ)) ℕ
optional_rest_from None left = Ok None
optional_rest_from (Some rest) left = rest_at left >>= λ text. Ok (Some text)

-- the rest of the line, where there is one
unfoldable pub optional_rest_at : Left → Result (Option (List ℕ)) ℕ
optional_rest_at left = optional_rest_from left.rest left

-- the index, or none where the word is `end`
abbrev pub index_from : Option ℕ → List ℕ → Option (Option ℕ)
index_from (Some index) word = Some (Some index)
index_from None word = if text_eq word (codes "end") then Some None else None

-- an index, or none for the word `end`
abbrev pub index_or_end : List ℕ → Option (Option ℕ)
index_or_end word = index_from (number_of word) word

-- the next word, an index or `end`
unfoldable pub index_or_end_at : Left → Result (Option ℕ × Left) ℕ
index_or_end_at left = do
  word ← word_at left
  found_at left.column (index_or_end word.0) word.1

-- the fault names the column that reading gives; out of memory says nothing of the line
abbrev pub IsBad : {X : Type 0} → ParseFault → Result X ℕ → Type 0
IsBad Memory read = Unit {0}
IsBad (BadLine column) read = read ≡ Err column

-- a call gave what reading gives, and stands after it
abbrev pub Gives : {X : Type 0} → Left → Result X ParseFault → Result (X × Left) ℕ → Type 0
Gives new (Ok x) read = read ≡ Ok (x, new)
Gives new (Err e) read = IsBad e read

-- the same of a call that gives a text
abbrev pub GivesText : Left → Result (Bor (List ℕ)) ParseFault → Result (List ℕ × Left) ℕ → Type 0
GivesText new (Ok x) read = read ≡ Ok (x.now, new)
GivesText new (Err e) read = IsBad e read

-- the same of a call that looks for the line's end
abbrev pub GivesEnd : Result (Unit {0}) ParseFault → Result (Unit {0}) ℕ → Type 0
GivesEnd (Ok x) read = read ≡ Ok tt
GivesEnd (Err e) read = IsBad e read

-- the same of a call that may give a text
abbrev pub GivesOptional : Left → Result (Option (Bor (List ℕ))) ParseFault → Result (Option (List ℕ) × Left) ℕ → Type 0
GivesOptional new (Ok o) read = read ≡ Ok (left_of o, new)
GivesOptional new (Err e) read = IsBad e read

-- the same of a call that gives the rest of the line
abbrev pub GivesRest : Result (Bor (List ℕ)) ParseFault → Result (List ℕ) ℕ → Type 0
GivesRest (Ok x) read = read ≡ Ok x.now
GivesRest (Err e) read = IsBad e read

-- the same of a call that may give the rest of the line
abbrev pub GivesOptionalRest : Result (Option (Bor (List ℕ))) ParseFault → Result (Option (List ℕ)) ℕ → Type 0
GivesOptionalRest (Ok o) read = read ≡ Ok (left_of o)
GivesOptionalRest (Err e) read = IsBad e read
