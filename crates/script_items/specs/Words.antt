-- The words of the command line, and what they ask for.
use Rattle.std.specs.Prelude.{◌≡◌, ℕ, ◌<◌, ◌≤◌, ◌^◌, ◌==◌, ◌&&◌, ◌||◌, not, nat_lt, Bool, List, [], ◌∷◌, ◌++◌, codes, length, slice_index}
use Rattle.std.specs.Char.{is_ascii_digit}
use Rattle.std.specs.Fmt.{decimal}
use Rattle.std.specs.List.{list_all}
use Rattle.script_items.specs.declared.words.Request.{Request}
use Rattle.script_items.specs.declared.words.Request.TheVariants.{Serve, Check, Generate}

-- the most rounds of a script that is generated
abbrev pub most_rounds : ℕ
most_rounds = 10000

-- SEED:COUNT in decimal, without needless zeros: a seed of 64 bits, and a count of rounds from 1 to the most
pub record AreNumbers (word : List ℕ) (seed count : ℕ) : Type 0 where
  pub word_is : word ≡ decimal seed ++ 58 ∷ decimal count
  pub seed_fits : seed < 2 ^ 64
  pub least : 1 ≤ count
  pub most : count ≤ most_rounds

-- the words ask for this: there are none, the one word is `--check`, or the two are `--generate` and SEED:COUNT
abbrev pub AskFor : List (List ℕ) → Request → Type 0
AskFor words Serve = words ≡ []
AskFor words Check = words ≡ codes "--check" ∷ []
AskFor words (Generate seed count) = (numbers : List ℕ) × (words ≡ codes "--generate" ∷ numbers ∷ []) × AreNumbers numbers seed count

-- the words ask for nothing
abbrev pub AreBad : List (List ℕ) → Type 0
AreBad words = (request : Request) → AskFor words request → ⊥

-- digits, at least one, and no zero before others
abbrev pub is_numeral : List ℕ → Bool
is_numeral word = nat_lt 0 (length word) && ((length word == 1) || not (slice_index word 0 == 48)) && list_all is_ascii_digit word
