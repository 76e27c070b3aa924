-- The words of lines hold neither a line feed nor a carriage return, and such lines are cut out as they are.
use Rattle.std.proofs.Common.{◌≡◌, ℕ, ◌<◌, ◌≤◌, ◌^◌, ◌&&◌, List, [], ◌∷◌, ◌++◌, length, nat_lt, nat_le, Bool, true, false, refl, sym, ap, subst, ◌∙◌}
use Rattle.std.proofs.Common.{arith, append-nil, append_assoc}
use Rattle.std.specs.List.{AllByRecursion, list_all, list_any}
use Rattle.std.specs.Str.{IsUtf8}
use Rattle.std.specs.Char.{is_ascii_digit, is_ascii_alphabetic}
use Rattle.std.specs.Fmt.{decimal}
use Rattle.std.proofs.lemmas.Bool.{and_parts}
use Rattle.std.proofs.lemmas.Fmt.{digits_decimal}
use Rattle.std.proofs.lemmas.List.Folds.{list_all-append}
use Rattle.std.proofs.lemmas.Str.{IsUtf8-nil}
use Rattle.host_port.specs.Limits.{line_limit}
use Rattle.model_state.specs.Names.{is_name, is_name_byte, most_name_rest}
use Rattle.merge_laws.specs.Choices.{is_choice}
use Rattle.script_lang.specs.Words.{is_space}
use Rattle.script_lang.specs.Spelling.{spaced, IsWord}
use Rattle.script_lang.proofs.Numbers.{numerals}
use Rattle.printed_items.specs.Printed.{IsWholeLine}
use Rattle.replay_texts.specs.Texts.{is_quiet, breaks_line}
use Rattle.replay_texts.proofs.Lines.{messages_stand}

-- the word is quiet
pub record IsQuiet (word : List ℕ) : Type 0 where
  pub all : list_all is_quiet word ≡ true

weaker : (p q : ℕ → Bool) → ((b : ℕ) → p b ≡ true → q b ≡ true) → (xs : List ℕ) → list_all p xs ≡ true → list_all q xs ≡ true
weaker p q goes [] all = refl
weaker p q goes (x ∷ xs) all = let k = and_parts (p x) (list_all p xs) all in rw (goes x k.0, weaker p q goes xs k.1) refl

digit : (b : ℕ) → is_ascii_digit b ≡ true → is_quiet b ≡ true
digit b is = grind (arith, is)

letter : (b : ℕ) → is_ascii_alphabetic b ≡ true → is_quiet b ≡ true
letter b is = grind (arith, is)

quiet_from : (b : ℕ) → nat_lt b 128 ≡ true → nat_le 45 b ≡ true → is_quiet b ≡ true
quiet_from b low high = grind (arith, low, high)

name_low : (b : ℕ) → is_name_byte b ≡ true → nat_lt b 128 ≡ true
name_low b is = grind (arith, is)

name_high : (b : ℕ) → is_name_byte b ≡ true → nat_le 45 b ≡ true
name_high b is = grind (arith, is)

name_byte : (b : ℕ) → is_name_byte b ≡ true → is_quiet b ≡ true
name_byte b is = quiet_from b (name_low b is) (name_high b is)

choice : (b : ℕ) → is_choice b ≡ true → is_quiet b ≡ true
choice b is = grind (arith, is)

no_space : (b : ℕ) → is_choice b ≡ true → is_space b ≡ false
no_space b is = grind (arith, is)

pub quiet_number : (n : ℕ) → n < 2 ^ 32 → IsQuiet (decimal n)
quiet_number n small = record { all = weaker is_ascii_digit is_quiet digit (decimal n) (digits_decimal numerals n (omega arith)) }

pub quiet_name : (name : List ℕ) → is_name name ≡ true → IsQuiet name
quiet_name [] is = absurd cc
quiet_name (b ∷ bs) is =
    let k = and_parts (is_ascii_alphabetic b && nat_le (length bs) most_name_rest) (list_all is_name_byte bs) is in
    let m = and_parts (is_ascii_alphabetic b) (nat_le (length bs) most_name_rest) k.0 in
    record { all = rw (letter b m.0, weaker is_name_byte is_quiet name_byte bs k.1) refl }

pub quiet_letters : (letters : List ℕ) → list_all is_choice letters ≡ true → IsQuiet letters
quiet_letters letters is = record { all = weaker is_choice is_quiet choice letters is }

spaceless : (letters : List ℕ) → list_all is_choice letters ≡ true → list_any is_space letters ≡ false
spaceless [] is = refl
spaceless (b ∷ bs) is = let k = and_parts (is_choice b) (list_all is_choice bs) is in rw (no_space b k.0) (spaceless bs k.1)

pub letters_word : (b : ℕ) (bs : List ℕ) → list_all is_choice (b ∷ bs) ≡ true → IsWord (b ∷ bs)
letters_word b bs is = (omega arith, spaceless (b ∷ bs) is)

spaced_quiet : (words : List (List ℕ)) → AllByRecursion IsQuiet words → list_all is_quiet (spaced words) ≡ true
spaced_quiet [] all = refl
spaced_quiet (word ∷ []) all = all.0.all
spaced_quiet (word ∷ next ∷ words) all = list_all-append is_quiet word (32 ∷ spaced (next ∷ words)) ∙ rw all.0.all (spaced_quiet (next ∷ words) all.1)

-- a line of quiet words
pub quiet_line : (words : List (List ℕ)) → AllByRecursion IsQuiet words → length (spaced words) ≤ line_limit → IsWholeLine (spaced words)
quiet_line words all short =
    subst IsWholeLine (append-nil (spaced words)) (messages_stand (spaced words) [] (spaced_quiet words all) IsUtf8-nil refl
    (subst (λ (xs : List ℕ). length xs ≤ line_limit) (sym (append-nil (spaced words))) short))

pub quiet_moment : (n : ℕ) → n < 2 ^ 64 → IsQuiet (decimal n)
quiet_moment n small = record { all = weaker is_ascii_digit is_quiet digit (decimal n) (digits_decimal numerals n small) }

-- quiet words, each with a space, before a message
abbrev before_message : List (List ℕ) → List ℕ
before_message [] = []
before_message (word ∷ words) = word ++ 32 ∷ before_message words

front_is : (words : List (List ℕ)) (message : List ℕ) → before_message words ++ message ≡ spaced (words ++ message ∷ [])
front_is [] message = refl
front_is (word ∷ []) message = append_assoc word (32 ∷ []) message
front_is (word ∷ next ∷ words) message =
    append_assoc word (32 ∷ before_message (next ∷ words)) message ∙ ap (λ (xs : List ℕ). word ++ 32 ∷ xs) (front_is (next ∷ words) message)

front_quiet : (words : List (List ℕ)) → AllByRecursion IsQuiet words → list_all is_quiet (before_message words) ≡ true
front_quiet [] all = refl
front_quiet (word ∷ words) all = list_all-append is_quiet word (32 ∷ before_message words) ∙ rw all.0.all (front_quiet words all.1)

-- so is a line of quiet words with a message after them
pub message_line : (words : List (List ℕ)) (message : List ℕ) → AllByRecursion IsQuiet words → IsUtf8 message → breaks_line message ≡ false
    → length (spaced (words ++ message ∷ [])) ≤ line_limit → IsWholeLine (spaced (words ++ message ∷ []))
message_line words message all utf8 whole short =
    subst IsWholeLine (front_is words message) (messages_stand (before_message words) message (front_quiet words all) utf8 whole
    (subst (λ (xs : List ℕ). length xs ≤ line_limit) (sym (front_is words message)) short))
