-- Numbers in decimal with a colon between, as they are read.
use Rattle.std.proofs.Common.{◌≡◌, ◌≢◌, ◌∙◌, ℕ, ◌<◌, ◌≤◌, ◌^◌, List, [], ◌∷◌, ◌++◌, Bool, true, false, ◌&&◌, ◌||◌, not, length, get_or, Option, Some}
use Rattle.std.proofs.Common.{None, Result, Ok, Err, refl, sym, ap, subst, suc, arith, inl, inr}
use Rattle.std.specs.Prelude.{MatchOption, IfNone, nat_lt, ◌==◌, slice_index}
use Rattle.std.specs.Fmt.{decimal}
use Rattle.std.specs.List.{list_all}
use Rattle.std.specs.Char.{is_ascii_digit}
use Rattle.std.specs.Str.Parse.{ParsesUnsigned}
use Rattle.std.proofs.lemmas.Bool.{cases_eq}
use Rattle.std.proofs.lemmas.Bool.Decides.{nat_tests}
use Rattle.std.proofs.lemmas.Fmt.{digits_decimal, decimal_nonempty, decimal_digit, first_decimal, decimal_injective, decimal-digits_value, parse-decimal}
use Rattle.std.proofs.lemmas.Str.Parse.{not_in_digits, parse_digits}
use Rattle.std.proofs.lemmas.Str.Pattern.{IsSplitOnceResult, split_after}
use denote.Ref.{Bor}
use Rattle.script_items.proofs.Digits.{numerals}
use Rattle.script_items.specs.Words.{AreNumbers, AskFor, is_numeral, most_rounds}
use Rattle.script_items.specs.declared.words.Request.{Request}
use Rattle.script_items.specs.declared.words.Request.TheVariants.{Serve, Check, Generate}

-- three tests that hold
three : (a b c : Bool) → (a && b && c) ≡ true → (a ≡ true) × (b ≡ true) × (c ≡ true)
three true true true e = (refl, refl, refl)
three true true false e = cc
three true false c e = cc
three false b c e = cc

all_three : (a b c : Bool) → a ≡ true → b ≡ true → c ≡ true → (a && b && c) ≡ true
all_three a b c p q r = rw (p, q, r) refl

first_of : (a b : Bool) → (a || not b) ≡ true → b ≡ true → a ≡ true
first_of true b e is = refl
first_of false true e is = cc
first_of false false e is = cc

by_first : (a b : Bool) → a ≡ true → (a || not b) ≡ true
by_first a b is = rw is refl

by_second : (a b : Bool) → b ≡ false → (a || not b) ≡ true
by_second true b is = refl
by_second false b is = rw is refl

-- a numeral that is read is that of its number
pub number_is : {E : Type 0} (word : List ℕ) (r : Result ℕ E) (n : ℕ) → ParsesUnsigned 64 10 word r → r ≡ Ok n → is_numeral word ≡ true → word ≡ decimal n
number_is word r n reads is numeral =
    let k = three (nat_lt 0 (length word)) ((length word == 1) || not (slice_index word 0 == 48)) (list_all is_ascii_digit word) numeral in
    let some : 0 < length word = grind (arith, nat_tests, k.0) in
    let parsed = parse_digits numerals 64 word r reads k.2 in
    let read = rw is at parsed in
    sym (decimal-digits_value numerals word k.2 some (λ zero.
    let test : (slice_index word 0 == 48) ≡ true = grind (arith, nat_tests, zero) in
    let one = first_of (length word == 1) (slice_index word 0 == 48) k.1 test in
    grind (arith, nat_tests, one)) read.0.1) ∙ ap decimal (sym read.1)

leads : (n : ℕ) → n < 2 ^ 64 → ((length (decimal n) == 1) || not (slice_index (decimal n) 0 == 48)) ≡ true
leads n small = elim (cases_eq n 0) [
  | inl none ↦ by_first (length (decimal n) == 1) (slice_index (decimal n) 0 == 48) (rw (none, decimal_digit 0 (omega arith)) refl)
  | inr some ↦
      let past : 48 < get_or (decimal n) 0 0 = first_decimal n (omega arith) small in
      by_second (length (decimal n) == 1) (slice_index (decimal n) 0 == 48) (grind (arith, nat_tests, past))
]

decimal_numeral : (n : ℕ) → n < 2 ^ 64 → is_numeral (decimal n) ≡ true
decimal_numeral n small =
    let some = decimal_nonempty n small in
    all_three (nat_lt 0 (length (decimal n))) ((length (decimal n) == 1) || not (slice_index (decimal n) 0 == 48)) (list_all is_ascii_digit (decimal n))
    (grind (arith, nat_tests, some)) (leads n small) (digits_decimal numerals n small)

-- what is no numeral is no number in decimal
pub no_numeral : (word : List ℕ) → is_numeral word ≡ false → (n : ℕ) → n < 2 ^ 64 → word ≡ decimal n → ⊥
no_numeral word none n small is = let clash : false ≡ true = sym none ∙ ap is_numeral is ∙ decimal_numeral n small in cc

-- what can't be read is none
pub no_number : {E : Type 0} (word : List ℕ) (r : Result ℕ E) (e : E) → ParsesUnsigned 64 10 word r → r ≡ Err e → (n : ℕ) → n < 2 ^ 64 → word ≡ decimal n → ⊥
no_number word r e reads failed n small is = let ok = parse-decimal 64 n word r small small is reads in cc

no_colon : (n : ℕ) → n < 2 ^ 64 → (i : ℕ) → i < length (decimal n) → get_or (decimal n) i 0 ≢ 58
no_colon n small = not_in_digits numerals (decimal n) 58 (digits_decimal numerals n small) (λ within. absurd (omega arith))

-- the text is cut between the numbers
pub cut_between : (word : List ℕ) (r : Option (Bor (List ℕ) × Bor (List ℕ))) → IsSplitOnceResult 58 word r → (seed count : ℕ) → AreNumbers word seed count
    → MatchOption r ⊥ (λ x. (x.0.now ≡ decimal seed) × (x.1.now ≡ decimal count))
cut_between word r cut seed count are = split_after 58 word (decimal seed) (decimal count) r cut (omega arith) are.word_is (no_colon seed are.seed_fits)

-- the count that is read is the one that stands there
pub same_count : (word : List ℕ) (m n : ℕ) → word ≡ decimal m → word ≡ decimal n → m < 2 ^ 64 → n < 2 ^ 64 → m ≡ n
same_count word m n first second small fits = decimal_injective m n small fits (sym first ∙ second)

pub numbers_are : (word first second : List ℕ) (seed count : ℕ) → word ≡ first ++ (58 ∷ second) → first ≡ decimal seed → second ≡ decimal count
    → seed < 2 ^ 64 → 1 ≤ count → count ≤ most_rounds → AreNumbers word seed count
numbers_are word first second seed count is left right fits least most = record {
  word_is = is ∙ ap (λ (l : List ℕ). l ++ (58 ∷ second)) left ∙ ap (λ (l : List ℕ). decimal seed ++ (58 ∷ l)) right;
  seed_fits = fits;
  least = least;
  most = most;
}

-- what holds anyway holds where there is no value
pub held : {A : Type 0} (r : Option A) {P : Type 0} → P → IfNone r P
held None p = p
held (Some x) p = tt

-- a list that has no colon, a colon, and a list: both lists are known
cut_same : (xs ys us vs : List ℕ) → ((i : ℕ) → i < length xs → get_or xs i 0 ≢ 58) → ((i : ℕ) → i < length ys → get_or ys i 0 ≢ 58)
    → (xs ++ 58 ∷ us) ≡ (ys ++ 58 ∷ vs) → (xs ≡ ys) × (us ≡ vs)
cut_same [] [] us vs one two is = (refl, cc)
cut_same [] (y ∷ ys) us vs one two is = let first : y ≡ 58 = cc in absurd (two 0 (omega arith) first)
cut_same (x ∷ xs) [] us vs one two is = let first : x ≡ 58 = cc in absurd (one 0 (omega arith) first)
cut_same (x ∷ xs) (y ∷ ys) us vs one two is =
    let tails : (xs ++ 58 ∷ us) ≡ (ys ++ 58 ∷ vs) = cc in
    let first : x ≡ y = cc in
    let rest = cut_same xs ys us vs (λ i low. one (suc i) (omega arith)) (λ i low. two (suc i) (omega arith)) tails in
    (ap (λ (n : ℕ). n ∷ xs) first ∙ ap (λ (l : List ℕ). y ∷ l) rest.0, rest.1)

same_numbers : (word : List ℕ) (seed other count more : ℕ) → AreNumbers word seed count → AreNumbers word other more → (seed ≡ other) × (count ≡ more)
same_numbers word seed other count more one two =
    let first = one.seed_fits in
    let second = two.seed_fits in
    let least = one.most in
    let most = two.most in
    let small : count < 2 ^ 64 = omega arith in
    let fits : more < 2 ^ 64 = omega arith in
    let parts = cut_same (decimal seed) (decimal other) (decimal count) (decimal more) (no_colon seed first) (no_colon other second)
    (sym one.word_is ∙ two.word_is) in
    (decimal_injective seed other first second parts.0, decimal_injective count more small fits parts.1)

-- words ask for one thing at most
pub same_request : (words : List (List ℕ)) (a b : Request) → AskFor words a → AskFor words b → a ≡ b
same_request words Serve Serve one two = refl
same_request words Serve Check one two = let clash = sym one ∙ two in cc
same_request words Serve (Generate other more) one two = let clash = sym one ∙ two.1 in cc
same_request words Check Serve one two = let clash = sym one ∙ two in cc
same_request words Check Check one two = refl
same_request words Check (Generate other more) one two = let clash = sym one ∙ two.1 in cc
same_request words (Generate seed count) Serve one two = let clash = sym one.1 ∙ two in cc
same_request words (Generate seed count) Check one two = let clash = sym one.1 ∙ two in cc
same_request words (Generate seed count) (Generate other more) one two =
    let words_are = sym one.1 ∙ two.1 in
    let word_is : one.0 ≡ two.0 = cc in
    let same = same_numbers two.0 seed other count more (subst (λ (w : List ℕ). AreNumbers w seed count) word_is one.2) two.2 in
    ap (λ (n : ℕ). Generate n count) same.0 ∙ ap (λ (n : ℕ). Generate other n) same.1
