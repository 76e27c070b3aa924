-- Words that are numbers, and the words that numbers are written as.
use Rattle.std.proofs.Common.{◌≡◌, ℕ, zero, suc, ◌<◌, ◌≤◌, ◌^◌, List, [], ◌∷◌, length, refl, sym, ap, ◌∙◌, true, false, Bool, ◌&&◌, ◌||◌, not, cond}
use Rattle.std.proofs.Common.{None, Some, Result, Err, arith, get_or, nat_eq, nat_lt}
use Rattle.std.specs.List.{list_all, list_any}
use Rattle.std.specs.Char.{is_ascii_digit}
use Rattle.std.specs.Fmt.{decimal}
use Rattle.std.specs.Str.Parse.{digits_value, ParsesUnsigned}
use Rattle.std.proofs.lemmas.Bool.{leb-true, le-leb}
use Rattle.std.proofs.Math.Dec.{leb}
use Rattle.std.proofs.lemmas.Str.Parse.{IsNumeralModel, IsDigitsTest, numerals_by_value, parse_gives}
use Rattle.std.proofs.lemmas.Fmt.{digits_decimal, digits_value-decimal, decimal-digits_value, decimal_nonempty, first_decimal, decimal_digit}
use Rattle.script_lang.specs.Words.{number_below, is_numeral, is_space}
use Rattle.script_lang.specs.Spelling.{IsWord}

pub both : (a b : Bool) → (a && b) ≡ true → (a ≡ true) × (b ≡ true)
both true b e = (refl, e)
both false b e = cc

pub all_three : (a b c : Bool) → a ≡ true → b ≡ true → c ≡ true → (a && b && c) ≡ true
all_three a b c p q r = grind (arith, p, q, r)

-- the value of a choice that has one
pub chosen : {X : Type 0} (b : Bool) (x y : X) → cond b (Some x) None ≡ Some y → (b ≡ true) × (x ≡ y)
chosen true x y e = (refl, cc)
chosen false x y e = cc

pub tells_digits : IsDigitsTest (λ ds. list_all is_ascii_digit ds ≡ true)
tells_digits = record {
  empty = refl;
  parts = λ c cs e. let k = both (is_ascii_digit c) (list_all is_ascii_digit cs) e in let m = both (leb 48 c) (leb c 57) k.0
      in ((leb-true 48 c m.0, leb-true c 57 m.1), k.1);
  more = λ c cs k e i. (le-leb 48 c k.0 i && le-leb c 57 k.1 i) && e i;
}

pub numerals : IsNumeralModel (λ ds. list_all is_ascii_digit ds ≡ true) (digits_value 10)
numerals = numerals_by_value (λ ds. list_all is_ascii_digit ds ≡ true) tells_digits

no_digit_space : (c : ℕ) → 48 ≤ c → is_space c ≡ false
no_digit_space c low = grind arith

-- digits hold no space
no_space : (ds : List ℕ) → list_all is_ascii_digit ds ≡ true → list_any is_space ds ≡ false
no_space [] e = refl
no_space (c ∷ cs) e =
    let k = both (is_ascii_digit c) (list_all is_ascii_digit cs) e in
    let low : 48 ≤ c = leb-true 48 c (both (leb 48 c) (leb c 57) k.0).0 in
    rw (no_digit_space c low) (no_space cs k.1)

pub decimal_word : (n : ℕ) → n < 2 ^ 64 → IsWord (decimal n)
decimal_word n small = (decimal_nonempty n (omega arith), no_space (decimal n) (digits_decimal numerals n (omega arith)))

-- a number is written without a needless zero
no_needless_zero : (n : ℕ) → n < 2 ^ 64 → ((nat_eq (length (decimal n)) 1) || not (nat_eq (get_or (decimal n) 0 0) 48)) ≡ true
no_needless_zero zero small = rw (decimal_digit 0 (omega arith)) refl
no_needless_zero (suc n) small = let first = first_decimal (suc n) (omega arith) (omega arith) in grind (arith, first)

-- a number below the limit is read of its digits
pub number_decimal : (limit : ℕ) → limit ≤ 2 ^ 64 → (n : ℕ) → n < limit → number_below limit (decimal n) ≡ Some n
unfolding number_below
number_decimal limit short n small =
    let narrow : n < 2 ^ 64 = omega (arith, short, small) in
    let value = digits_value-decimal numerals n narrow in
    let numeral : is_numeral (decimal n) ≡ true =
    all_three _ _ _ (le-leb 1 (length (decimal n)) (decimal_nonempty n narrow)) (no_needless_zero n narrow) (digits_decimal numerals n narrow) in
    let fits : nat_lt (digits_value 10 (decimal n)) limit ≡ true = le-leb (suc (digits_value 10 (decimal n))) limit (omega (arith, value, small)) in
    rw numeral (rw fits (ap Some value))

-- no zero before others
lone_zero : (a b : ℕ) → (nat_eq a 1 || not (nat_eq b 48)) ≡ true → b ≡ 48 → a ≡ 1
lone_zero a b e is = grind (arith, e, is)

-- where one is read, the word is its digits
pub number_back : (limit : ℕ) → limit ≤ 2 ^ 64 → (word : List ℕ) (n : ℕ) → number_below limit word ≡ Some n → (word ≡ decimal n) × (n < limit)
unfolding number_below
number_back limit short word n is =
    let k = chosen (is_numeral word && nat_lt (digits_value 10 word) limit) (digits_value 10 word) n is in
    let t = both (is_numeral word) (nat_lt (digits_value 10 word) limit) k.0 in
    let below : digits_value 10 word < limit = leb-true (suc (digits_value 10 word)) limit t.1 in
    let digits = both (nat_lt 0 (length word) && (nat_eq (length word) 1 || not (nat_eq (get_or word 0 0) 48))) (list_all is_ascii_digit word) t.0 in
    let front = both (nat_lt 0 (length word)) (nat_eq (length word) 1 || not (nat_eq (get_or word 0 0) 48)) digits.0 in
    let written = decimal-digits_value numerals word digits.1 (leb-true 1 (length word) front.0) (lone_zero (length word) (get_or word 0 0) front.1)
    (omega (arith, below, short)) in
    (sym written ∙ ap decimal k.1, omega (arith, below, k.1))

-- a numeral that std does not read is too large
pub too_large : {E : Type 0} (bits : ℕ) (word : List ℕ) (r : Result ℕ E) (e : E) → ParsesUnsigned bits 10 word r → r ≡ Err e → is_numeral word ≡ true
    → None ≡ number_below (2 ^ bits) word
unfolding number_below
too_large bits word r e reads is numeral = by (nat_lt (digits_value 10 word) (2 ^ bits)) refl
  where
    by : (b : Bool) → nat_lt (digits_value 10 word) (2 ^ bits) ≡ b
        → None ≡ cond (is_numeral word && nat_lt (digits_value 10 word) (2 ^ bits)) (Some (digits_value 10 word)) None
    by true t =
        let digits = both (nat_lt 0 (length word) && (nat_eq (length word) 1 || not (nat_eq (get_or word 0 0) 48))) (list_all is_ascii_digit word) numeral in
        let front = both (nat_lt 0 (length word)) (nat_eq (length word) 1 || not (nat_eq (get_or word 0 0) 48)) digits.0 in
        let given = parse_gives numerals bits word r reads digits.1 (leb-true 1 (length word) front.0) (leb-true (suc (digits_value 10 word)) (2 ^ bits) t) in
        cc
    by false t = rw numeral (rw t refl)
