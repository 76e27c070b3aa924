-- Digits that std reads as no number of 32 bits are too large.
use Rattle.std.proofs.Common.{◌≡◌, ℕ, ◌≤◌, ◌^◌, suc, List, [], ◌∷◌, length, refl, true, false, Bool, ◌&&◌, cond, None, Some, Result, Err, arith, nat_lt}
use Rattle.std.specs.List.{list_all}
use Rattle.std.specs.Char.{is_ascii_digit}
use Rattle.std.specs.Str.Parse.{digits_value, ParsesUnsigned}
use Rattle.std.proofs.lemmas.Bool.{leb-true, le-leb}
use Rattle.std.proofs.Math.Dec.{leb}
use Rattle.std.proofs.lemmas.Str.Parse.{IsNumeralModel, IsDigitsTest, numerals_by_value, parse_gives}
use Rattle.model_documents.specs.References.{number_of}

both : (a b : Bool) → (a && b) ≡ true → (a ≡ true) × (b ≡ true)
both true b e = (refl, e)
both false b e = cc

tells_digits : IsDigitsTest (λ ds. list_all is_ascii_digit ds ≡ true)
tells_digits = record {
  empty = refl;
  parts = λ c cs e. let k = both (is_ascii_digit c) (list_all is_ascii_digit cs) e in let m = both (leb 48 c) (leb c 57) k.0
      in ((leb-true 48 c m.0, leb-true c 57 m.1), k.1);
  more = λ c cs k e i. (le-leb 48 c k.0 i && le-leb c 57 k.1 i) && e i;
}

numerals : IsNumeralModel (λ ds. list_all is_ascii_digit ds ≡ true) (digits_value 10)
numerals = numerals_by_value (λ ds. list_all is_ascii_digit ds ≡ true) tells_digits

by_parts : (a b c : Bool) (n : ℕ) → a ≡ true → b ≡ true → c ≡ true → Some n ≡ cond (a && (b && c)) (Some n) None
by_parts a b c n p q r = rw (p, q, r) refl

none_by_last : (a b : Bool) (n : ℕ) → None ≡ cond (a && (b && false)) (Some n) None
none_by_last true true n = refl
none_by_last true false n = refl
none_by_last false b n = refl

read_as : {E : Type 0} (word : List ℕ) (r : Result ℕ E) (e : E) → ParsesUnsigned 32 10 word r → r ≡ Err e → 1 ≤ length word
    → list_all is_ascii_digit word ≡ true → None ≡ number_of word
read_as word r e reads is some digits = by (nat_lt (digits_value 10 word) (2 ^ 32)) refl
  where
    by : (b : Bool) → nat_lt (digits_value 10 word) (2 ^ 32) ≡ b → None ≡ number_of word
    by true t =
        let given = parse_gives numerals 32 word r reads digits some (leb-true (suc (digits_value 10 word)) (2 ^ 32) t) in
        cc
    by false t = rw t (none_by_last (nat_lt 0 (length word)) (list_all is_ascii_digit word) (digits_value 10 word))

-- a numeral that std does not read is too large
pub too_large : {E : Type 0} (word : List ℕ) (r : Result ℕ E) (e : E) → ParsesUnsigned 32 10 word r → r ≡ Err e → list_all is_ascii_digit word ≡ true
    → None ≡ number_of word
too_large [] r e reads is digits = refl
too_large (first ∷ rest) r e reads is digits = read_as (first ∷ rest) r e reads is (omega arith) digits
