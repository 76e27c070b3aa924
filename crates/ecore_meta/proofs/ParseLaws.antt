-- What std's parse of a signed number of 64 bits says, in the words of the values.
use Rattle.std.proofs.Common.{◌≡◌, ◌≢◌, ℕ, ℤ, zero, suc, ◌<◌, ◌≤◌, ◌^◌, Bool, true, false, List, [], ◌∷◌, cond, refl, sym, ap, subst, ◌∙◌, arith}
use Rattle.std.proofs.Common.{length, drop, get_or, nat_eq, rules}
use Rattle.std.specs.Prelude.{pos, negsuc, neg_ℤ, Option, None, Some, Result, Ok, Err, nat_lt, FitsSigned, if◌then◌else◌, slice_index, slice_get, ◌^◌}
use Rattle.std.specs.Str.{all_ascii_digits}
use mir.Syntax.{w64}
use mir.Val.{to_z, of_z}
use Rattle.std.proofs.lemmas.Int.{to_z-of_z}
use Rattle.std.proofs.lemmas.Bool.Decides.{nat_tests}
use Rattle.std.specs.Str.Parse.{ParsesSigned}
use Rattle.std.specs.Result.{OkIff}
use Rattle.std.proofs.lemmas.Str.Parse.{IsNumeralModel, numerals_by_fold, parse_signed_plain, parse_signed_minus}
use Rattle.ecore_meta.specs.Typing.{half_of, in_width}
use Rattle.ecore_meta.specs.Values.{digits_from, is_digits, narrow, whole_of, wide}
use Rattle.std.specs.Option.{option_and_then, option_map_or}
use Rattle.ecore_meta.specs.Values.{AreShort, literals_at}
use Rattle.ecore_meta.specs.declared.meta.Enum.{Enum}
use Rattle.ecore_meta.specs.declared.meta.Scalar.{Scalar}
use Rattle.ecore_meta.specs.declared.meta.Scalar.TheVariants.{Text as TextType, Flag as FlagType, Byte, Short, Int, Long, Literal as LiteralType}
use Rattle.ecore_meta.specs.declared.meta.Value.TheVariants.{Whole}

pub own : IsNumeralModel (λ ds. all_ascii_digits ds ≡ true) (digits_from 0)
own = numerals_by_fold _ (search rules) digits_from (search rules)

unfoldable pub ok_of : {T E : Type 0} → Result T E → Option T
ok_of (Ok x) = Some x
ok_of (Err e) = None

-- a result by a condition is a choice by its test
chosen : {T E : Type 0} {Q : Type 0} (r : Result T E) (v : T) (b : Bool) → OkIff r Q v → (Q → b ≡ true) → (b ≡ true → Q) → ok_of r ≡ cond b (Some v) None
unfolding ok_of
chosen (Ok x) v b h f g = rw (f h.0) (ap (λ y. Some y) h.1)
chosen (Err e) v true h f g = absurd (h (g refl))
chosen (Err e) v false h f g = refl

-- digits, one or more
numeral : (bs : List ℕ) → is_digits bs ≡ true → (all_ascii_digits bs ≡ true) × (0 < length bs)
numeral [] h = cc
numeral (b ∷ bs) h = (h, omega arith)

is_numeral_of : (bs : List ℕ) → all_ascii_digits bs ≡ true → 0 < length bs → is_digits bs ≡ true
is_numeral_of [] h k = absurd (omega arith)
is_numeral_of (b ∷ bs) h k = h

wide_pos : (b : Bool) (n : ℕ) → wide (cond b (Some (pos n)) None) ≡ cond (cond b (nat_lt n 9223372036854775808) false) (Some (pos n)) None
wide_pos true n = refl
wide_pos false n = refl

below : (n : ℕ) → nat_lt n 9223372036854775808 ≡ true → n < 9223372036854775808
below n h = grind (arith, nat_tests)

is_below : (n : ℕ) → n < 9223372036854775808 → nat_lt n 9223372036854775808 ≡ true
is_below n h = grind (arith, nat_tests)

pub parsed_plain : {E : Type 0} (bs : List ℕ) (r : Result ℤ E) → ParsesSigned w64 10 bs r → get_or bs 0 0 ≢ 43 → get_or bs 0 0 ≢ 45
    → ok_of r ≡ wide (cond (is_digits bs) (Some (pos (digits_from 0 bs))) None)
parsed_plain bs r h plus minus =
    chosen r (pos (digits_from 0 bs)) (cond (is_digits bs) (nat_lt (digits_from 0 bs) 9223372036854775808) false)
    (parse_signed_plain own w64 bs r h plus minus)
    (λ q. rw (is_numeral_of bs q.0 q.1) (is_below _ q.2))
    (λ e. back (is_digits bs) refl e)
    ∙ sym (wide_pos (is_digits bs) (digits_from 0 bs))
  where
    back : (b : Bool) → is_digits bs ≡ b → cond b (nat_lt (digits_from 0 bs) 9223372036854775808) false ≡ true
        → (all_ascii_digits bs ≡ true) × (0 < length bs) × (digits_from 0 bs < 2 ^ 63)
    back true is e = let k = numeral bs is in (k.0, k.1, below _ e)
    back false is e = cc

neg_in : (n : ℕ) → in_width 9223372036854775808 (neg_ℤ (pos n)) ≡ nat_lt n 9223372036854775809
neg_in zero = refl
neg_in (suc n) = same_test n
  where
    same_test : (n : ℕ) → nat_lt n 9223372036854775808 ≡ nat_lt (suc n) 9223372036854775809
    same_test n = grind (arith, nat_tests)

wide_neg : (b : Bool) (n : ℕ) → wide (cond b (Some (neg_ℤ (pos n))) None) ≡ cond (cond b (nat_lt n 9223372036854775809) false) (Some (neg_ℤ (pos n))) None
wide_neg true n = ap (λ b. cond b (Some (neg_ℤ (pos n))) None) (neg_in n)
wide_neg false n = refl

most : (n : ℕ) → nat_lt n 9223372036854775809 ≡ true → n ≤ 9223372036854775808
most n h = grind (arith, nat_tests)

is_most : (n : ℕ) → n ≤ 9223372036854775808 → nat_lt n 9223372036854775809 ≡ true
is_most n h = grind (arith, nat_tests)

parsed_minus : {E : Type 0} (bs : List ℕ) (r : Result ℤ E) → ParsesSigned w64 10 bs r → get_or bs 0 0 ≡ 45
    → ok_of r ≡ wide (cond (is_digits (drop 1 bs)) (Some (neg_ℤ (pos (digits_from 0 (drop 1 bs))))) None)
parsed_minus bs r h minus =
    chosen r (neg_ℤ (pos (digits_from 0 (drop 1 bs)))) (cond (is_digits (drop 1 bs)) (nat_lt (digits_from 0 (drop 1 bs)) 9223372036854775809) false)
    (parse_signed_minus own w64 bs r h minus)
    (λ q. rw (is_numeral_of (drop 1 bs) q.0 q.1) (is_most _ q.2))
    (λ e. back (is_digits (drop 1 bs)) refl e)
    ∙ sym (wide_neg (is_digits (drop 1 bs)) (digits_from 0 (drop 1 bs)))
  where
    back : (b : Bool) → is_digits (drop 1 bs) ≡ b → cond b (nat_lt (digits_from 0 (drop 1 bs)) 9223372036854775809) false ≡ true
        → (all_ascii_digits (drop 1 bs) ≡ true) × (0 < length (drop 1 bs)) × (digits_from 0 (drop 1 bs) ≤ 2 ^ 63)
    back true is e = let k = numeral (drop 1 bs) is in (k.0, k.1, most _ e)
    back false is e = cc

nat_same : (m n : ℕ) → nat_eq m n ≡ true → m ≡ n
nat_same m n h = search rules

nat_apart : (m n : ℕ) → nat_eq m n ≡ false → m ≢ n
nat_apart m n h = search rules

-- what parse gives is the whole number, where 64 bits hold it
pub parsed : {E : Type 0} (bs : List ℕ) (r : Result ℤ E) → ParsesSigned w64 10 bs r → false ≡ nat_eq (slice_index bs 0) 43 → ok_of r ≡ wide (whole_of bs)
unfolding whole_of
parsed [] r h plus = parsed_plain [] r h (λ e. cc) (λ e. cc)
parsed (b ∷ bs) r h plus = by_sign (nat_eq b 45) refl
  where
    by_sign : (t : Bool) → nat_eq b 45 ≡ t
        → ok_of r ≡ wide (if t then cond (is_digits bs) (Some (neg_ℤ (pos (digits_from 0 bs)))) None else cond (is_digits (b ∷ bs))
        (Some (pos (digits_from 0 (b ∷ bs)))) None)
    by_sign true e = parsed_minus (b ∷ bs) r h (nat_same b 45 e)
    by_sign false e = parsed_plain (b ∷ bs) r h (nat_apart b 43 (sym plus)) (nat_apart b 45 e)

-- a text with a plus is no whole number
pub plus_none : (bs : List ℕ) → true ≡ nat_eq (slice_index bs 0) 43 → None ≡ wide (whole_of bs)
unfolding whole_of
plus_none [] h = cc
plus_none (b ∷ bs) h = by_byte b (nat_same b 43 (sym h))
  where
    by_byte : (b : ℕ) → b ≡ 43
        → None ≡ wide (if nat_eq b 45 then cond (is_digits bs) (Some (neg_ℤ (pos (digits_from 0 bs)))) None else cond (is_digits (b ∷ bs))
        (Some (pos (digits_from 0 (b ∷ bs)))) None)
    by_byte b e = subst (λ x.
        None ≡ wide (if nat_eq x 45 then cond (is_digits bs) (Some (neg_ℤ (pos (digits_from 0 bs)))) None else cond (is_digits (x ∷ bs))
        (Some (pos (digits_from 0 (x ∷ bs)))) None)) (sym e) refl

-- the number that was read fits 64 bits
pub fits_64 : {E : Type 0} (bs : List ℕ) (r : Result ℤ E) → ParsesSigned w64 10 bs r → (n : ℤ) → r ≡ Ok n → FitsSigned w64 n
fits_64 bs (Ok m) h n is = let same : m ≡ n = cc in subst (λ x. FitsSigned w64 x) (sym h.1 ∙ same) h.0.1
fits_64 bs (Err e) h n is = cc

pub read_fits : {E : Type 0} (bs : List ℕ) (r : Result ℤ E) → ParsesSigned w64 10 bs r → (n : ℤ) → r ≡ Ok n → to_z w64 (of_z w64 n) ≡ n
read_fits bs r h n is = to_z-of_z w64 n (fits_64 bs r h n is)

in_less : (half : ℕ) → half ≤ 9223372036854775808 → (n : ℤ) → in_width 9223372036854775808 n ≡ false → in_width half n ≡ false
in_less half h (pos n) out = lt_less n out
  where
    lt_less : (n : ℕ) → nat_lt n 9223372036854775808 ≡ false → nat_lt n half ≡ false
    lt_less n out = grind (arith, nat_tests)
in_less half h (negsuc n) out = lt_less n out
  where
    lt_less : (n : ℕ) → nat_lt n 9223372036854775808 ≡ false → nat_lt n half ≡ false
    lt_less n out = grind (arith, nat_tests)

-- a number that 64 bits do not hold is in no narrower type
pub narrowed : (half : ℕ) → half ≤ 9223372036854775808 → (o w : Option ℤ) → o ≡ wide w → option_and_then (narrow half) o ≡ option_and_then (narrow half) w
narrowed half h o None is = ap (λ x. option_and_then (narrow half) x) is
narrowed half h o (Some n) is = ap (λ x. option_and_then (narrow half) x) is ∙ by_width (in_width 9223372036854775808 n) refl
  where
    by_width : (b : Bool) → in_width 9223372036854775808 n ≡ b → option_and_then (narrow half) (cond b (Some n) None) ≡ narrow half n
    by_width true e = refl
    by_width false e = sym (ap (λ b. cond b (Some (Whole n)) None) (in_less half h n e))

-- 64 bits hold the whole numbers of each type
pub half_small : (s : Scalar) → half_of s ≤ 9223372036854775808
half_small Byte = omega arith
half_small Short = omega arith
half_small Int = omega arith
half_small Long = omega arith
half_small TextType = omega arith
half_small FlagType = omega arith
half_small (LiteralType e) = omega arith

-- the literals of an enum, by the table
pub literals_is : (enums : List Enum) (i : ℕ) (o : Option Enum) → o ≡ slice_get enums i → option_map_or (λ (x : Enum). x.literals) o [] ≡ literals_at enums i
literals_is enums i o is = ap (λ x. option_map_or (λ (y : Enum). y.literals) x []) is

pub short_at : (enums : List Enum) (i : ℕ) (x : Enum) → AreShort enums → Some x ≡ slice_get enums i → length x.literals < 2 ^ 32
short_at [] i x short is = cc
short_at (y ∷ ys) zero x short is = subst (λ (z : Enum). length z.literals < 2 ^ 32) (same_some is) short.0
  where
    same_some : Some x ≡ Some y → y ≡ x
    same_some h = cc
short_at (y ∷ ys) (suc i) x short is = short_at ys i x short.1 is

pub short_in : (enums : List Enum) (i : ℕ) (d : Enum) → AreShort enums → i < length enums → length (get_or enums i d).literals < 2 ^ 32
short_in [] i d short h = absurd (omega arith)
short_in (y ∷ ys) zero d short h = short.0
short_in (y ∷ ys) (suc i) d short h = short_in ys i d short.1 (omega arith)
