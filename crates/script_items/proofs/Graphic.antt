-- Bytes that are printed.
use Rattle.std.proofs.Common.{◌≡◌, ℕ, zero, suc, ◌<◌, ◌≤◌, ◌^◌, List, [], ◌∷◌, ◌++◌, length, get_or, Bool, true, ◌&&◌, nat_le, refl, ◌∙◌, arith}
use Rattle.std.specs.Prelude.{slice_index}
use Rattle.std.specs.Fmt.{decimal}
use Rattle.std.specs.List.{list_all}
use Rattle.std.specs.Char.{is_ascii_digit}
use Rattle.std.proofs.lemmas.Bool.Decides.{nat_tests}
use Rattle.std.proofs.lemmas.Fmt.{digits_decimal}
use Rattle.std.proofs.lemmas.List.Folds.{list_all-append}
use Rattle.script_items.proofs.Digits.{both, numerals}

-- a byte that is printed: neither a line feed nor a carriage return
abbrev pub is_graphic : ℕ → Bool
is_graphic b = nat_le 32 b && nat_le b 126

within : (b : ℕ) → is_graphic b ≡ true → (32 ≤ b) × (b ≤ 126)
within b is = let m = both (nat_le 32 b) (nat_le b 126) is in (grind (arith, nat_tests, m.0), grind (arith, nat_tests, m.1))

pub graphic_at : (l : List ℕ) (k : ℕ) → list_all is_graphic l ≡ true → k < length l → (32 ≤ get_or l k 0) × (get_or l k 0 ≤ 126)
graphic_at [] k all low = absurd (omega arith)
graphic_at (b ∷ l) zero all low = within b (both (is_graphic b) (list_all is_graphic l) all).0
graphic_at (b ∷ l) (suc k) all low = graphic_at l k (both (is_graphic b) (list_all is_graphic l) all).1 (omega arith)

pub ascii : (l : List ℕ) → list_all is_graphic l ≡ true → (k : ℕ) → slice_index l k < 128
ascii [] all k = omega arith
ascii (b ∷ l) all zero = let w = within b (both (is_graphic b) (list_all is_graphic l) all).0 in omega arith
ascii (b ∷ l) all (suc k) = ascii l (both (is_graphic b) (list_all is_graphic l) all).1 k

pub joins : (xs ys : List ℕ) → list_all is_graphic xs ≡ true → list_all is_graphic ys ≡ true → list_all is_graphic (xs ++ ys) ≡ true
joins xs ys one two = list_all-append is_graphic xs ys ∙ rw one two

graphic_digits : (ds : List ℕ) → list_all is_ascii_digit ds ≡ true → list_all is_graphic ds ≡ true
graphic_digits [] all = refl
graphic_digits (d ∷ ds) all =
    let parts = both (is_ascii_digit d) (list_all is_ascii_digit ds) all in
    let first : is_graphic d ≡ true = digit_is d parts.0 in
    rw first (graphic_digits ds parts.1)
  where
    digit_is : (d : ℕ) → is_ascii_digit d ≡ true → is_graphic d ≡ true
    digit_is d is = grind (arith, nat_tests, is)

pub graphic_number : (n : ℕ) → n < 2 ^ 64 → list_all is_graphic (decimal n) ≡ true
graphic_number n small = graphic_digits (decimal n) (digits_decimal numerals n small)
