use Rattle.std.proofs.Common.{◌≡◌, ◌≤◌, ◌+◌, ℕ, List, true, false, nat_lt, length, take, drop, Ok, Err, refl, arith}
use Rattle.std.proofs.lemmas.Grind.{common_steps}
use Rattle.std.specs.Int.{w32, from_be_bytes}
use Rattle.byte_form.specs.declared.reader.ReadFault.TheVariants.{BadText}
use Rattle.byte_form.specs.Fields.{text_at, number_at, past}
use Rattle.std.specs.Str.{IsUtf8, is_utf8}
use Rattle.std.proofs.lemmas.Bool.{false_from_ne_true}
use Rattle.std.proofs.lemmas.Str.{is_utf8-from_IsUtf8, IsUtf8-from_is_utf8}

pub is_utf8_not : (bs : List ℕ) → (IsUtf8 bs → ⊥) → is_utf8 bs ≡ false
is_utf8_not bs none = false_from_ne_true (is_utf8 bs) (λ e. none (IsUtf8-from_is_utf8 bs e))

pub ruleset utf8_tests = (is_utf8-from_IsUtf8, is_utf8_not)

-- what a text field is, by its parts
pub text_is : (bytes : List ℕ) (offset n : ℕ) → 4 ≤ length bytes → from_be_bytes w32 (take 4 bytes) ≡ n → n ≤ length (drop 4 bytes)
    → is_utf8 (take n (drop 4 bytes)) ≡ true
    → text_at (record { bytes = bytes; offset = offset }) ≡ Ok (take n (drop 4 bytes), past (record { bytes = bytes; offset = offset }) (n + 4))
unfolding text_at number_at
text_is bytes offset n long is fits utf8 =
    let l : nat_lt (length bytes) 4 ≡ false = grind arith in
    let f : nat_lt (length (drop 4 bytes)) n ≡ false = grind arith in
    let d : drop n (drop 4 bytes) ≡ drop (n + 4) bytes = grind (arith, common_steps) in
    let p : (offset + 4) + n ≡ offset + (n + 4) = omega arith in
    rw (l, is, f, utf8, d, p) refl

pub text_is_not : (bytes : List ℕ) (offset n : ℕ) → 4 ≤ length bytes → from_be_bytes w32 (take 4 bytes) ≡ n → n ≤ length (drop 4 bytes)
    → is_utf8 (take n (drop 4 bytes)) ≡ false
    → text_at (record { bytes = bytes; offset = offset }) ≡ Err (BadText offset)
unfolding text_at number_at
text_is_not bytes offset n long is fits utf8 =
    let l : nat_lt (length bytes) 4 ≡ false = grind arith in
    let f : nat_lt (length (drop 4 bytes)) n ≡ false = grind arith in
    rw (l, is, f, utf8) refl
