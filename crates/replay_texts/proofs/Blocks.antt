-- A text that doesn't break a block is cut out of it as it is, and so are the digits of a package.
use Rattle.std.proofs.Common.{◌≡◌, ℕ, zero, suc, ◌+◌, ◌-◌, ◌<◌, ◌≤◌, ◌&&◌, ◌||◌, not, List, [], ◌∷◌, ◌++◌, length, Bool, true, false, nat_lt, nat_eq}
use Rattle.std.proofs.Common.{refl, sym, ap, subst, ◌∙◌, arith, length-append}
use Rattle.std.specs.List.{list_any, All, AllPass, slice_split, onto_first}
use Rattle.std.specs.Str.{IsAscii}
use Rattle.std.proofs.lemmas.Bool.{eqb-true}
use Rattle.std.proofs.lemmas.List.Elements.{All-nil, All-cons}
use Rattle.std.proofs.lemmas.List.Splits.{slice_split_at}
use Rattle.std.proofs.lemmas.Str.{IsUtf8-from_ascii}
use Rattle.hex.specs.Hex.{IsBytes, encode_lower, is_hex_digit}
use Rattle.hex.proofs.HexLemmas.{decode_of-encode_lower, decode_of-ok}
use Rattle.host_port.specs.Limits.{block_limit}
use Rattle.host_port.specs.Cut.{is_lf, is_dot}
use Rattle.host_port.specs.Reads.{with_feeds, IsPlain}
use Rattle.op_form.specs.Packages.{package_encoding}
use Rattle.printed_items.specs.Printed.{IsWholeBlock}
use Rattle.replay_texts.specs.Texts.{ends_with_return, ends_with_feed, is_lost, TextsStand, digits_line, PackagesStand}
use Rattle.replay_texts.proofs.Bytes.{package_bytes}
use Rattle.replay_texts.proofs.Lines.{neither, whole_from}

at_most : (n m : ℕ) → nat_lt m n ≡ false → n ≤ m
at_most n m e = grind (arith, e)

-- ---- the lines of a text that ends with a line feed
abbrev NoFeed : List ℕ → Type 0
NoFeed raw = All (λ b. is_lf b ≡ false) raw

-- the lines that a text is, where each has its line feed
record Lines (text : List ℕ) : Type 0 where
  raws : List (List ℕ)
  are : text ≡ with_feeds raws
  parts : slice_split is_lf text ≡ raws ++ ([] ∷ [])
  clear : All NoFeed raws

same_end : (b c : ℕ) (bytes : List ℕ) → ends_with_feed (b ∷ c ∷ bytes) ≡ ends_with_feed (c ∷ bytes)
same_end b c bytes = let at : length (b ∷ c ∷ bytes) - 1 ≡ suc (length (c ∷ bytes) - 1) = omega arith in rw at refl

-- a byte before such lines: a line feed, and one that is none
with_feed : (b : ℕ) (bytes : List ℕ) → is_lf b ≡ true → Lines bytes → Lines (b ∷ bytes)
with_feed b bytes is lines = record {
  raws = [] ∷ lines.raws;
  are = λ i. eqb-true b 10 is i ∷ lines.are i;
  parts = rw is (ap (λ (l : List (List ℕ)). [] ∷ l) lines.parts);
  clear = All-cons NoFeed [] lines.raws (All-nil (λ b. is_lf b ≡ false)) lines.clear;
}

with_byte : (b c : ℕ) (bytes : List ℕ) → is_lf b ≡ false → Lines (c ∷ bytes) → Lines (b ∷ c ∷ bytes)
with_byte b c bytes is lines = by lines.raws lines.are lines.parts lines.clear
  where
    by : (raws : List (List ℕ)) → c ∷ bytes ≡ with_feeds raws → slice_split is_lf (c ∷ bytes) ≡ raws ++ ([] ∷ []) → All NoFeed raws → Lines (b ∷ c ∷ bytes)
    by [] are parts clear = absurd cc
    by (raw ∷ raws) are parts clear = record {
      raws = (b ∷ raw) ∷ raws;
      are = ap (λ (l : List ℕ). b ∷ l) are;
      parts = rw is (ap (λ (l : List (List ℕ)). onto_first b l) parts);
      clear =
          All-cons NoFeed (b ∷ raw) raws (All-cons (λ b. is_lf b ≡ false) b raw is (clear 0 raw (omega arith)))
          (λ k d lt. clear (suc k) d (omega (arith, lt)));
    }

lines_of : (text : List ℕ) → (0 < length text → ends_with_feed text ≡ true) → Lines text
lines_of [] ends = record { raws = []; are = refl; parts = refl; clear = All-nil NoFeed }
lines_of (b ∷ []) ends = with_feed b [] (ends (omega arith)) (record { raws = []; are = refl; parts = refl; clear = All-nil NoFeed })
lines_of (b ∷ c ∷ bytes) ends = by (is_lf b) refl (lines_of (c ∷ bytes) (λ _. sym (same_end b c bytes) ∙ ends (omega arith)))
  where
    by : (t : Bool) → is_lf b ≡ t → Lines (c ∷ bytes) → Lines (b ∷ c ∷ bytes)
    by true is lines = with_feed b (c ∷ bytes) is lines
    by false is lines = with_byte b c bytes is lines

plain : (raws : List (List ℕ)) (more : List (List ℕ)) → All NoFeed raws → list_any is_lost (raws ++ more) ≡ false → All IsPlain raws
plain [] more clear kept = All-nil IsPlain
plain (raw ∷ raws) more clear kept =
    let k = neither (is_lost raw) (list_any is_lost (raws ++ more)) kept in
    let m = neither (is_dot raw) (ends_with_return raw) k.0 in
    All-cons IsPlain raw raws (record { no_feed = clear 0 raw (omega arith); whole = whole_from raw m.1; no_end = m.0 })
    (plain raws more (λ j d lt. clear (suc j) d (omega (arith, lt))) k.1)

ends_from : (n : ℕ) (b : Bool) → (not (nat_eq n 0) && not b) ≡ false → 0 < n → b ≡ true
ends_from n true e some = refl
ends_from n false e some = let other : nat_eq n 0 ≡ false = grind (arith, some) in absurd (no e other)
  where
    no : (not (nat_eq n 0) && true) ≡ false → nat_eq n 0 ≡ false → ⊥
    no e other = let f : (not false && true) ≡ false = subst (λ (x : Bool). (not x && true) ≡ false) other e in cc

pub texts_stand : TextsStand
texts_stand text utf8 whole =
    let k = neither (nat_lt block_limit (length text) || (not (nat_eq (length text) 0) && not (ends_with_feed text)))
    (list_any is_lost (slice_split is_lf text)) whole in
    let m = neither (nat_lt block_limit (length text)) (not (nat_eq (length text) 0) && not (ends_with_feed text)) k.0 in
    let lines = lines_of text (λ some. ends_from (length text) (ends_with_feed text) m.1 some) in
    record {
      utf8 = utf8;
      plain =
          record {
            raws = lines.raws;
            are = lines.are;
            plain = plain lines.raws ([] ∷ []) lines.clear
                (subst (λ (l : List (List ℕ)). list_any is_lost l ≡ false) lines.parts k.1);
          };
      short = at_most (length text) block_limit m.0;
    }

-- ---- digits
-- a hexadecimal digit is no line feed, no carriage return, and no full stop
record Digit (c : ℕ) : Type 0 where
  ascii : c < 128
  no_feed : is_lf c ≡ false
  no_return : nat_eq c 13 ≡ false
  no_stop : nat_eq c 46 ≡ false

digit : (c : ℕ) → is_hex_digit c ≡ true → Digit c
digit c is = record { ascii = grind (arith, is); no_feed = grind (arith, is); no_return = grind (arith, is); no_stop = grind (arith, is) }

abbrev Digits : List ℕ → Type 0
Digits cs = AllPass is_hex_digit cs

rest : (c : ℕ) (cs : List ℕ) → Digits (c ∷ cs) → Digits cs
rest c cs all k d lt = all (suc k) d (omega (arith, lt))

first : (c : ℕ) (cs : List ℕ) → Digits (c ∷ cs) → Digit c
first c cs all = digit c (all 0 c (omega arith))

digits_clear : (cs : List ℕ) → Digits cs → NoFeed cs
digits_clear [] all = All-nil (λ b. is_lf b ≡ false)
digits_clear (c ∷ cs) all = All-cons (λ b. is_lf b ≡ false) c cs (first c cs all).no_feed (digits_clear cs (rest c cs all))

digits_ascii : (cs : List ℕ) → Digits cs → IsAscii (cs ++ (10 ∷ []))
digits_ascii [] all zero = omega arith
digits_ascii [] all (suc i) = omega arith
digits_ascii (c ∷ cs) all zero = (first c cs all).ascii
digits_ascii (c ∷ cs) all (suc i) = digits_ascii cs (rest c cs all) i

digits_end : (cs : List ℕ) → Digits cs → ends_with_return cs ≡ false
digits_end [] all = refl
digits_end (c ∷ []) all = (first c [] all).no_return
digits_end (b ∷ c ∷ cs) all = let at : length (b ∷ c ∷ cs) - 1 ≡ suc (length (c ∷ cs) - 1) = omega arith in rw at (digits_end (c ∷ cs) (rest b (c ∷ cs) all))

digits_no_dot : (cs : List ℕ) → Digits cs → is_dot cs ≡ false
digits_no_dot [] all = refl
digits_no_dot (c ∷ []) all = (first c [] all).no_stop
digits_no_dot (b ∷ c ∷ cs) all = refl

digits_split : (bytes : List ℕ) → IsBytes bytes → slice_split is_lf (digits_line bytes) ≡ encode_lower bytes ∷ [] ∷ []
digits_split bytes are =
    slice_split_at is_lf (encode_lower bytes) 10 [] (digits_clear (encode_lower bytes)
    (decode_of-ok (encode_lower bytes) bytes (decode_of-encode_lower bytes are)).1) refl

digits_stand : (bytes : List ℕ) → IsBytes bytes → length bytes ≤ 4194303 → IsWholeBlock (digits_line bytes)
digits_stand bytes are few =
    let digits = encode_lower bytes in
    let ok = decode_of-ok digits bytes (decode_of-encode_lower bytes are) in
    let size : length (digits ++ (10 ∷ [])) ≡ length digits + 1 = length-append digits (10 ∷ []) in
    record {
      utf8 = IsUtf8-from_ascii (digits ++ (10 ∷ [])) (digits_ascii digits ok.1);
      plain = record {
        raws = digits ∷ [];
        are = refl;
        plain =
            All-cons IsPlain digits []
            (record { no_feed = digits_clear digits ok.1; whole = whole_from digits (digits_end digits ok.1); no_end = digits_no_dot digits ok.1 })
            (All-nil IsPlain);
      };
      short = omega (arith, size, ok.2, few);
    }

pub packages_stand : PackagesStand
packages_stand operations is =
    let bytes = package_bytes operations is in
    record { bytes = bytes; line = digits_split (package_encoding operations) bytes; block = λ few. digits_stand (package_encoding operations) bytes few }
