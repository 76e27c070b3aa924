-- The lines of the generated script are short, and begin with a letter.
use Rattle.std.proofs.Common.{◌≡◌, ℕ, zero, suc, ◌%◌, ◌<◌, ◌≤◌, ◌^◌, List, [], ◌∷◌, ◌++◌, map, length, true, refl, ap, arith, length-append, nat_eq}
use Rattle.std.proofs.Common.{◌-◌, ◌||◌, Bool, false}
use Rattle.std.specs.Prelude.{codes, All, Some, ◌==◌, if◌then◌else◌}
use Rattle.std.specs.Fmt.{decimal}
use Rattle.std.specs.List.{list_all}
use Rattle.std.proofs.lemmas.Bool.{ltb-true}
use Rattle.std.proofs.lemmas.Bool.Decides.{nat_tests}
use Rattle.std.proofs.lemmas.Fmt.{length-decimal-le}
use Rattle.std.proofs.lemmas.List.Elements.{All-append, All-cons, All-map, All-nil}
use Rattle.host_port.specs.Cut.{Item}
use Rattle.script_items.proofs.Graphic.{is_graphic, joins, graphic_number}
use Rattle.plain_repository.specs.Lines.{is_skipped}
use Rattle.script_items.specs.Items.{IsAnswered}
use Rattle.script_items.specs.Library.{library}
use Rattle.script_items.specs.Generator.{without_block, opening, workspace_in, pages_in, create_text, title_text, pages_text, edits, exchange, round}
use Rattle.script_items.specs.Generator.{rounds, generated}

-- the letters that the words of commands with a block begin with: of `evolve`, `init` and `import`, and `load`
abbrev pub begins_block : ℕ → Bool
begins_block first = nat_eq first 101 || nat_eq first 105 || nat_eq first 108

-- a line that begins with a letter, and is short
pub record IsPlain (line : List ℕ) : Type 0 where
  pub first : ℕ
  pub rest : List ℕ
  pub line_is : line ≡ first ∷ rest
  pub letter : 97 ≤ first
  pub low : first ≤ 122
  pub other : begins_block first ≡ false
  pub short : length rest ≤ 200
  pub graphic : list_all is_graphic rest ≡ true

short_number : (n : ℕ) → n < 2 ^ 64 → length (decimal n) ≤ 20
short_number n small = length-decimal-le 20 n (omega arith) (omega arith) small

create_plain : (ws k : ℕ) → ws < 2 ^ 64 → k < 2 ^ 64 → IsPlain (create_text ws k)
create_plain ws k small fits = record {
  first = 99;
  rest = codes "reate " ++ (decimal ws ++ (codes " Book lib books b" ++ decimal k));
  line_is = refl;
  letter = omega arith;
  low = omega arith;
  other = refl;
  short = simp length-append (omega (arith, short_number ws small, short_number k fits));
  graphic = joins (codes "reate ") (decimal ws ++ (codes " Book lib books b" ++ decimal k)) refl
      (joins (decimal ws) (codes " Book lib books b" ++ decimal k) (graphic_number ws small)
      (joins (codes " Book lib books b") (decimal k) refl (graphic_number k fits)));
}

title_plain : (ws k : ℕ) → ws < 2 ^ 64 → k < 2 ^ 64 → IsPlain (title_text ws k)
title_plain ws k small fits = record {
  first = 115;
  rest = codes "et " ++ (decimal ws ++ (codes " b" ++ (decimal k ++ (codes " title " ++ (34 ∷ 116 ∷ decimal k ++ 34 ∷ [])))));
  line_is = refl;
  letter = omega arith;
  low = omega arith;
  other = refl;
  short = simp length-append (omega (arith, short_number ws small, short_number k fits));
  graphic = joins (codes "et ") (decimal ws ++ (codes " b" ++ (decimal k ++ (codes " title " ++ (34 ∷ 116 ∷ decimal k ++ 34 ∷ []))))) refl
      (joins (decimal ws) (codes " b" ++ (decimal k ++ (codes " title " ++ (34 ∷ 116 ∷ decimal k ++ 34 ∷ [])))) (graphic_number ws small)
      (joins (codes " b") (decimal k ++ (codes " title " ++ (34 ∷ 116 ∷ decimal k ++ 34 ∷ []))) refl
      (joins (decimal k) (codes " title " ++ (34 ∷ 116 ∷ decimal k ++ 34 ∷ [])) (graphic_number k fits)
      (joins (codes " title ") (34 ∷ 116 ∷ decimal k ++ 34 ∷ []) refl (joins (decimal k) (34 ∷ []) (graphic_number k fits) refl)))));
}

pages_plain : (ws k pages : ℕ) → ws < 2 ^ 64 → k < 2 ^ 64 → pages < 2 ^ 64 → IsPlain (pages_text ws k pages)
pages_plain ws k pages small fits few = record {
  first = 115;
  rest = codes "et " ++ (decimal ws ++ (codes " b" ++ (decimal k ++ (codes " pages " ++ decimal pages))));
  line_is = refl;
  letter = omega arith;
  low = omega arith;
  other = refl;
  short = simp length-append (omega (arith, short_number ws small, short_number k fits, short_number pages few));
  graphic = joins (codes "et ") (decimal ws ++ (codes " b" ++ (decimal k ++ (codes " pages " ++ decimal pages)))) refl
      (joins (decimal ws) (codes " b" ++ (decimal k ++ (codes " pages " ++ decimal pages))) (graphic_number ws small)
      (joins (codes " b") (decimal k ++ (codes " pages " ++ decimal pages)) refl
      (joins (decimal k) (codes " pages " ++ decimal pages) (graphic_number k fits)
      (joins (codes " pages ") (decimal pages) refl (graphic_number pages few)))));
}

-- a line of letters and a number
numbered_plain : (first : ℕ) (word : List ℕ) (k : ℕ) → 97 ≤ first → first ≤ 122 → begins_block first ≡ false → length word ≤ 20
    → list_all is_graphic word ≡ true → k < 2 ^ 64 → IsPlain (first ∷ (word ++ decimal k))
numbered_plain first word k letter low other short graphic fits = record {
  first = first;
  rest = word ++ decimal k;
  line_is = refl;
  letter = letter;
  low = low;
  other = other;
  short = simp length-append (omega (arith, short_number k fits));
  graphic = joins word (decimal k) graphic (graphic_number k fits);
}

pub letters_plain : (first : ℕ) (word : List ℕ) → 97 ≤ first → first ≤ 122 → begins_block first ≡ false → length word ≤ 200
    → list_all is_graphic word ≡ true → IsPlain (first ∷ word)
letters_plain first word letter low other short graphic =
    record { first = first; rest = word; line_is = refl; letter = letter; low = low; other = other; short = short; graphic = graphic }

workspace_small : (seed k : ℕ) → workspace_in seed k < 2 ^ 64
workspace_small seed k = omega arith

pages_small : (seed k : ℕ) → pages_in seed k < 2 ^ 64
pages_small seed k = omega arith

three_all : (a b c : List ℕ) → IsPlain a → IsPlain b → IsPlain c → All IsPlain (a ∷ b ∷ c ∷ [])
three_all a b c p q r = All-cons IsPlain a (b ∷ c ∷ []) p (All-cons IsPlain b (c ∷ []) q (All-cons IsPlain c [] r (All-nil IsPlain)))

edits_plain : (seed k : ℕ) → k < 2 ^ 64 → All IsPlain (edits seed k)
edits_plain seed k fits =
    let ws = workspace_small seed k in
    three_all (create_text (workspace_in seed k) k) (title_text (workspace_in seed k) k) (pages_text (workspace_in seed k) k (pages_in seed k))
    (create_plain (workspace_in seed k) k ws fits) (title_plain (workspace_in seed k) k ws fits)
    (pages_plain (workspace_in seed k) k (pages_in seed k) ws fits (pages_small seed k))

exchange_plain : (k : ℕ) → k < 2 ^ 64 → All IsPlain (exchange k)
exchange_plain k fits =
    let one = numbered_plain 99 (codes "ommit 1 round ") k (omega arith) (omega arith) refl (omega arith) refl fits in
    let two = numbered_plain 99 (codes "ommit 2 round ") k (omega arith) (omega arith) refl (omega arith) refl fits in
    All-cons IsPlain (codes "update 1") ((codes "commit 1 round " ++ decimal k) ∷ codes "update 2" ∷ (codes "commit 2 round " ++ decimal k) ∷ [])
    (letters_plain 117 (codes "pdate 1") (omega arith) (omega arith) refl (omega arith) refl)
    (three_all (codes "commit 1 round " ++ decimal k) (codes "update 2") (codes "commit 2 round " ++ decimal k) one
    (letters_plain 117 (codes "pdate 2") (omega arith) (omega arith) refl (omega arith) refl) two)

round_plain : (seed k : ℕ) → k < 2 ^ 64 → All IsPlain (round seed k)
round_plain seed k fits = All-append IsPlain (edits seed k) _ (edits_plain seed k fits) (last (nat_eq (k % 4) 0))
  where
    last : (b : Bool) → All IsPlain (if b then exchange k else [])
    last true = exchange_plain k fits
    last false = All-nil IsPlain

pub rounds_plain : (seed count : ℕ) → count < 2 ^ 64 → All IsPlain (rounds seed count)
rounds_plain seed zero fits = All-nil IsPlain
rounds_plain seed (suc n) fits = All-append IsPlain (rounds seed n) (round seed (suc n)) (rounds_plain seed n (omega arith)) (round_plain seed (suc n) fits)

-- the metamodel is short enough to be read
library_short : length library < 2 ^ 32 - 1
library_short = ltb-true (length library) (2 ^ 32 - 1) refl

answered_line : (line : List ℕ) → IsPlain line → IsAnswered (without_block line)
unfolding is_skipped
answered_line line p =
    let first = p.letter in
    let long : length line ≤ 201 = omega (arith, ap length p.line_is, p.short) in
    let other : (p.first == 35) ≡ false = grind (arith, nat_tests, first) in
    ((omega arith, tt), rw p.line_is other)

more : (line : List ℕ) (items : List Item) → IsPlain line → All IsAnswered items → All IsAnswered (without_block line ∷ items)
more line items p all = All-cons IsAnswered (without_block line) items (answered_line line p) all

start_answered : IsAnswered (record { line = codes "init"; block = Some library })
unfolding is_skipped
start_answered = ((omega arith, library_short), refl)

opening_answered : All IsAnswered opening
opening_answered =
    let one = letters_plain 99 (codes "heckout trunk") (omega arith) (omega arith) refl (omega arith) refl in
    let two = letters_plain 99 (codes "reate 1 Library / lib") (omega arith) (omega arith) refl (omega arith) refl in
    let three = letters_plain 99 (codes "ommit 1 start") (omega arith) (omega arith) refl (omega arith) refl in
    let four = letters_plain 117 (codes "pdate 2") (omega arith) (omega arith) refl (omega arith) refl in
    All-cons IsAnswered (record { line = codes "init"; block = Some library })
    (without_block (codes "checkout trunk") ∷ without_block (codes "checkout trunk") ∷ without_block (codes "create 1 Library / lib") ∷ without_block
    (codes "commit 1 start") ∷ without_block (codes "update 2") ∷ []) start_answered
    (more (codes "checkout trunk")
    (without_block (codes "checkout trunk") ∷ without_block (codes "create 1 Library / lib") ∷ without_block
    (codes "commit 1 start") ∷ without_block (codes "update 2") ∷ []) one
    (more (codes "checkout trunk")
    (without_block (codes "create 1 Library / lib") ∷ without_block (codes "commit 1 start") ∷ without_block (codes "update 2") ∷ []) one
    (more (codes "create 1 Library / lib") (without_block (codes "commit 1 start") ∷ without_block (codes "update 2") ∷ []) two
    (more (codes "commit 1 start") (without_block (codes "update 2") ∷ []) three
    (more (codes "update 2") [] four (All-nil IsAnswered))))))

-- each item of the script gets a reply
pub all_answered : (seed count : ℕ) → count < 2 ^ 64 → All IsAnswered (generated seed count)
all_answered seed count fits = All-append IsAnswered opening (map without_block (rounds seed count)) opening_answered
    (All-map IsAnswered without_block (rounds seed count) (λ k d low. answered_line _ (rounds_plain seed count fits k d low)))
