-- The bytes of the generated script are a script of its items.
use Rattle.std.proofs.Common.{◌≡◌, ℕ, zero, suc, ◌+◌, ◌*◌, ◌-◌, ◌%◌, nat_eq, ◌<◌, ◌≤◌, ◌^◌, List, [], ◌∷◌, ◌++◌, map, length, take, get_or, Bool}
use Rattle.std.proofs.Common.{true, false, ◌&&◌, ◌||◌, not, nat_le, nat_lt, None, Some, Ok, refl, sym, ap, subst, ◌∙◌, arith, length-append}
use Rattle.std.proofs.Common.{append_assoc, eq-eqb}
use Rattle.std.specs.Prelude.{codes, slice_index, ◌==◌, All, if◌then◌else◌}
use Rattle.std.specs.Cmp.Lexicographic.{pointwise}
use Rattle.std.specs.List.{list_all, slice_split, after_first, position_or_len}
use Rattle.std.specs.Str.Lossy.{utf8_valid_len}
use Rattle.std.proofs.lemmas.Bool.{leb-true}
use Rattle.std.proofs.lemmas.List.Elements.{All-cons}
use Rattle.std.proofs.lemmas.Bool.Decides.{nat_tests}
use Rattle.std.proofs.Math.Seq.{get_or-append_seam}
use Rattle.std.proofs.lemmas.Str.{utf8_valid_len-IsUtf8, IsUtf8-from_ascii}
use Rattle.std.proofs.lemmas.List.{append-nil, drop_all, take_at, get_or_append_left}
use Rattle.host_port.specs.Cut.{Script, is_lf, raw_line, is_ended, next_line_of, line_of, line_bytes, line_text, text_at, script_from, with_item}
use Rattle.host_port.specs.Cut.{cut_block, after_block, ends_block, block_line, is_dot}
use Rattle.host_port.specs.Limits.{line_limit, block_limit, input_limit}
use Rattle.host_port.proofs.ScriptCuts.{first_at, raw_is, ended_is, after_is, line_within}
use Rattle.host_port.proofs.ScriptItems.{script_line, cut_nothing, block_goes, block_ends}
use Rattle.host_port.proofs.ScriptHeads.{script_block}
use Rattle.script_lang.specs.Words.{is_space}
use Rattle.finite_maps.specs.Equal.{text_eq}
use Rattle.plain_repository.specs.Lines.{takes_block}
use Rattle.script_items.specs.Items.{script}
use Rattle.script_items.specs.Library.{library}
use Rattle.script_items.specs.Generator.{without_block, edits, exchange, round, rounds, generated, script_bytes}
use Rattle.script_items.proofs.Digits.{both}
use Rattle.script_items.proofs.Graphic.{is_graphic, graphic_at, ascii}
use Rattle.script_items.proofs.Plain.{IsPlain, begins_block, letters_plain, rounds_plain}
use Rattle.script_items.specs.Words.{most_rounds}

-- a line of such bytes, a line feed, and more
record IsCut (l r : List ℕ) : Type 0 where
  pub raw : raw_line ((l ++ 10 ∷ []) ++ r) ≡ l
  pub ended : is_ended ((l ++ 10 ∷ []) ++ r) ≡ true
  pub after : after_first is_lf ((l ++ 10 ∷ []) ++ r) ≡ r

no_feed : (l : List ℕ) (k : ℕ) → list_all is_graphic l ≡ true → k < length l → get_or (l ++ 10 ∷ []) k 0 ≡ 10 → ⊥
no_feed l k all low is = let g = graphic_at l k all low in absurd (omega (arith, get_or_append_left l (10 ∷ []) 0 k low))

cut_line : (l r : List ℕ) → list_all is_graphic l ≡ true → IsCut l r
cut_line l r all =
    let size : length (l ++ 10 ∷ []) ≡ length l + 1 = length-append l (10 ∷ []) in
    let at : position_or_len is_lf ((l ++ 10 ∷ []) ++ r) ≡ length l = first_at (length l) true (l ++ 10 ∷ []) r
    (λ t. (omega arith, get_or-append_seam l 10 [] 0, λ k low is. no_feed l k all low is)) (λ f. absurd cc) (λ f. absurd cc) in
    record {
      raw = raw_is (length l) (l ++ 10 ∷ []) r (omega arith) at ∙ take_at l (10 ∷ []) (length l) refl;
      ended = ended_is (length l) true (l ++ 10 ∷ []) r (omega arith) (λ t. omega arith) (λ f. absurd cc) (λ f. absurd cc) at;
      after = after_is (length l) true (l ++ 10 ∷ []) r (λ t. omega arith) (λ f. absurd cc) (λ f. absurd cc) at
          ∙ ap (λ (x : List ℕ). x ++ r) (drop_all (length l + 1) (l ++ 10 ∷ []) (omega arith));
    }

same_if : {A : Type 0} (b : Bool) (x y : A) → b ≡ false → (if b then x else y) ≡ y
same_if b x y is = rw is refl

no_return : (l : List ℕ) → list_all is_graphic l ≡ true → (slice_index l (length l - 1) == 13) ≡ false
no_return [] all = refl
no_return (b ∷ l) all = let g = graphic_at (b ∷ l) (length (b ∷ l) - 1) all (omega arith) in grind (arith, nat_tests, g)

whole_text : (offset : ℕ) (l : List ℕ) → list_all is_graphic l ≡ true → text_at offset l ≡ Ok l
whole_text offset l all =
    let valid : utf8_valid_len l ≡ length l = utf8_valid_len-IsUtf8 l (IsUtf8-from_ascii l (ascii l all)) in
    let test : (utf8_valid_len l == length l) ≡ true = eq-eqb (utf8_valid_len l) (length l) valid in
    rw test refl

line_read : (offset : ℕ) (l r : List ℕ) → list_all is_graphic l ≡ true → length l ≤ line_limit → offset + length l < input_limit
    → next_line_of offset ((l ++ 10 ∷ []) ++ r) ≡ Ok (Some l)
line_read offset l r all short within =
    let cut = cut_line l r all in
    ap (λ (x : List ℕ). line_of offset x (is_ended ((l ++ 10 ∷ []) ++ r))) cut.raw ∙ ap (λ (b : Bool). line_of offset l b) cut.ended
    ∙ line_within offset l true short within
    ∙ ap (λ (x : List ℕ). line_text (text_at offset x)) (same_if (slice_index l (length l - 1) == 13) (take (length l - 1) l) l (no_return l all))
    ∙ ap line_text (whole_text offset l all)

-- a line that takes no block
plain_item : (takes : List ℕ → Bool) (offset : ℕ) (l r : List ℕ) → list_all is_graphic l ≡ true → length l ≤ line_limit
    → offset + length l < input_limit → takes l ≡ false
    → script_from takes offset ((l ++ 10 ∷ []) ++ r) ≡ with_item l None (script_from takes (offset + length l + 1) r)
plain_item takes offset l r all short within without_block =
    let cut = cut_line l r all in
    let size : length (l ++ 10 ∷ []) ≡ length l + 1 = length-append l (10 ∷ []) in
    let total = length-append (l ++ 10 ∷ []) r in
    let behind = ap length cut.after in
    script_line takes offset (offset + length l + 1) ((l ++ 10 ∷ []) ++ r) l (line_read offset l r all short within) without_block (omega arith)
    ∙ ap (λ (u : List ℕ). with_item l None (script_from takes (offset + length l + 1) u)) cut.after

-- lines, each with its line feed
abbrev pub joined : List (List ℕ) → List ℕ
joined [] = []
joined (l ∷ ls) = (l ++ 10 ∷ []) ++ joined ls

-- a line of a block
abbrev pub is_block_line : List ℕ → Bool
is_block_line l = list_all is_graphic l && not (is_dot l)

not_true : (b : Bool) → not b ≡ true → b ≡ false
not_true true is = cc
not_true false is = refl

bytes_same : (l : List ℕ) → list_all is_graphic l ≡ true → line_bytes true l ≡ l
bytes_same l all = same_if (slice_index l (length l - 1) == 13) (take (length l - 1) l) l (no_return l all)

and_false : (a b : Bool) → a ≡ false → (a && b) ≡ false
and_false a b is = rw is refl

goes_on : (offset : ℕ) (l : List ℕ) → list_all is_graphic l ≡ true → is_dot l ≡ false → ends_block offset true l ≡ false
goes_on offset l all other = and_false (is_dot (line_bytes true l)) (nat_lt (offset + length l) input_limit) (ap is_dot (bytes_same l all) ∙ other)

one_more : (start offset : ℕ) (text l : List ℕ) → list_all is_graphic l ≡ true → start ≤ offset → offset + length l + 1 ≤ start + block_limit
    → offset + length l < input_limit
    → block_line start offset true (Ok text) l ≡ Ok (Ok ((text ++ l) ++ 10 ∷ []))
one_more start offset text l all low short within =
    let few : nat_lt block_limit (offset + (length l + 1) - start) ≡ false = grind (arith, nat_tests) in
    let near : nat_le input_limit (offset + length l) ≡ false = grind (arith, nat_tests) in
    rw (few, near, bytes_same l all, whole_text offset l all) refl

block_lines : (takes : List ℕ → Bool) (line : List ℕ) (ls : List (List ℕ)) (start offset : ℕ) (text r : List ℕ) → list_all is_block_line ls ≡ true
    → start ≤ offset
    → offset + length (joined ls) + 2 ≤ start + block_limit → offset + length (joined ls) + 2 < input_limit
    → cut_block takes line start offset (Ok text) (slice_split is_lf (joined ls ++ ((46 ∷ 10 ∷ []) ++ r))) ≡ after_block line (Ok (text ++ joined ls))
    (script_from takes (offset + length (joined ls) + 2) r)
block_lines takes line [] start offset text r all low short within =
    let cut = cut_line (46 ∷ []) r refl in
    let near : nat_lt (offset + 1) input_limit ≡ true = grind (arith, nat_tests) in
    let dot : ends_block offset true (46 ∷ []) ≡ true = near in
    let total = length-append (46 ∷ 10 ∷ []) r in
    let behind = ap length cut.after in
    let here : ends_block offset (is_ended ((46 ∷ 10 ∷ []) ++ r)) (raw_line ((46 ∷ 10 ∷ []) ++ r)) ≡ true =
    ap (λ (b : Bool). ends_block offset b (raw_line ((46 ∷ 10 ∷ []) ++ r))) cut.ended ∙ ap (λ (x : List ℕ). ends_block offset true x) cut.raw ∙ dot in
    block_ends takes line start offset (offset + 0 + 2) (Ok text) ((46 ∷ 10 ∷ []) ++ r) here (omega (arith, ap length cut.raw)) (omega arith)
    ∙ ap (λ (u : List ℕ). after_block line (Ok text) (script_from takes (offset + 0 + 2) u)) cut.after
    ∙ ap (λ (t : List ℕ). after_block line (Ok t) (script_from takes (offset + 0 + 2) r)) (sym (append-nil text))
block_lines takes line (l ∷ ls) start offset text r all low short within =
    let parts = both (is_block_line l) (list_all is_block_line ls) all in
    let kinds = both (list_all is_graphic l) (not (is_dot l)) parts.0 in
    let cut = cut_line l (joined ls ++ ((46 ∷ 10 ∷ []) ++ r)) kinds.0 in
    let size : length (l ++ 10 ∷ []) ≡ length l + 1 = length-append l (10 ∷ []) in
    let sum = length-append (l ++ 10 ∷ []) (joined ls) in
    let total = length-append (l ++ 10 ∷ []) (joined ls ++ ((46 ∷ 10 ∷ []) ++ r)) in
    let behind = ap length cut.after in
    let same : (offset + length l + 1) + length (joined ls) + 2 ≡ offset + length ((l ++ 10 ∷ []) ++ joined ls) + 2 = omega arith in
    ap (λ (u : List ℕ). cut_block takes line start offset (Ok text) (slice_split is_lf u)) (append_assoc (l ++ 10 ∷ []) (joined ls) ((46 ∷ 10 ∷ []) ++ r))
    ∙ block_goes takes line start offset (offset + length l + 1) (Ok text) (Ok ((text ++ l) ++ 10 ∷ []))
    ((l ++ 10 ∷ []) ++ (joined ls ++ ((46 ∷ 10 ∷ []) ++ r))) cut.ended
    (ap (λ (x : List ℕ). ends_block offset true x) cut.raw ∙ goes_on offset l kinds.0 (not_true (is_dot l) kinds.1))
    (ap (λ (x : List ℕ). block_line start offset true (Ok text) x) cut.raw ∙ one_more start offset text l kinds.0 low (omega arith) (omega arith)) (omega arith)
    ∙ ap (λ (u : List ℕ). cut_block takes line start (offset + length l + 1) (Ok ((text ++ l) ++ 10 ∷ [])) (slice_split is_lf u)) cut.after
    ∙ block_lines takes line ls start (offset + length l + 1) ((text ++ l) ++ 10 ∷ []) r parts.1 (omega arith) (omega arith) (omega arith)
    ∙ ap (λ (n : ℕ). after_block line (Ok (((text ++ l) ++ 10 ∷ []) ++ joined ls)) (script_from takes n r)) same
    ∙ ap (λ (t : List ℕ). after_block line (Ok t) (script_from takes (offset + length ((l ++ 10 ∷ []) ++ joined ls) + 2) r)) (simp append_assoc)

-- a line that takes a block, and its block
block_item : (takes : List ℕ → Bool) (offset : ℕ) (l : List ℕ) (ls : List (List ℕ)) (r : List ℕ) → list_all is_graphic l ≡ true → length l ≤ line_limit
    → takes l ≡ true → list_all is_block_line ls ≡ true
    → length (joined ls) + 2 ≤ block_limit → offset + length l + 1 + length (joined ls) + 2 < input_limit
    → script_from takes offset ((l ++ 10 ∷ []) ++ ((joined ls ++ 46 ∷ 10 ∷ []) ++ r)) ≡ with_item l (Some (joined ls))
    (script_from takes (offset + length l + 1 + length (joined ls) + 2) r)
block_item takes offset l ls r all short blocked lines few within =
    let cut = cut_line l ((joined ls ++ 46 ∷ 10 ∷ []) ++ r) all in
    let size : length (l ++ 10 ∷ []) ≡ length l + 1 = length-append l (10 ∷ []) in
    let total = length-append (l ++ 10 ∷ []) ((joined ls ++ 46 ∷ 10 ∷ []) ++ r) in
    let behind = ap length cut.after in
    script_block takes offset (offset + length l + 1) ((l ++ 10 ∷ []) ++ ((joined ls ++ 46 ∷ 10 ∷ []) ++ r)) l
    (line_read offset l ((joined ls ++ 46 ∷ 10 ∷ []) ++ r) all short (omega arith)) blocked (omega arith)
    ∙ ap (λ (u : List ℕ). cut_block takes l (offset + length l + 1) (offset + length l + 1) (Ok []) (slice_split is_lf u))
    (cut.after ∙ append_assoc (joined ls) (46 ∷ 10 ∷ []) r)
    ∙ block_lines takes l ls (offset + length l + 1) (offset + length l + 1) [] r lines (omega arith) (omega arith) (omega arith)

whole_line : (l : List ℕ) → IsPlain l → list_all is_graphic l ≡ true
whole_line l p = subst (λ (x : List ℕ). list_all is_graphic x ≡ true) (sym p.line_is) (first_graphic p.first p.rest p.letter p.low p.graphic)
  where
    first_graphic : (first : ℕ) (rest : List ℕ) → 97 ≤ first → first ≤ 122 → list_all is_graphic rest ≡ true → list_all is_graphic (first ∷ rest) ≡ true
    first_graphic first rest high low all = let here : is_graphic first ≡ true = grind (arith, nat_tests, high, low) in rw here all

-- lines that take no block
plain_lines : (takes : List ℕ → Bool) → ((l : List ℕ) → IsPlain l → takes l ≡ false) → (lines : List (List ℕ)) (offset : ℕ) → All IsPlain lines
    → offset + 202 * length lines < input_limit
    → script_from takes offset (script_bytes (map without_block lines)) ≡ record { items = map without_block lines; fault = None }
plain_lines takes none [] offset all near = cut_nothing takes offset (omega arith)
plain_lines takes none (l ∷ ls) offset all near =
    let p : IsPlain l = all 0 l (omega arith) in
    let long : length l ≤ 201 = omega (arith, ap length p.line_is, p.short) in
    plain_item takes offset l (script_bytes (map without_block ls)) (whole_line l p) (omega arith) (omega arith) (none l p)
    ∙ ap (λ (s : Script). with_item l None s) (plain_lines takes none ls (offset + length l + 1) (λ k d low. all (suc k) d (omega arith)) (omega arith))

library_is : joined (take 19 (slice_split is_lf library)) ≡ library
library_is = refl

library_few : length library ≤ most_rounds
library_few = leb-true (length library) most_rounds refl

library_shown : list_all is_block_line (take 19 (slice_split is_lf library)) ≡ true
library_shown = refl

size_of_round : (seed k : ℕ) → length (round seed k) ≤ 7
size_of_round seed k = by (nat_eq (k % 4) 0)
  where
    by : (b : Bool) → length (edits seed k ++ (if b then exchange k else [])) ≤ 7
    by true = omega (arith, length-append (edits seed k) (exchange k))
    by false = omega (arith, length-append (edits seed k) [])

size_of_rounds : (seed n : ℕ) → length (rounds seed n) ≤ 7 * n
size_of_rounds seed zero = omega arith
size_of_rounds seed (suc n) = let so_far = size_of_rounds seed n
    in omega (arith, length-append (rounds seed n) (round seed (suc n)), size_of_round seed (suc n))

-- the lines after the metamodel
abbrev behind_it : ℕ → ℕ → List (List ℕ)
behind_it seed count = codes "checkout trunk" ∷ codes "checkout trunk" ∷ codes "create 1 Library / lib" ∷ codes "commit 1 start" ∷ codes
    "update 2" ∷ rounds seed count

all_behind : (seed count : ℕ) → count < 2 ^ 64 → All IsPlain (behind_it seed count)
all_behind seed count fits =
    let one = letters_plain 99 (codes "heckout trunk") (omega arith) (omega arith) refl (omega arith) refl in
    let two = letters_plain 99 (codes "reate 1 Library / lib") (omega arith) (omega arith) refl (omega arith) refl in
    let three = letters_plain 99 (codes "ommit 1 start") (omega arith) (omega arith) refl (omega arith) refl in
    let four = letters_plain 117 (codes "pdate 2") (omega arith) (omega arith) refl (omega arith) refl in
    All-cons IsPlain (codes "checkout trunk")
    (codes "checkout trunk" ∷ codes "create 1 Library / lib" ∷ codes "commit 1 start" ∷ codes "update 2" ∷ rounds seed count) one
    (All-cons IsPlain (codes "checkout trunk") (codes "create 1 Library / lib" ∷ codes "commit 1 start" ∷ codes "update 2" ∷ rounds seed count) one
    (All-cons IsPlain (codes "create 1 Library / lib") (codes "commit 1 start" ∷ codes "update 2" ∷ rounds seed count) two
    (All-cons IsPlain (codes "commit 1 start") (codes "update 2" ∷ rounds seed count) three
    (All-cons IsPlain (codes "update 2") (rounds seed count) four (rounds_plain seed count fits)))))

-- the bytes of the script are a script of its items, where the first line alone takes a block
script_is : (takes : List ℕ → Bool) → takes (codes "init") ≡ true → ((l : List ℕ) → IsPlain l → takes l ≡ false) → (seed count : ℕ) → count ≤ most_rounds
    → script_from takes 0 (script_bytes (generated seed count)) ≡ record { items = generated seed count; fault = None }
script_is takes blocked none seed count most =
    let size : length (joined (take 19 (slice_split is_lf library))) ≤ most_rounds = omega (arith, ap length library_is, library_few) in
    let many = size_of_rounds seed count in
    ap (λ (t : List ℕ). script_from takes 0
    ((codes "init" ++ 10 ∷ []) ++ ((t ++ 46 ∷ 10 ∷ []) ++ script_bytes (map without_block (behind_it seed count))))) (sym library_is)
    ∙ block_item takes 0 (codes "init") (take 19 (slice_split is_lf library)) (script_bytes (map without_block (behind_it seed count))) refl
    (omega arith) blocked library_shown (omega arith) (omega arith)
    ∙ ap (λ (s : Script). with_item (codes "init") (Some (joined (take 19 (slice_split is_lf library)))) s)
    (plain_lines takes none (behind_it seed count) (0 + length (codes "init") + 1 + length (joined (take 19 (slice_split is_lf library))) + 2)
    (all_behind seed count (omega arith)) (omega arith))
    ∙ ap (λ (t : List ℕ). with_item (codes "init") (Some t) (record { items = map without_block (behind_it seed count); fault = None })) library_is

head_none : (n letter first : ℕ) (rest word : List ℕ) → nat_eq first letter ≡ false → pointwise nat_eq (take n (first ∷ rest)) (letter ∷ word) ≡ false
head_none zero letter first rest word is = refl
head_none (suc n) letter first rest word is = rw is refl

either_none : (b c : Bool) → (b || c) ≡ false → (b ≡ false) × (c ≡ false)
either_none false c is = (refl, is)
either_none true c is = absurd cc

takes_none : (first : ℕ) (rest : List ℕ) → begins_block first ≡ false → takes_block (first ∷ rest) ≡ false
unfolding takes_block
takes_none first rest is =
    let n = position_or_len is_space (first ∷ rest) in
    let two = either_none (nat_eq first 101 || nat_eq first 105) (nat_eq first 108) is in
    let one = either_none (nat_eq first 101) (nat_eq first 105) two.0 in
    let init : text_eq (take n (first ∷ rest)) (codes "init") ≡ false = head_none n 105 first rest (codes "nit") one.1 in
    let evolve : text_eq (take n (first ∷ rest)) (codes "evolve") ≡ false = head_none n 101 first rest (codes "volve") one.0 in
    let import_word : text_eq (take n (first ∷ rest)) (codes "import") ≡ false = head_none n 105 first rest (codes "mport") one.1 in
    let load : text_eq (take n (first ∷ rest)) (codes "load") ≡ false = head_none n 108 first rest (codes "oad") two.1 in
    rw (init, evolve, import_word, load) refl

begins : takes_block (codes "init") ≡ true
unfolding takes_block
begins = refl

-- a line of the script but the first takes no block
no_block : (l : List ℕ) → IsPlain l → takes_block l ≡ false
no_block l p = subst (λ (x : List ℕ). takes_block x ≡ false) (sym p.line_is) (takes_none p.first p.rest p.other)

-- the bytes of the script are a script of its items
pub generated_script : (seed count : ℕ) → count ≤ most_rounds
    → script (script_bytes (generated seed count)) ≡ record { items = generated seed count; fault = None }
generated_script seed count most = script_is takes_block begins no_block seed count most
