-- The bytes that the block of a `load` spells, and what is answered to them.
use Rattle.std.proofs.Common.{◌≡◌, ◌≢◌, ℕ, nat_eq, suc, ◌-◌, ◌<◌, List, [], ◌∷◌, ◌++◌, length, take, take-suc, get_or, Bool, true, false, Option, None, Some}
use Rattle.std.proofs.Common.{Result, Ok, Err, refl, sym, ap, ◌∙◌, cond, arith}
use Rattle.std.specs.Prelude.{IfSome}
use Rattle.std.proofs.Math.Seq.{take-length}
use Rattle.std.proofs.lemmas.Option.{same_Some}
use Rattle.std.proofs.lemmas.List.Elements.{All-nil, All-cons}
use Rattle.std.specs.List.{All, AllPass, slice_split, onto_first, position_or_len, before_first, after_first}
use Rattle.std.proofs.lemmas.List.Splits.{slice_split_at, slice_split_first, slice_split_none}
use Rattle.host_port.specs.Cut.{is_lf}
use Rattle.host_port.proofs.ScriptItems.{all_before}
use Rattle.hex.specs.Hex.{decode_of, is_hex_digit}
use Rattle.hex.specs.declared.error.FromHexError.{FromHexError}
use Rattle.hex.proofs.HexLemmas.{decode_of-ok}
use Rattle.ecore_meta.specs.Meta.{Meta}
use Rattle.op_reading.specs.Events.{whole_of}
use Rattle.op_reading.specs.Packages.{package_at}
use Rattle.script_lang.specs.Command.{if_decoded}
use Rattle.plain_repository.specs.State.{State, Workspace, workspace_of}
use Rattle.plain_repository.specs.Applying.{bytes_of_lines, decide_load, load_read}

-- ---- the block
-- without a line feed it is one line, behind which nothing stands
pub no_line : (text : List ℕ) → position_or_len is_lf text ≡ length text → bytes_of_lines (slice_split is_lf text) ≡ None
no_line text none = ap bytes_of_lines (slice_split_none is_lf text (all_before text none))

-- a line and no more
one_line : (text line rest : List ℕ) → line ≡ before_first is_lf text → rest ≡ after_first is_lf text → position_or_len is_lf text < length text → rest ≡ []
    → if_decoded (decode_of line) ≡ bytes_of_lines (slice_split is_lf text)
one_line text line rest front back within none =
    ap (λ (l : List ℕ). if_decoded (decode_of l)) front
    ∙ ap (λ (r : List ℕ). bytes_of_lines (before_first is_lf text ∷ slice_split is_lf r)) (sym none ∙ back)
    ∙ ap bytes_of_lines (sym (slice_split_first is_lf text 0 within))

-- a text is cut into a part at least
some_part : (xs : List ℕ) → (part : List ℕ) × (parts : List (List ℕ)) × (slice_split is_lf xs ≡ part ∷ parts)
some_part [] = ([], [], refl)
some_part (x ∷ xs) = by (is_lf x) (slice_split is_lf xs)
  where
    by : (feed : Bool) (cut : List (List ℕ)) → (part : List ℕ) × (parts : List (List ℕ)) × (cond feed ([] ∷ cut) (onto_first x cut) ≡ part ∷ parts)
    by true cut = ([], cut, refl)
    by false [] = (x ∷ [], [], refl)
    by false (part ∷ parts) = (x ∷ part, parts, refl)

behind_it : (line : List ℕ) (x : ℕ) (xs : List ℕ) → bytes_of_lines (line ∷ slice_split is_lf (x ∷ xs)) ≡ None
behind_it line x xs =
    let some = some_part xs in
    ap (λ (cut : List (List ℕ)). bytes_of_lines (line ∷ cond (is_lf x) ([] ∷ cut) (onto_first x cut))) some.2 ∙ by (is_lf x) some.0 some.1
  where
    by : (feed : Bool) (part : List ℕ) (parts : List (List ℕ)) → bytes_of_lines (line ∷ cond feed ([] ∷ part ∷ parts) (onto_first x (part ∷ parts))) ≡ None
    by true part parts = refl
    by false part parts = refl

-- a line and more
more_lines : (text rest : List ℕ) → rest ≡ after_first is_lf text → position_or_len is_lf text < length text → rest ≢ []
    → bytes_of_lines (slice_split is_lf text) ≡ None
more_lines text rest back within some =
    ap bytes_of_lines (slice_split_first is_lf text 0 within ∙ ap (λ (r : List ℕ). before_first is_lf text ∷ slice_split is_lf r) (sym back)) ∙ by rest some
  where
    by : (r : List ℕ) → r ≢ [] → bytes_of_lines (before_first is_lf text ∷ slice_split is_lf r) ≡ None
    by [] some = absurd (some refl)
    by (x ∷ xs) some = behind_it (before_first is_lf text) x xs

pub line_and_rest : (text line rest : List ℕ) → line ≡ before_first is_lf text → rest ≡ after_first is_lf text → position_or_len is_lf text < length text
    → cond (nat_eq (length rest) 0) (if_decoded (decode_of line)) None ≡ bytes_of_lines (slice_split is_lf text)
line_and_rest text line [] front back within = one_line text line [] front back within refl
line_and_rest text line (x ∷ xs) front back within =
    let some : nat_eq (length (x ∷ xs)) 0 ≡ false = grind arith in
    ap (λ (b : Bool). cond b (if_decoded (decode_of line)) None) some ∙ sym (more_lines text (x ∷ xs) back within (λ e. cc))

-- ---- a line of digits
no_feed : (c : ℕ) → is_hex_digit c ≡ true → is_lf c ≡ false
no_feed c is = grind (arith, is)

digits_clear : (cs : List ℕ) → AllPass is_hex_digit cs → All (λ b. is_lf b ≡ false) cs
digits_clear [] all = All-nil (λ b. is_lf b ≡ false)
digits_clear (c ∷ cs) all =
    All-cons (λ b. is_lf b ≡ false) c cs (no_feed c (all 0 c (omega arith))) (digits_clear cs (λ k d below. all (suc k) d (omega (arith, below))))

-- a text is what stands before its last byte, and that
last_cut : (text : List ℕ) → 0 < length text → get_or text (length text - 1) 0 ≡ 10 → text ≡ take (length text - 1) text ++ 10 ∷ []
last_cut text some feed =
    let whole : suc (length text - 1) ≡ length text = omega arith in
    sym (take-length text) ∙ ap (λ (n : ℕ). take n text) (sym whole) ∙ take-suc text (length text - 1) 0 (omega arith)
    ∙ ap (λ (b : ℕ). take (length text - 1) text ++ b ∷ []) feed

decoded : (line bytes : List ℕ) → Some bytes ≡ if_decoded (decode_of line) → decode_of line ≡ Ok bytes
decoded line bytes is = by (decode_of line) is
  where
    by : (r : Result (List ℕ) FromHexError) → Some bytes ≡ if_decoded r → r ≡ Ok bytes
    by (Ok found) is = ap Ok (same_Some found bytes (sym is))
    by (Err e) is = absurd cc

-- the bytes of a line of digits, behind which a line feed stands and no more, are those that the text spells
pub digits_spell : (text line : List ℕ) → 0 < length text → get_or text (length text - 1) 0 ≡ 10 → line ≡ take (length text - 1) text
    → (found : Option (List ℕ)) → found ≡ if_decoded (decode_of line) → IfSome found (λ bytes. bytes_of_lines (slice_split is_lf text) ≡ Some bytes)
digits_spell text line some feed front None is = tt
digits_spell text line some feed front (Some bytes) is =
    let clear = digits_clear line (decode_of-ok line bytes (decoded line bytes is)).1 in
    ap (λ (t : List ℕ). bytes_of_lines (slice_split is_lf t)) (last_cut text some feed ∙ ap (λ (l : List ℕ). l ++ 10 ∷ []) (sym front))
    ∙ ap bytes_of_lines (slice_split_at is_lf line 10 [] clear refl) ∙ sym is

-- ---- the answer
pub load_goes : (s : State) (meta : Meta) (ws : ℕ) (w : Workspace) (text bytes : List ℕ) → workspace_of s ws ≡ Some w
    → bytes_of_lines (slice_split is_lf text) ≡ Some bytes
    → load_read s meta ws w (whole_of package_at bytes) ≡ decide_load s meta ws text
unfolding decide_load
load_goes s meta ws w text bytes there spelled = sym (rw (there, spelled) refl)
