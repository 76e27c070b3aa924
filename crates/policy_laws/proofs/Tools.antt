-- The tool answers so: its policy is one that is read, and its lines are short.
use Rattle.std.proofs.Common.{◌≡◌, ℕ, ◌+◌, ◌-◌, ◌<◌, ◌≤◌, ◌^◌, ◌==◌, ◌&&◌, nat_lt, nat_le, not, List, [], ◌∷◌, length, take, Bool, true, false, cond, Option}
use Rattle.std.proofs.Common.{None, Some}
use Rattle.std.proofs.Common.{Result, Ok, Err, refl, ap, subst, option_map, arith}
use Rattle.std.specs.Prelude.{slice_index, codes}
use Rattle.std.specs.List.{slice_split}
use Rattle.std.specs.Str.Lossy.{utf8_valid_len}
use Rattle.std.proofs.lemmas.Bool.Decides.{nat_tests}
use Rattle.std.proofs.lemmas.List.{length-take}
use Rattle.finite_maps.specs.Equal.{text_eq}
use Rattle.model_state.specs.Names.{is_name}
use Rattle.host_port.specs.Limits.{line_limit, input_limit}
use Rattle.host_port.specs.Cut.{Script, is_lf, line_bytes, text_at, line_text, line_of, with_item, ends_by, ends_block, block_line}
use Rattle.host_port.specs.Cut.{after_line, after_block, in_block_by, cut, cut_block}
use Rattle.host_port.specs.declared.lines.LineFault.{LineFault}
use Rattle.host_port.specs.declared.lines.LineFault.TheVariants.{LineTooLong, NotText, UnendedBlock, InputTooLong}
use Rattle.access_rules.specs.declared.policy.Grant.{Grant}
use Rattle.access_rules.specs.Laws.{AreGrants}
use Rattle.access_rules.specs.Reading.{grants_of}
use Rattle.access_rules.proofs.Spellings.{policies_spelled}
use Rattle.plain_repository.specs.Lines.{takes_block}
use Rattle.script_lang.specs.declared.command.Spec.{Spec}
use Rattle.tool_requests.specs.Words.{AskFor, spec_in, if_policy, grants_in, guard_in}
use Rattle.tool_requests.specs.declared.guard.Guard as guards
use Rattle.tool_requests.specs.declared.tool.Tool.TheVariants.{Query, Blame, Guard, Serve}
use Rattle.policy_laws.specs.Behind.{AreShort, GuardsAnswerSo}

-- ---- lines
bytes_short : (ended : Bool) (raw : List ℕ) → length (line_bytes ended raw) ≤ length raw
bytes_short false raw = omega arith
bytes_short true raw = by (slice_index raw (length raw - 1) == 13)
  where
    by : (b : Bool) → length (cond b (take (length raw - 1) raw) raw) ≤ length raw
    by true = omega (arith, length-take (length raw - 1) raw)
    by false = omega arith

-- a line has at most as many bytes as stand before its line feed
text_short : (offset : ℕ) (bytes line : List ℕ) → line_text (text_at offset bytes) ≡ Ok (Some line) → length line ≤ length bytes
text_short offset bytes line is = by (utf8_valid_len bytes == length bytes) is
  where
    by : (b : Bool) → line_text (cond b (Ok bytes) (Err (NotText (offset + utf8_valid_len bytes)))) ≡ Ok (Some line) → length line ≤ length bytes
    by true is = let same : bytes ≡ line = cc in omega (arith, ap length same)
    by false is = absurd cc

raw_short : (n at : ℕ) → (nat_lt 1048576 n && nat_lt (at + 1048576) 1099511627776) ≡ false → nat_le 1099511627776 (at + n) ≡ false → n ≤ 1048576
raw_short n at one two = grind (arith, nat_tests, one, two)

-- and these are no more than a line may have
line_short : (offset : ℕ) (raw : List ℕ) (ended : Bool) (line : List ℕ) → line_of offset raw ended ≡ Ok (Some line) → length line ≤ 1048576
unfolding line_of
line_short offset raw ended line is =
    by (nat_lt line_limit (length raw) && nat_lt (offset + line_limit) input_limit) refl (nat_le input_limit (offset + length raw)) refl
    (not ended && (length raw == 0)) is
  where
    by : (long : Bool) → (nat_lt line_limit (length raw) && nat_lt (offset + line_limit) input_limit) ≡ long
        → (far : Bool) → nat_le input_limit (offset + length raw) ≡ far → (last : Bool)
        → cond long (Err (LineTooLong (offset + line_limit))) (cond far (Err (InputTooLong input_limit))
        (cond last (Ok None) (line_text (text_at offset (line_bytes ended raw))))) ≡ Ok (Some line)
        → length line ≤ 1048576
    by true long_is far far_is last is = absurd cc
    by false long_is true far_is last is = absurd cc
    by false long_is false far_is true is = absurd cc
    by false long_is false far_is false is =
        let within = text_short offset (line_bytes ended raw) line is in
        let cut = bytes_short ended raw in
        let few : length raw ≤ 1048576 = raw_short (length raw) offset long_is far_is in
        omega (arith, within, cut, few)

-- ---- scripts
abbrev AllShort : Script → Type 0
AllShort s = AreShort s.items

abbrev IsShortLine : List ℕ → Type 0
IsShortLine line = length line < 2 ^ 32 - 1

either : (b : Bool) (x y : Script) → AllShort x → AllShort y → AllShort (cond b x y)
either true x y first second = first
either false x y first second = second

after_line_short : (r : Result (Option (List ℕ)) LineFault) (block : List ℕ → Script) (rest : Script)
    → ((line : List ℕ) → r ≡ Ok (Some line) → length line ≤ 1048576) → ((line : List ℕ) → IsShortLine line → AllShort (block line)) → AllShort rest
    → AllShort (after_line takes_block r block rest)
after_line_short (Err e) block rest few blocks rests = tt
after_line_short (Ok None) block rest few blocks rests = tt
after_line_short (Ok (Some line)) block rest few blocks rests =
    let short : IsShortLine line = omega (arith, few line refl) in
    either (takes_block line) (block line) (with_item line None rest) (blocks line short) (short, rests)

after_block_short : (line : List ℕ) → IsShortLine line → (text : Result (List ℕ) LineFault) (rest : Script) → AllShort rest
    → AllShort (after_block line text rest)
after_block_short line short (Err e) rest rests = tt
after_block_short line short (Ok text) rest rests = (short, rests)

in_block_short : (r : Result (Result (List ℕ) LineFault) LineFault) (rest : Result (List ℕ) LineFault → Script)
    → ((text : Result (List ℕ) LineFault) → AllShort (rest text)) → AllShort (in_block_by r rest)
in_block_short (Err e) rest rests = tt
in_block_short (Ok text) rest rests = rests text

-- the lines of all parts, before a block and within one
record PartsShort (parts : List (List ℕ)) : Type 0 where
  lines : (offset : ℕ) → AllShort (cut takes_block offset parts)
  block : (line : List ℕ) → IsShortLine line → (start offset : ℕ) (text : Result (List ℕ) LineFault)
      → AllShort (cut_block takes_block line start offset text parts)

parts_short : (parts : List (List ℕ)) → PartsShort parts
unfolding cut cut_block
parts_short [] = record { lines = λ offset. tt; block = λ line short start offset text. tt }
parts_short (raw ∷ []) = record {
  lines = λ offset. after_line_short (line_of offset raw false) (λ line. ends_by (Some (UnendedBlock (offset + length raw)))) (ends_by None)
      (line_short offset raw false) (λ line short. tt) tt;
  block = λ line short start offset text.
      either (ends_block offset false raw) (after_block line text (ends_by None)) _ (after_block_short line short text (ends_by None) tt)
      (in_block_short (block_line start offset false text raw) (λ _. ends_by (Some (UnendedBlock (offset + length raw)))) (λ _. tt));
}
parts_short (raw ∷ next ∷ parts) =
    let further = parts_short (next ∷ parts) in
    record {
      lines = λ offset. after_line_short (line_of offset raw true)
          (λ line. cut_block takes_block line (offset + length raw + 1) (offset + length raw + 1) (Ok []) (next ∷ parts))
          (cut takes_block (offset + length raw + 1) (next ∷ parts))
          (line_short offset raw true)
          (λ line short. further.block line short (offset + length raw + 1) (offset + length raw + 1) (Ok [])) (further.lines (offset + length raw + 1));
      block = λ line short start offset text.
          either (ends_block offset true raw) (after_block line text (cut takes_block (offset + length raw + 1) (next ∷ parts))) _
          (after_block_short line short text (cut takes_block (offset + length raw + 1) (next ∷ parts)) (further.lines (offset + length raw + 1)))
          (in_block_short (block_line start offset true text raw) (λ more. cut_block takes_block line start (offset + length raw + 1) more (next ∷ parts))
          (λ more. further.block line short start (offset + length raw + 1) more));
    }

-- ---- words
guard_read : (user text : List ℕ) (guard : guards.Guard) → guard_in user text ≡ Some (Guard guard) → AreGrants [] guard.policy.grants
guard_read user text guard is = by (is_name user) (nat_lt (length text) (2 ^ 32)) (grants_of text) refl is
  where
    by : (named low : Bool) (r : Result (List Grant) ℕ) → grants_of text ≡ r
        → cond named (option_map (λ grants. Guard (record { user = user; policy = record { grants = grants } })) (cond low (if_policy r) None)) None
        ≡ Some (Guard guard)
        → AreGrants [] guard.policy.grants
    by false low r read is = absurd cc
    by true false r read is = absurd cc
    by true true (Err at) read is = absurd cc
    by true true (Ok grants) read is =
        let made : guards.Guard = record { user = user; policy = record { grants = grants } } in
        let same : made ≡ guard = cc in
        subst (λ (g : guards.Guard). AreGrants [] g.policy.grants) same (policies_spelled text grants read).1

words_read : (words : List (List ℕ)) (guard : guards.Guard) → AskFor words (Guard guard) → AreGrants [] guard.policy.grants
words_read (name ∷ spec ∷ element ∷ class ∷ feature ∷ []) guard asks = by (text_eq name (codes "query")) (spec_in spec) asks
  where
    by : (query : Bool) (o : Option Spec) → cond query (option_map (λ s. Query s element class feature) o) None ≡ Some (Guard guard)
        → AreGrants [] guard.policy.grants
    by true (Some s) asks = absurd cc
    by true None asks = absurd cc
    by false o asks = absurd cc
words_read (name ∷ first ∷ second ∷ []) guard asks = by (text_eq name (codes "blame")) (spec_in first) (text_eq name (codes "guard")) asks
  where
    by : (blame : Bool) (o : Option Spec) (is_guard : Bool)
        → cond blame (option_map (λ s. Blame s second) o) (cond is_guard (guard_in first second) None) ≡ Some (Guard guard) → AreGrants [] guard.policy.grants
    by true (Some s) is_guard asks = absurd cc
    by true None is_guard asks = absurd cc
    by false o false asks = absurd cc
    by false o true asks = guard_read first second guard asks
words_read [] guard asks = absurd cc
words_read (a ∷ []) guard asks = absurd cc
words_read (name ∷ text ∷ []) guard asks = by (text_eq name (codes "serve")) (grants_in text) asks
  where
    by : (is_serve : Bool) (o : Option (List Grant))
        → cond is_serve (option_map (λ grants. Serve (record { grants = grants })) o) None ≡ Some (Guard guard) → AreGrants [] guard.policy.grants
    by true (Some grants) asks = absurd cc
    by true None asks = absurd cc
    by false o asks = absurd cc
words_read (a ∷ b ∷ c ∷ d ∷ []) guard asks = absurd cc
words_read (a ∷ b ∷ c ∷ d ∷ e ∷ f ∷ more) guard asks = absurd cc

pub guards_answer_so : GuardsAnswerSo
guards_answer_so = record {
  grants = words_read;
  short = λ input. (parts_short (slice_split is_lf input)).lines 0;
  answers_are = λ guard s input. refl;
}
