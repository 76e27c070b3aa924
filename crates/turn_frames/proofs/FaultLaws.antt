-- A script that is short ends by none of the faults of long inputs.
use Rattle.std.proofs.Common.{◌≡◌, ℕ, suc, ◌+◌, ◌-◌, ◌<◌, ◌≤◌, Bool, true, false, cond, not, ◌&&◌, List, [], ◌∷◌, length, take, get_or}
use Rattle.std.proofs.Common.{Option, None, Some, Result, Ok, Err, refl, ◌∙◌, ap, arith}
use Rattle.std.specs.Prelude.{nat_le, nat_lt, IfErr, ◌==◌}
use Rattle.std.specs.List.{slice_split, onto_first}
use Rattle.std.specs.Str.Lossy.{utf8_valid_len}
use Rattle.std.proofs.lemmas.Bool.{leb-true, ltb-true}
use Rattle.std.proofs.lemmas.List.{length-take}
use Rattle.std.proofs.lemmas.List.Splits.{slice_split-cons_yes, slice_split-cons_no}
use Rattle.std.proofs.lemmas.Str.{utf8_valid_len_le}
use Rattle.host_port.specs.Cut.{Script, after_block, after_line, block_line, cut, cut_block, ends_block, ends_by, in_block_by, is_lf, line_added, line_bytes}
use Rattle.host_port.specs.Cut.{line_of, line_text, past_line, text_at, text_with, with_item, without_cr}
use Rattle.host_port.specs.Limits.{block_limit, input_limit, line_limit}
use Rattle.host_port.specs.declared.lines.LineFault.{LineFault}
use Rattle.host_port.specs.declared.lines.LineFault.TheVariants as faults
use Rattle.turn_frames.specs.Faults.{IsWithin, IfFault, FaultsAreWithin}

-- ---- how long the lines are, each with a line feed
abbrev weight : List (List ℕ) → ℕ
weight [] = 0
weight (raw ∷ parts) = suc (length raw + weight parts)

onto_weight : (x : ℕ) (parts : List (List ℕ)) (n : ℕ) → weight parts ≡ suc n → weight (onto_first x parts) ≡ suc (suc n)
onto_weight x [] n is = absurd (omega (arith, is))
onto_weight x (part ∷ parts) n is = omega (arith, is)

split_weight : (bytes : List ℕ) → weight (slice_split is_lf bytes) ≡ suc (length bytes)
split_weight [] = refl
split_weight (b ∷ bs) = by (is_lf b) refl (split_weight bs)
  where
    by : (t : Bool) → is_lf b ≡ t → weight (slice_split is_lf bs) ≡ suc (length bs) → weight (slice_split is_lf (b ∷ bs)) ≡ suc (suc (length bs))
    by true is rest = ap weight (slice_split-cons_yes is_lf b bs is) ∙ (let e = rest in omega (arith, e))
    by false is rest = ap weight (slice_split-cons_no is_lf b bs is) ∙ onto_weight b (slice_split is_lf bs) (length bs) rest

-- ---- a line
cr_short : (raw : List ℕ) → length (without_cr raw) ≤ length raw
cr_short raw = by (get_or raw (length raw - 1) 0 == 13)
  where
    by : (b : Bool) → length (cond b (take (length raw - 1) raw) raw) ≤ length raw
    by true = omega (arith, length-take (length raw - 1) raw)
    by false = omega arith

bytes_short : (ended : Bool) (raw : List ℕ) → length (line_bytes ended raw) ≤ length raw
bytes_short true raw = cr_short raw
bytes_short false raw = omega arith

module _ (n : ℕ) (low : n < input_limit) where
  text_within : (offset : ℕ) (bytes : List ℕ) → offset + length bytes ≤ n → IfErr (text_at offset bytes) (IsWithin n)
  text_within offset bytes within = by (utf8_valid_len bytes == length bytes)
    where
      by : (b : Bool) → IfErr (cond {A = Result (List ℕ) LineFault} b (Ok bytes) (Err (faults.NotText (offset + utf8_valid_len bytes)))) (IsWithin n)
      by true = tt
      by false = omega (arith, within, utf8_valid_len_le bytes)

  text_line : (t : Result (List ℕ) LineFault) → IfErr t (IsWithin n) → IfErr (line_text t) (IsWithin n)
  text_line (Ok t) is = tt
  text_line (Err e) is = is

  line_within : (offset : ℕ) (raw : List ℕ) (ended : Bool) → offset + length raw ≤ n → IfErr (line_of offset raw ended) (IsWithin n)
  unfolding line_of
  line_within offset raw ended within =
      by (nat_lt line_limit (length raw)) (nat_lt (offset + line_limit) input_limit) refl (nat_le input_limit (offset + length raw)) refl
      (not ended && (length raw == 0))
    where
      by : (a b : Bool) → nat_lt line_limit (length raw) ≡ a → (c : Bool) → nat_le input_limit (offset + length raw) ≡ c → (d : Bool)
          → IfErr (cond {A = Result (Option (List ℕ)) LineFault} (a && b) (Err (faults.LineTooLong (offset + line_limit)))
          (cond c (Err (faults.InputTooLong input_limit)) (cond d (Ok None) (line_text (text_at offset (line_bytes ended raw)))))) (IsWithin n)
      by true true is c far d = let over : line_limit < length raw = ltb-true _ _ is in omega (arith, over, within)
      by true false is true far d = let over : input_limit ≤ offset + length raw = leb-true _ _ far in absurd (omega (arith, over, within, low))
      by false b is true far d = let over : input_limit ≤ offset + length raw = leb-true _ _ far in absurd (omega (arith, over, within, low))
      by true false is false far true = tt
      by false b is false far true = tt
      by true false is false far false = text_line (text_at offset (line_bytes ended raw)) (text_within offset (line_bytes ended raw) (omega
          (arith, within, bytes_short ended raw)))
      by false b is false far false = text_line (text_at offset (line_bytes ended raw)) (text_within offset (line_bytes ended raw) (omega
          (arith, within, bytes_short ended raw)))

  -- ---- a line of a block
  added_within : (text : List ℕ) (t : Result (List ℕ) LineFault) → IfErr t (IsWithin n) → IfErr (line_added text t) (IsWithin n)
  added_within text (Ok line) is = tt
  added_within text (Err e) is = is

  with_within : (offset : ℕ) (text : Result (List ℕ) LineFault) (line : List ℕ) → IfErr text (IsWithin n) → offset + length line ≤ n
      → IfErr (text_with offset text line) (IsWithin n)
  with_within offset (Err e) line is within = is
  with_within offset (Ok text) line is within = added_within text (text_at offset line) (text_within offset line within)

  -- a fault within, or a text that has one within
  abbrev IsRead : Result (Result (List ℕ) LineFault) LineFault → Type 0
  IsRead (Err e) = IsWithin n e
  IsRead (Ok text) = IfErr text (IsWithin n)

  block_within : (start offset : ℕ) (ended : Bool) (text : Result (List ℕ) LineFault) (raw : List ℕ) → IfErr text (IsWithin n) → offset + length raw ≤ n
      → past_line offset ended raw ≤ n + 1 → IsRead (block_line start offset ended text raw)
  block_within start offset ended text raw is within past =
      by (nat_lt block_limit (past_line offset ended raw - start)) (nat_lt (start + block_limit) input_limit) refl
      (nat_le input_limit (offset + length raw)) refl
    where
      by : (a b : Bool) → nat_lt block_limit (past_line offset ended raw - start) ≡ a → (c : Bool) → nat_le input_limit (offset + length raw) ≡ c
          → IsRead (cond {A = Result (Result (List ℕ) LineFault) LineFault} (a && b) (Err (faults.BlockTooLong (start + block_limit)))
          (cond c (Err (faults.InputTooLong input_limit)) (Ok (text_with offset text (line_bytes ended raw)))))
      by true true eq c far = let over : block_limit < past_line offset ended raw - start = ltb-true _ _ eq in omega (arith, over, past)
      by true false eq true far = let over : input_limit ≤ offset + length raw = leb-true _ _ far in absurd (omega (arith, over, within, low))
      by false b eq true far = let over : input_limit ≤ offset + length raw = leb-true _ _ far in absurd (omega (arith, over, within, low))
      by true false eq false far = with_within offset text (line_bytes ended raw) is (omega (arith, within, bytes_short ended raw))
      by false b eq false far = with_within offset text (line_bytes ended raw) is (omega (arith, within, bytes_short ended raw))

  -- ---- scripts
  line_then : (takes : List ℕ → Bool) (read : Result (Option (List ℕ)) LineFault) (block : List ℕ → Script) (rest : Script) → IfErr read (IsWithin n)
      → ((line : List ℕ) → IfFault n (block line).fault) → IfFault n rest.fault → IfFault n (after_line takes read block rest).fault
  line_then takes (Err e) block rest is in_block later = is
  line_then takes (Ok None) block rest is in_block later = tt
  line_then takes (Ok (Some line)) block rest is in_block later = by (takes line)
    where
      by : (b : Bool) → IfFault n (cond {A = Script} b (block line) (with_item line None rest)).fault
      by true = in_block line
      by false = later

  block_then : (line : List ℕ) (text : Result (List ℕ) LineFault) (rest : Script) → IfErr text (IsWithin n) → IfFault n rest.fault
      → IfFault n (after_block line text rest).fault
  block_then line (Err e) rest is later = is
  block_then line (Ok text) rest is later = later

  more_then : (read : Result (Result (List ℕ) LineFault) LineFault) (rest : Result (List ℕ) LineFault → Script) → IsRead read
      → ((text : Result (List ℕ) LineFault) → IfErr text (IsWithin n) → IfFault n (rest text).fault) → IfFault n (in_block_by read rest).fault
  more_then (Err e) rest is later = is
  more_then (Ok text) rest is later = later text is

  ended_then : (b : Bool) (one other : Script) → IfFault n one.fault → IfFault n other.fault → IfFault n (cond b one other).fault
  ended_then true one other is also = is
  ended_then false one other is also = also

  mutual
    unfolding cut cut_block

    cut_within : (takes : List ℕ → Bool) (offset : ℕ) (parts : List (List ℕ)) → offset + weight parts ≤ n + 1 → IfFault n (cut takes offset parts).fault
    cut_within takes offset [] within = tt
    cut_within takes offset (raw ∷ []) within =
        line_then takes (line_of offset raw false) (λ line. ends_by (Some (faults.UnendedBlock (offset + length raw)))) (ends_by None)
        (line_within offset raw false (omega (arith, within))) (λ line. omega (arith, within)) tt
    cut_within takes offset (raw ∷ next ∷ parts) within =
        line_then takes (line_of offset raw true)
        (λ line. cut_block takes line (offset + length raw + 1) (offset + length raw + 1) (Ok []) (next ∷ parts))
        (cut takes (offset + length raw + 1) (next ∷ parts)) (line_within offset raw true (omega (arith, within)))
        (λ line. block_cut_within takes line (offset + length raw + 1) (offset + length raw + 1) (Ok []) (next ∷ parts) tt (omega (arith, within)))
        (cut_within takes (offset + length raw + 1) (next ∷ parts) (omega (arith, within)))

    block_cut_within : (takes : List ℕ → Bool) (line : List ℕ) (start offset : ℕ) (text : Result (List ℕ) LineFault) (parts : List (List ℕ))
        → IfErr text (IsWithin n) → offset + weight parts ≤ n + 1 → IfFault n (cut_block takes line start offset text parts).fault
    block_cut_within takes line start offset text [] is within = tt
    block_cut_within takes line start offset text (raw ∷ []) is within =
        ended_then (ends_block offset false raw) (after_block line text (ends_by None)) _ (block_then line text (ends_by None) is tt)
        (more_then (block_line start offset false text raw) (λ _. ends_by (Some (faults.UnendedBlock (offset + length raw))))
        (block_within start offset false text raw is (omega (arith, within)) (omega (arith, within))) (λ _ _. omega (arith, within)))
    block_cut_within takes line start offset text (raw ∷ next ∷ parts) is within =
        ended_then (ends_block offset true raw) (after_block line text (cut takes (offset + length raw + 1) (next ∷ parts))) _
        (block_then line text (cut takes (offset + length raw + 1) (next ∷ parts)) is
        (cut_within takes (offset + length raw + 1) (next ∷ parts) (omega (arith, within))))
        (more_then (block_line start offset true text raw) (λ more. cut_block takes line start (offset + length raw + 1) more (next ∷ parts))
        (block_within start offset true text raw is (omega (arith, within)) (omega (arith, within)))
        (λ more now. block_cut_within takes line start (offset + length raw + 1) more (next ∷ parts) now (omega (arith, within))))

pub faults_are_within : FaultsAreWithin
faults_are_within takes bytes low = cut_within (length bytes) low takes 0 (slice_split is_lf bytes) (omega (arith, split_weight bytes))
