-- Lines of a block that are plain, taken at once.
use Rattle.std.proofs.Common.{◌≡◌, ℕ, ◌+◌, ◌-◌, ◌^◌, ◌<◌, ◌≤◌, ◌++◌, List, [], ◌∷◌, Bool, true, false, nat_lt, nat_le, get_or, length, take, drop}
use Rattle.std.proofs.Common.{refl, ap, sym, ◌∙◌, arith, Result, Ok, Err, length-append, length-take-le, append_assoc, append-nil, subst}
use Rattle.std.proofs.lemmas.Bool.{false_from_ne_true, le-ltb, ne_eqb}
use Rattle.std.proofs.lemmas.List.{take-append-drop, get_or-take, get_or-drop}
use Rattle.std.proofs.lemmas.List.Elements.{All-push, All-head, All-tail, All-from_get_or}
use Rattle.std.proofs.lemmas.List.Splits.{slice_split_at}
use Rattle.std.proofs.lemmas.Grind.{common_steps}
use Rattle.std.proofs.lemmas.Str.{IsUtf8-take, IsUtf8-drop, IsCharBoundary-before_ascii, IsCharBoundary-after_ascii, utf8_valid_len-IsUtf8}
use Rattle.std.proofs.Math.Seq.{take-append_seam, drop-append-add, get_or-append_seam, take-add}
use Rattle.std.specs.List.{All, slice_split}
use Rattle.std.specs.Str.{IsUtf8}
use Rattle.host_port.specs.declared.lines.LineFault.{LineFault}
use Rattle.host_port.specs.Limits.{block_limit, input_limit}
use Rattle.host_port.specs.Cut.{is_lf, cut_block, ends_block, block_line, text_with, text_at, without_cr, is_dot, past_line}
use Rattle.host_port.specs.Reads.{with_feeds, IsPlain, ArePlain, AddsRun}
use Rattle.host_port.proofs.ScriptItems.{cut_block_ended, split_cons}

-- ---- a run grows by a line

with_feeds-more : (raws : List (List ℕ)) (raw : List ℕ) → with_feeds (raws ++ raw ∷ []) ≡ with_feeds raws ++ (raw ++ 10 ∷ [])
with_feeds-more [] raw = refl
with_feeds-more (r ∷ raws) raw = rw (with_feeds-more raws raw) (sym (append_assoc r (10 ∷ with_feeds raws) (raw ++ 10 ∷ [])))

plain_one_more : (front raw : List ℕ) → ArePlain front → IsPlain raw → ArePlain (front ++ (raw ++ 10 ∷ []))
plain_one_more front raw are is = record {
  raws = are.raws ++ raw ∷ [];
  are = rw are.are (sym (with_feeds-more are.raws raw));
  plain = All-push IsPlain are.raws raw are.plain is;
}

cut_at_feed : (bytes : List ℕ) (end i : ℕ) → end ≤ i → i < length bytes → get_or bytes i 0 ≡ 10
    → take (i + 1) bytes ≡ take end bytes ++ (take (i - end) (drop end bytes) ++ 10 ∷ [])
cut_at_feed bytes end i h within feed =
    let n : i + 1 ≡ end + (i - end + 1) = omega arith in
    let at : get_or (drop end bytes) (i - end) 0 ≡ 10 =
    get_or-drop end bytes (i - end) 0 ∙ (ap (λ (k : ℕ). get_or bytes k 0) (let e : end + (i - end) ≡ i = omega arith in e) ∙ feed) in
    let last : take (i - end + 1) (drop end bytes) ≡ take (i - end) (drop end bytes) ++ 10 ∷ [] =
    grind (arith, common_steps) in
    rw n (take-add end (i - end + 1) bytes ∙ ap (λ (xs : List ℕ). take end bytes ++ xs) last)

-- what stands behind an offset
pub behind : (bytes : List ℕ) (from k : ℕ) → k < length bytes - from → get_or (take (length bytes - from) (drop from bytes)) k 0 ≡ get_or bytes (from + k) 0
behind bytes from k below = get_or-take (length bytes - from) (drop from bytes) k 0 below ∙ get_or-drop from bytes k 0

-- where the line up to the line feed at i is plain
pub plain_more : (bytes : List ℕ) (end i : ℕ) → end ≤ i → i < length bytes → ArePlain (take end bytes)
    → ((k : ℕ) → end ≤ k → k < i → get_or bytes k 0 ≡ 10 → ⊥) → get_or bytes i 0 ≡ 10
    → without_cr (take (i - end) (drop end bytes)) ≡ take (i - end) (drop end bytes) → is_dot (take (i - end) (drop end bytes)) ≡ false
    → ArePlain (take (i + 1) bytes)
plain_more bytes end i h within front clear feed whole no_end =
    rw (cut_at_feed bytes end i h within feed) (plain_one_more (take end bytes) (take (i - end) (drop end bytes)) front (record {
      no_feed = All-from_get_or (λ b. is_lf b ≡ false) (take (i - end) (drop end bytes)) 0 (λ k lt. ne_eqb _ _ (λ is. clear (end + k) (omega arith) (near k lt)
          (sym (get_or-take (i - end) (drop end bytes) k 0 (less k lt) ∙ get_or-drop end bytes k 0) ∙ is)));
      whole = whole;
      no_end = no_end;
    }))
  where
    less : (k : ℕ) → k < length (take (i - end) (drop end bytes)) → k < i - end
    less k lt = grind (arith, common_steps)

    near : (k : ℕ) → k < length (take (i - end) (drop end bytes)) → end + k < i
    near k lt = omega (arith, less k lt)

-- ---- text that is cut at a line feed

utf8_front : (raw rest : List ℕ) → IsUtf8 (raw ++ 10 ∷ rest) → IsUtf8 raw
utf8_front raw rest u =
    let within : length raw < length (raw ++ 10 ∷ rest) = rw length-append (omega arith) in
    let low : get_or (raw ++ 10 ∷ rest) (length raw) 0 < 128 = rw get_or-append_seam (omega arith) in
    subst (λ (xs : List ℕ). IsUtf8 xs) (take-append_seam raw (10 ∷ rest))
    (IsUtf8-take (raw ++ 10 ∷ rest) (length raw) u (IsCharBoundary-before_ascii (raw ++ 10 ∷ rest) (length raw) within low))

utf8_back : (raw rest : List ℕ) → IsUtf8 (raw ++ 10 ∷ rest) → IsUtf8 rest
utf8_back raw rest u =
    let within : length raw < length (raw ++ 10 ∷ rest) = rw length-append (omega arith) in
    let low : get_or (raw ++ 10 ∷ rest) (length raw) 0 < 128 = rw get_or-append_seam (omega arith) in
    subst (λ (xs : List ℕ). IsUtf8 xs) (drop-append-add raw (10 ∷ rest) 1)
    (IsUtf8-drop (raw ++ 10 ∷ rest) (length raw + 1) u (IsCharBoundary-after_ascii (raw ++ 10 ∷ rest) (length raw) u within low))

-- ---- a run is steps of the script

text_is : (offset : ℕ) (raw : List ℕ) → IsUtf8 raw → text_at offset raw ≡ Ok raw
text_is offset raw u = grind (arith, common_steps, utf8_valid_len-IsUtf8 raw u)

adds_rest : (offset : ℕ) (text new : Result (List ℕ) LineFault) (raw rest : List ℕ) → AddsRun text (raw ++ 10 ∷ rest) new
    → AddsRun (text_with offset text raw) rest new
adds_rest offset (Err e) new raw rest h = h
adds_rest offset (Ok text) new raw rest h =
    rw (text_is offset raw (utf8_front raw rest h.0))
    (utf8_back raw rest h.0, h.1 ∙ ap (λ (xs : List ℕ). Ok xs) (sym (append_assoc (text ++ raw) (10 ∷ []) rest ∙ append_assoc text raw (10 ∷ rest))))

plain_line : (start offset : ℕ) (text : Result (List ℕ) LineFault) (raw : List ℕ) → IsPlain raw → offset + length raw + 1 ≤ start + block_limit
    → offset + length raw + 1 ≤ 2 ^ 40
    → block_line start offset true text raw ≡ Ok (text_with offset text raw)
plain_line start offset text raw is near within =
    let l : nat_lt block_limit (past_line offset true raw - start) ≡ false = le-ltb _ _ (omega arith) in
    let i : nat_le input_limit (offset + length raw) ≡ false = false_from_ne_true (nat_le input_limit (offset + length raw)) (λ e. grind arith) in
    rw (l, i, is.whole) refl

adds_none : (text new : Result (List ℕ) LineFault) → AddsRun text [] new → new ≡ text
adds_none (Err e) new h = h
adds_none (Ok text) new h = h.1 ∙ ap (λ (xs : List ℕ). Ok xs) (append-nil text)

cut_run : (takes : List ℕ → Bool) (line : List ℕ) (start offset : ℕ) (text new : Result (List ℕ) LineFault) (raws : List (List ℕ)) (rest : List ℕ)
    → All IsPlain raws
    → offset + length (with_feeds raws) ≤ start + block_limit → offset + length (with_feeds raws) ≤ 2 ^ 40 → AddsRun text (with_feeds raws) new
    → cut_block takes line start offset text (slice_split is_lf (with_feeds raws ++ rest)) ≡ cut_block takes line start
    (offset + length (with_feeds raws)) new (slice_split is_lf rest)
cut_run takes line start offset text new [] rest plain near within adds =
    let none : offset + 0 ≡ offset = omega arith in
    rw (adds_none text new adds, none) refl
cut_run takes line start offset text new (raw ∷ raws) rest plain near within adds =
    let is = All-head IsPlain raw raws plain in
    let size : length (raw ++ 10 ∷ with_feeds raws) ≡ length raw + 1 + length (with_feeds raws) = rw length-append (omega arith) in
    let parts : slice_split is_lf ((raw ++ 10 ∷ with_feeds raws) ++ rest) ≡ raw ∷ slice_split is_lf (with_feeds raws ++ rest) =
    ap (λ (xs : List ℕ). slice_split is_lf xs) (append_assoc raw (10 ∷ with_feeds raws) rest)
    ∙ slice_split_at is_lf raw 10 (with_feeds raws ++ rest) is.no_feed refl in
    let no_end : ends_block offset true raw ≡ false = rw (is.whole, is.no_end) refl in
    let goes : block_line start offset true text raw ≡ Ok (text_with offset text raw) = plain_line start offset text raw is (omega arith) (omega arith) in
    rw parts (cut_block_ended takes line start offset text raw (slice_split is_lf (with_feeds raws ++ rest)) (split_cons (with_feeds raws ++ rest))
    ∙ (rw (no_end, goes)
    (cut_run takes line start (offset + length raw + 1) (text_with offset text raw) new raws rest (All-tail IsPlain raw raws plain) (omega arith)
    (omega arith) (adds_rest offset text new raw (with_feeds raws) adds)
    ∙ ap (λ (k : ℕ). cut_block takes line start k new (slice_split is_lf rest)) (behind size))))
  where
    behind : length (raw ++ 10 ∷ with_feeds raws) ≡ length raw + 1 + length (with_feeds raws)
        → offset + length raw + 1 + length (with_feeds raws) ≡ offset + length (raw ++ 10 ∷ with_feeds raws)
    behind size = omega arith

pub run_goes : (takes : List ℕ → Bool) (line : List ℕ) (start offset place' n : ℕ) (old new : Result (List ℕ) LineFault) (pending pending' left : List ℕ)
    → n ≤ length pending → ArePlain (take n pending) → AddsRun old (take n pending) new
    → offset + n ≤ start + block_limit → offset + length pending ≤ 2 ^ 40 → pending' ≡ drop n pending → place' ≡ offset + n
    → cut_block takes line start offset old (slice_split is_lf (pending ++ left)) ≡ cut_block takes line start place' new (slice_split is_lf (pending' ++ left))
run_goes takes line start offset place' n old new pending pending' left h plain adds near within moved there =
    let parts : pending ++ left ≡ with_feeds plain.raws ++ (pending' ++ left) = rw moved
    (ap (λ (xs : List ℕ). xs ++ left) (sym (take-append-drop n pending))
    ∙ (append_assoc (take n pending) (drop n pending) left ∙ ap (λ (xs : List ℕ). xs ++ (drop n pending ++ left)) plain.are)) in
    let size : length (with_feeds plain.raws) ≡ n = ap length (sym plain.are) ∙ length-take-le n pending h in
    let at : offset + length (with_feeds plain.raws) ≡ place' = omega arith in
    rw parts (cut_run takes line start offset old new plain.raws (pending' ++ left) plain.plain (omega arith) (omega arith)
    (subst (λ (xs : List ℕ). AddsRun old xs new) plain.are adds)
    ∙ ap (λ (k : ℕ). cut_block takes line start k new (slice_split is_lf (pending' ++ left))) at)
