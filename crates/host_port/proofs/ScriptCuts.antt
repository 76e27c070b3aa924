use Rattle.std.proofs.Common.{◌≡◌, ◌⊎◌, ℕ, ◌+◌, ◌^◌, ◌<◌, ◌≤◌, ◌++◌, List, [], Bool, true, false, get_or, length, take, drop, refl, ap, sym, ◌∙◌}
use Rattle.std.proofs.Common.{arith, length-append, eqb-true, inl, inr, Result, Ok, Err, IfErr, if◌then◌else◌, append-nil, OnOk, length-drop}
use Rattle.std.proofs.lemmas.Grind.{common_steps}
use Rattle.std.proofs.lemmas.List.{get_or_append_left, take-append-le, drop-append-le}
use Rattle.std.proofs.lemmas.Bool.{ne_eqb}
use Rattle.std.proofs.lemmas.Str.{utf8_valid_len-IsUtf8, utf8_valid_len_le}
use Rattle.std.proofs.lemmas.List.Sums.{passes_at_first, position_or_len_is}
use Rattle.std.specs.List.{position_or_len, after_first}
use Rattle.host_port.specs.declared.lines.LineFault.{LineFault}
use Rattle.host_port.specs.declared.lines.LineFault.TheVariants.{LineTooLong, InputTooLong}
use Rattle.host_port.specs.Limits.{line_limit, input_limit}
use Rattle.host_port.specs.Cut.{is_lf, raw_line, is_ended, line_of, line_or_end, next_line_of}
use Rattle.host_port.specs.Reads.{IsLineFault, PastLine}
use Rattle.host_port.specs.declared.lines.Got.{Got}

pub position_long : (xs : List ℕ) (n : ℕ) → n ≤ length xs → ((k : ℕ) → k < n → get_or xs k 0 ≡ 10 → ⊥) → n ≤ position_or_len is_lf xs
position_long xs n h none = grind (arith, passes_at_first is_lf xs 0, none (position_or_len is_lf xs), eqb-true (get_or xs (position_or_len is_lf xs) 0) 10)

pub length-raw_line : (xs : List ℕ) → length (raw_line xs) ≡ position_or_len is_lf xs
length-raw_line xs = grind (arith, common_steps)

pub line_too_long : (offset : ℕ) (raw : List ℕ) (ended : Bool) → line_limit < length raw → offset + line_limit < input_limit
    → line_of offset raw ended ≡ Err (LineTooLong (offset + line_limit))
unfolding line_of
line_too_long offset raw ended long within = grind (arith, common_steps)

pub input_too_long : (offset : ℕ) (raw : List ℕ) (ended : Bool) → input_limit ≤ offset + line_limit → input_limit ≤ offset + length raw
    → line_of offset raw ended ≡ Err (InputTooLong input_limit)
unfolding line_of
input_too_long offset raw ended long within = grind (arith, common_steps)

-- from clear bytes at the beginning to the fault of the line
pub line_fault : (offset len : ℕ) (pending left : List ℕ) (e : LineFault) → len ≤ length pending → ((k : ℕ) → k < len → get_or pending k 0 ≡ 10 → ⊥)
    → offset + length pending ≤ 2 ^ 40
    → ((line_limit < len) × (e ≡ LineTooLong (offset + line_limit))) ⊎ ((len ≤ line_limit) × (2 ^ 40 ≤ offset + len) × (e ≡ InputTooLong input_limit))
    → IsLineFault e (next_line_of offset (pending ++ left))
line_fault offset len pending left e h none within d =
    let none' : (k : ℕ) → k < len → get_or (pending ++ left) k 0 ≡ 10
    → ⊥ = λ k lt is. none k lt (sym (get_or_append_left pending left 0 k (omega arith)) ∙ is) in
    let long : len ≤ position_or_len is_lf (pending ++ left) = position_long (pending ++ left) len (omega (arith, length-append pending left)) none' in
    let size = length-raw_line (pending ++ left) in
    elim d [
      | inl a ↦ rw a.1 (line_too_long offset (raw_line (pending ++ left)) (is_ended (pending ++ left)) (omega (arith, a.0, size, long)) (omega (arith, a.0)))
      | inr a ↦ rw a.2 (input_too_long offset (raw_line (pending ++ left)) (is_ended (pending ++ left)) (omega (arith, a.0, a.1))
          (omega (arith, a.1, size, long)))
    ]

pub line_faults : (r : Result (ℕ × Bool) LineFault) (offset len : ℕ) (pending left : List ℕ) → len ≤ length pending
    → ((k : ℕ) → k < len → get_or pending k 0 ≡ 10 → ⊥)
    → offset + length pending ≤ 2 ^ 40
    → IfErr r (λ e. ((line_limit < len) × (e ≡ LineTooLong (offset + line_limit)))
    ⊎ ((len ≤ line_limit) × (2 ^ 40 ≤ offset + len) × (e ≡ InputTooLong input_limit)))
    → IfErr r (λ e. IsLineFault e (next_line_of offset (pending ++ left)))
line_faults (Ok x) offset len pending left h none within d = tt
line_faults (Err e) offset len pending left h none within d = line_fault offset len pending left e h none within d

pub ruleset text_lemmas = (utf8_valid_len-IsUtf8, utf8_valid_len_le)

pub line_within : (offset : ℕ) (raw : List ℕ) (ended : Bool) → length raw ≤ line_limit → offset + length raw < input_limit
    → line_of offset raw ended ≡ line_or_end offset raw ended
unfolding line_of
line_within offset raw ended short within = grind (arith, common_steps)

-- the first line feed of what is left unread
pub first_at : (len : ℕ) (ended : Bool) (pending left : List ℕ)
    → (ended ≡ true → (len < length pending) × (get_or pending len 0 ≡ 10) × ((k : ℕ) → k < len → get_or pending k 0 ≡ 10 → ⊥))
    → (ended ≡ false → (len ≡ length pending) × ((k : ℕ) → k < len → get_or pending k 0 ≡ 10 → ⊥))
    → (ended ≡ false → left ≡ []) → position_or_len is_lf (pending ++ left) ≡ len
first_at len true pending left found none end =
    position_or_len_is is_lf (pending ++ left) len 0 (omega (arith, length-append pending left, found refl))
    (λ k h. rw (get_or_append_left pending left 0 k (omega (arith, found refl))) (ne_eqb _ _ ((found refl).2 k h)))
    (λ h. rw (get_or_append_left pending left 0 len (omega (arith, found refl))) (rw ((found refl).1) refl))
first_at len false pending left found none end =
    rw (end refl, append-nil)
    (position_or_len_is is_lf pending len 0 (omega (arith, none refl)) (λ k h. ne_eqb _ _ ((none refl).1 k h))
    (λ h. absurd (omega (arith, none refl))))

pub raw_is : (len : ℕ) (pending left : List ℕ) → len ≤ length pending → position_or_len is_lf (pending ++ left) ≡ len
    → raw_line (pending ++ left) ≡ take len pending
raw_is len pending left h at = rw at (take-append-le len pending left h)

pub ended_is : (len : ℕ) (ended : Bool) (pending left : List ℕ) → len ≤ length pending → (ended ≡ true → len < length pending)
    → (ended ≡ false → len ≡ length pending)
    → (ended ≡ false → left ≡ []) → position_or_len is_lf (pending ++ left) ≡ len → is_ended (pending ++ left) ≡ ended
ended_is len true pending left h some none end at =
    let size : length (raw_line (pending ++ left)) ≡ len = length-raw_line (pending ++ left) ∙ at in
    let total = length-append pending left in
    grind (arith, some refl)
ended_is len false pending left h some none end at =
    let size : length (raw_line (pending ++ left)) ≡ len = length-raw_line (pending ++ left) ∙ at in
    let total : length (pending ++ left) ≡ len = rw (end refl, append-nil) (sym (none refl)) in
    grind arith

pub after_is : (len : ℕ) (ended : Bool) (pending left : List ℕ) → (ended ≡ true → len < length pending) → (ended ≡ false → len ≡ length pending)
    → (ended ≡ false → left ≡ []) → position_or_len is_lf (pending ++ left) ≡ len
    → after_first is_lf (pending ++ left) ≡ drop (if ended then len + 1 else len) pending ++ left
after_is len true pending left some none end at = rw at (drop-append-le (len + 1) pending left (omega (arith, some refl)))
after_is len false pending left some none end at = rw (at, end refl, append-nil, append-nil) (grind (arith, common_steps, none refl))

pub line_is : (offset len : ℕ) (ended : Bool) (pending left : List ℕ)
    → (ended ≡ true → (len < length pending) × (get_or pending len 0 ≡ 10) × ((k : ℕ) → k < len → get_or pending k 0 ≡ 10 → ⊥))
    → (ended ≡ false → (len ≡ length pending) × ((k : ℕ) → k < len → get_or pending k 0 ≡ 10 → ⊥))
    → (ended ≡ false → left ≡ []) → len ≤ length pending → len ≤ line_limit → offset + len < 2 ^ 40
    → (next_line_of offset (pending ++ left) ≡ line_or_end offset (take len pending) ended)
    × (after_first is_lf (pending ++ left) ≡ drop (if ended then len + 1 else len) pending ++ left)
line_is offset len ended pending left found none end h short within =
    let at : position_or_len is_lf (pending ++ left) ≡ len = first_at len ended pending left found none end in
    let raw : raw_line (pending ++ left) ≡ take len pending = raw_is len pending left h at in
    let e : is_ended (pending ++ left) ≡ ended = ended_is len ended pending left h (λ t. (found t).0) (λ f. (none f).0) end at in (
      ap (λ r. line_of offset r (is_ended (pending ++ left))) raw
          ∙ (ap (λ b. line_of offset (take len pending) b) e
          ∙ line_within offset (take len pending) ended (grind (arith, common_steps)) (grind (arith, common_steps))),
      after_is len ended pending left (λ t. (found t).0) (λ f. (none f).0) end at,
    )

pub past_line : (r : Result Got LineFault) (len offset offset_new : ℕ) (ended : Bool) (pending left pending_new : List ℕ)
    → len ≤ length pending → (ended ≡ true → len < length pending) → (ended ≡ false → len ≡ length pending)
    → after_first is_lf (pending ++ left) ≡ drop (if ended then len + 1 else len) pending ++ left
    → OnOk r (pending_new ≡ drop (if ended then len + 1 else len) pending)
    → OnOk r (offset_new ≡ offset + (if ended then len + 1 else len))
    → OnOk r (PastLine (pending ++ left) (pending_new ++ left) offset offset_new)
past_line (Err e) len offset offset_new ended pending left pending_new h some none after items at = tt
past_line (Ok x) len offset offset_new true pending left pending_new h some none after items at = record {
  unread = rw items (sym after);
  offset = rw (items, at) (grind (arith, length-append {A = ℕ}, length-drop {A = ℕ}, some refl));
}
past_line (Ok x) len offset offset_new false pending left pending_new h some none after items at = record {
  unread = rw items (sym after);
  offset = rw (items, at) (grind (arith, length-append {A = ℕ}, length-drop {A = ℕ}, none refl));
}
