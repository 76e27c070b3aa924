-- Frames that stand one after the other.
use Rattle.std.proofs.Common.{◌≡◌, ℕ, zero, suc, ◌+◌, ◌-◌, ◌<◌, ◌≤◌, Bool, true, false, List, [], ◌∷◌, ◌++◌, length, drop}
use Rattle.std.proofs.Common.{None, Option, Some, refl, sym, ◌∙◌, ap, subst, arith, append_assoc, length-append, length-drop}
use Rattle.std.specs.Prelude.{nat_le, All}
use Rattle.std.specs.Fmt.{decimal}
use Rattle.std.proofs.lemmas.List.{append-nil, drop_at, drop-append-le}
use Rattle.std.proofs.lemmas.List.Elements.{All-nil, All-cons, All-head, All-tail}
use Rattle.std.proofs.lemmas.Bool.{leb-true, leb-false}
use Rattle.std.proofs.lemmas.Bool.Decides.{nat_tests}
use Rattle.host_port.specs.Limits.{input_limit}
use Rattle.turn_frames.specs.declared.fault.TurnFault.TheVariants.{NotFrame, InputTooLong}
use Rattle.turn_frames.specs.Turns.{Turn, Turns, IsTurn, frame, frames, first_turn, turns_at, turns_from, turns_of, ended_by, with_turn}
use Rattle.turn_frames.specs.Laws.{with_turns, IsLeft, FramesAreOne, FramesAreRead, WholeFramesAreRead, InputsAreSpelled}
use Rattle.turn_frames.proofs.Heads.{frame_read, frame_back}

-- the bytes that belong to the frame before are passed over
turns_past : (n offset : ℕ) (xs ys : List ℕ) → n ≡ length xs → turns_from n offset (xs ++ ys) ≡ turns_from 0 (offset + length xs) ys
unfolding turns_from
turns_past zero offset [] ys is = ap (λ (k : ℕ). turns_from 0 k ys) (omega arith)
turns_past zero offset (x ∷ xs) ys is = absurd (omega (arith, is))
turns_past (suc n) offset [] ys is = absurd (omega (arith, is))
turns_past (suc n) offset (x ∷ xs) ys is =
    turns_past n (offset + 1) xs ys (omega (arith, is)) ∙ ap (λ (k : ℕ). turns_from 0 k ys) (omega arith)

-- where a whole frame stands first, within the limit
first_is : (offset : ℕ) (bytes : List ℕ) (turn : Turn) → 0 < length bytes → first_turn bytes ≡ Some turn → offset < input_limit
    → turns_from 0 offset bytes ≡ with_turn turn (turns_from (length (frame turn) - 1) (offset + 1) (drop 1 bytes))
unfolding turns_from
first_is offset [] turn some is within = absurd (omega (arith, some))
first_is offset (b ∷ bs) turn some is within =
    let early : nat_le input_limit offset ≡ false = lt-ltb-false offset within in
    ap (λ (o : Option Turn). turns_at offset o (λ t. turns_from (length (frame t) - 1) (offset + 1) bs)) is ∙ rw early refl
  where
    lt-ltb-false : (n : ℕ) → n < input_limit → nat_le input_limit n ≡ false
    lt-ltb-false n low = grind (arith, nat_tests, low)

pub frame_some : (turn : Turn) → 1 ≤ length (frame turn)
frame_some turn = omega (arith, length-append turn.user (32 ∷ (decimal (length turn.bytes) ++ 10 ∷ turn.bytes)))

-- at a frame that begins within the limit
pub turns_next : (turn : Turn) (offset : ℕ) (rest : List ℕ) → IsTurn turn → offset < input_limit
    → turns_from 0 offset (frame turn ++ rest) ≡ with_turn turn (turns_from 0 (offset + length (frame turn)) rest)
turns_next turn offset rest is within =
    first_is offset (frame turn ++ rest) turn (omega (arith, frame_some turn, length-append (frame turn) rest)) (frame_read turn rest is) within
    ∙ ap (λ (t : Turns). with_turn turn t) (
    ap (λ (l : List ℕ). turns_from (length (frame turn) - 1) (offset + 1) l) (drop-append-le 1 (frame turn) rest (frame_some turn))
    ∙ turns_past (length (frame turn) - 1) (offset + 1) (drop 1 (frame turn)) rest (sym (length-drop 1 (frame turn)))
    ∙ ap (λ (k : ℕ). turns_from 0 k rest) (omega (arith, frame_some turn, length-drop 1 (frame turn)))
    )

-- frames one after the other
turns_on : (turns : List Turn) (offset : ℕ) (rest : List ℕ) → All IsTurn turns → offset + length (frames turns) ≤ input_limit
    → turns_from 0 offset (frames turns ++ rest) ≡ with_turns turns (turns_from 0 (offset + length (frames turns)) rest)
turns_on [] offset rest are within = ap (λ (k : ℕ). turns_from 0 k rest) (omega arith)
turns_on (turn ∷ turns) offset rest are within =
    let some = frame_some turn in
    let long = length-append (frame turn) (frames turns) in
    ap (λ (l : List ℕ). turns_from 0 offset l) (append_assoc (frame turn) (frames turns) rest)
    ∙ turns_next turn offset (frames turns ++ rest) (All-head IsTurn turn turns are) (omega (arith, within, some, long))
    ∙ ap (λ (t : Turns). with_turn turn t) (
    turns_on turns (offset + length (frame turn)) rest (All-tail IsTurn turn turns are) (omega (arith, within, long))
    ∙ ap (λ (k : ℕ). with_turns turns (turns_from 0 k rest)) (omega (arith, long))
    )

pub frames_are_read : FramesAreRead
frames_are_read turns rest are within =
    turns_on turns 0 rest are (omega (arith, within)) ∙ ap (λ (k : ℕ). with_turns turns (turns_from 0 k rest)) (omega arith)

none_left : (k : ℕ) → turns_from 0 k [] ≡ ended_by None
unfolding turns_from
none_left k = refl

pub whole_frames_are_read : WholeFramesAreRead
whole_frames_are_read turns are within =
    ap turns_of (sym (append-nil (frames turns))) ∙ frames_are_read turns [] are within
    ∙ ap (λ (t : Turns). with_turns turns t) (none_left (length (frames turns))) ∙ ap (λ (l : List Turn). record { turns = l; fault = None }) (append-nil turns)

some_is : {X : Type 0} (x y : X) → Some x ≡ Some y → x ≡ y
some_is x y e = cc

pub frames_are_one : FramesAreOne
frames_are_one one other rest after is_one is_other same =
    let turn : one ≡ other = some_is one other (sym (frame_read one rest is_one) ∙ ap first_turn same ∙ frame_read other after is_other) in
    let split : frame one ++ rest ≡ frame one ++ after = same ∙ ap (λ (t : Turn). frame t ++ after) (sym turn) in (
      turn,
      sym (drop_at (frame one) rest (length (frame one)) refl) ∙ ap (λ (l : List ℕ). drop (length (frame one)) l) split
          ∙ drop_at (frame one) after (length (frame one)) refl,
    )

-- ---- each input
-- what the bytes are from an offset on
record IsFrom (offset : ℕ) (bytes : List ℕ) (read : Turns) : Type 0 where
  left : List ℕ
  bytes_are : bytes ≡ frames read.turns ++ left
  turns : All IsTurn read.turns
  fault : IsLeft read.fault (offset + length (frames read.turns)) left

nothing_more : (offset : ℕ) → IsFrom offset [] (ended_by None)
nothing_more offset = record { left = []; bytes_are = refl; turns = All-nil IsTurn; fault = refl }

too_long : (offset : ℕ) (b : ℕ) (bs : List ℕ) → input_limit ≤ offset → IsFrom offset (b ∷ bs) (ended_by (Some (InputTooLong offset)))
too_long offset b bs far = record { left = b ∷ bs; bytes_are = refl; turns = All-nil IsTurn; fault = (omega arith, λ e. cc, far) }

no_frame : (offset : ℕ) (b : ℕ) (bs : List ℕ) → first_turn (b ∷ bs) ≡ None → IsFrom offset (b ∷ bs) (ended_by (Some (NotFrame offset)))
no_frame offset b bs none = record {
  left = b ∷ bs;
  bytes_are = refl;
  turns = All-nil IsTurn;
  fault = (omega arith, λ e. cc, λ turn rest is same. let read = sym none ∙ ap first_turn same ∙ frame_read turn rest is in cc);
}

one_turn : (offset : ℕ) (turn : Turn) (rest : List ℕ) → IsTurn turn → (read : Turns) → IsFrom (offset + length (frame turn)) rest read
    → IsFrom offset (frame turn ++ rest) (with_turn turn read)
one_turn offset turn rest is read from = record {
  left = from.left;
  bytes_are = ap (λ (l : List ℕ). frame turn ++ l) from.bytes_are ∙ sym (append_assoc (frame turn) (frames read.turns) from.left);
  turns = All-cons IsTurn turn read.turns is from.turns;
  fault = subst (λ (k : ℕ). IsLeft read.fault k from.left) (omega (arith, length-append (frame turn) (frames read.turns))) from.fault;
}

spelled_from : (n offset : ℕ) (bytes : List ℕ) → length bytes ≤ n → IsFrom offset bytes (turns_from 0 offset bytes)
unfolding turns_from
spelled_from n offset [] short = nothing_more offset
spelled_from zero offset (b ∷ bs) short = absurd (omega (arith, short))
spelled_from (suc n) offset (b ∷ bs) short = by (first_turn (b ∷ bs)) refl (nat_le input_limit offset) refl (λ o bytes less. spelled_from n o bytes less)
  where
    after : Turn → Turns
    after t = turns_from (length (frame t) - 1) (offset + 1) bs

    by : (o : Option Turn) → first_turn (b ∷ bs) ≡ o → (t : Bool) → nat_le input_limit offset ≡ t
        → ((o : ℕ) (bytes : List ℕ) → length bytes ≤ n → IsFrom o bytes (turns_from 0 o bytes)) → IsFrom offset (b ∷ bs) (turns_at offset (first_turn
        (b ∷ bs)) after)
    by None is true far on = subst (λ r. IsFrom offset (b ∷ bs) r) (sym (ap (λ (o : Option Turn). turns_at offset o after) is ∙ rw far refl))
        (too_long offset b bs (leb-true _ _ far))
    by None is false near on = subst (λ r. IsFrom offset (b ∷ bs) r) (sym (ap (λ (o : Option Turn). turns_at offset o after) is ∙ rw near refl))
        (no_frame offset b bs is)
    by (Some turn) is true far on = subst (λ r. IsFrom offset (b ∷ bs) r) (sym (ap (λ (o : Option Turn). turns_at offset o after) is ∙ rw far refl))
        (too_long offset b bs (leb-true _ _ far))
    by (Some turn) is false near on =
        let back = frame_back (b ∷ bs) turn is in
        let rest = back.1 in
        let low : offset < input_limit = leb-false _ _ near in
        let less : length rest ≤ n = omega (arith, short, ap length back.2, length-append (frame turn) rest, frame_some turn) in
        let whole : turns_from 0 offset (b ∷ bs) ≡ with_turn turn (turns_from 0 (offset + length (frame turn)) rest) =
        ap (λ (l : List ℕ). turns_from 0 offset l) back.2 ∙ turns_next turn offset rest back.0 low in
        subst (λ (l : List ℕ). IsFrom offset l (turns_from 0 offset (b ∷ bs))) (sym back.2)
        (subst (λ (r : Turns). IsFrom offset (frame turn ++ rest) r) (sym whole)
        (one_turn offset turn rest back.0 (turns_from 0 (offset + length (frame turn)) rest) (on (offset + length (frame turn)) rest less)))

pub inputs_are_spelled : InputsAreSpelled
inputs_are_spelled input =
    let from = spelled_from (length input) 0 input (omega arith) in
    record {
      left = from.left;
      input_is = from.bytes_are;
      turns = from.turns;
      fault = subst (λ (k : ℕ). IsLeft (turns_of input).fault k from.left) (omega arith) from.fault;
    }
