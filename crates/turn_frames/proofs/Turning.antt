-- The next turn of what is unread.
use Rattle.std.proofs.Common.{◌≡◌, ℕ, ◌+◌, ◌-◌, ◌<◌, ◌≤◌, true, false, List, [], ◌∷◌, ◌++◌, length, drop}
use Rattle.std.proofs.Common.{None, Option, Some, refl, sym, ◌∙◌, ap, arith, append_assoc, length-append}
use Rattle.std.specs.Prelude.{nat_le}
use Rattle.std.specs.Fmt.{decimal}
use Rattle.std.proofs.lemmas.List.{drop_at}
use Rattle.std.proofs.lemmas.Bool.{le-leb}
use Rattle.std.proofs.lemmas.Bool.Decides.{nat_tests}
use Rattle.std.proofs.lemmas.Fmt.{length-decimal-le}
use Rattle.host_port.specs.Limits.{input_limit}
use Rattle.turn_frames.specs.declared.fault.TurnFault.TheVariants.{NotFrame, InputTooLong}
use Rattle.turn_frames.specs.Turns.{Turn, IsTurn, frame, first_turn, turns_at, turns_from, ended_by, with_turn}
use Rattle.turn_frames.specs.Reads.{most_frame}
use Rattle.turn_frames.proofs.Heads.{frame_back}
use Rattle.turn_frames.proofs.Reading.{turns_next, frame_some}
use Rattle.turn_frames.proofs.Looks.{name_shape}

-- past the limit
pub far_end : (offset : ℕ) (bytes : List ℕ) → 0 < length bytes → input_limit ≤ offset → turns_from 0 offset bytes ≡ ended_by (Some (InputTooLong offset))
unfolding turns_from
far_end offset [] some far = absurd (omega (arith, some))
far_end offset (b ∷ bs) some far = by (first_turn (b ∷ bs)) (le-leb input_limit offset far)
  where
    by : (o : Option Turn) → nat_le input_limit offset ≡ true
        → turns_at offset o (λ t. turns_from (length (frame t) - 1) (offset + 1) bs) ≡ ended_by (Some (InputTooLong offset))
    by None is = rw is refl
    by (Some turn) is = rw is refl

early : (offset : ℕ) → offset < input_limit → nat_le input_limit offset ≡ false
early offset near = grind (arith, nat_tests, near)

-- no frame begins there
pub broken_end : (offset : ℕ) (bytes : List ℕ) → 0 < length bytes → offset < input_limit → first_turn bytes ≡ None
    → turns_from 0 offset bytes ≡ ended_by (Some (NotFrame offset))
unfolding turns_from
broken_end offset [] some near none = absurd (omega (arith, some))
broken_end offset (b ∷ bs) some near none =
    ap (λ (o : Option Turn). turns_at offset o (λ t. turns_from (length (frame t) - 1) (offset + 1) bs)) none ∙ rw (early offset near) refl

pub empty_end : (offset : ℕ) → turns_from 0 offset [] ≡ ended_by None
unfolding turns_from
empty_end offset = refl

pub frame_short : (turn : Turn) → IsTurn turn → length (frame turn) ≤ most_frame
frame_short turn is =
    let number = decimal (length turn.bytes) in
    let digits : length number ≤ 8 = length-decimal-le 8 (length turn.bytes) (omega arith) (omega (arith, is.short)) (omega (arith, is.short)) in
    omega (
      arith,
      (name_shape turn.user is.named).1,
      digits,
      is.short,
      length-append turn.user (32 ∷ (number
          ++ 10 ∷ turn.bytes)),
      length-append number (10 ∷ turn.bytes),
    )

-- a whole frame is at hand
module _ (pending : List ℕ) (turn : Turn) (size : ℕ) (is : first_turn pending ≡ Some turn) (size_is : size ≡ length (frame turn)) where
  back : IsTurn turn × (rest : List ℕ) × (pending ≡ frame turn ++ rest)
  back = frame_back pending turn is

  pub whole_turn : IsTurn turn
  whole_turn = back.0

  pub whole_some : (1 ≤ size) × (size ≤ length pending) × (size ≤ most_frame)
  whole_some = (
    omega (arith, size_is, frame_some turn),
    omega (arith, size_is, ap length back.2, length-append (frame turn) back.1),
    omega
        (arith, size_is, frame_short turn back.0),
  )

  pub whole_next : (offset : ℕ) (left : List ℕ) → offset < input_limit
      → turns_from 0 offset (pending ++ left) ≡ with_turn turn (turns_from 0 (offset + size) (drop size pending ++ left))
  whole_next offset left near =
      let after : drop size pending ≡ back.1 = ap (λ (l : List ℕ). drop size l) back.2 ∙ drop_at (frame turn) back.1 size (sym size_is) in
      ap (λ (l : List ℕ). turns_from 0 offset (l ++ left)) back.2
      ∙ ap (λ (l : List ℕ). turns_from 0 offset l) (append_assoc (frame turn) back.1 left)
      ∙ turns_next turn offset (back.1 ++ left) back.0 near
      ∙ ap (λ (k : ℕ). with_turn turn (turns_from 0 (offset + k) (back.1 ++ left))) (sym size_is)
      ∙ ap (λ (l : List ℕ). with_turn turn (turns_from 0 (offset + size) (l ++ left))) (sym after)

-- where a reader stands, and where it began
pub same_turns : (first offset : ℕ) (unread bytes : List ℕ) → offset ≡ first → bytes ≡ unread → turns_from 0 first unread ≡ turns_from 0 offset bytes
same_turns first offset unread bytes at is = ap (λ (k : ℕ). turns_from 0 k unread) (sym at) ∙ ap (λ (l : List ℕ). turns_from 0 offset l) (sym is)

pub nothing_left : (bytes : List ℕ) → length bytes ≤ 0 → bytes ≡ []
nothing_left [] none = refl
nothing_left (b ∷ bs) none = absurd (omega (arith, none))
