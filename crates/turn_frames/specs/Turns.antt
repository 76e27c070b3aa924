-- Turns, and the frames that they come in.
use Rattle.std.specs.Prelude.{if◌then◌else◌}
use Rattle.std.specs.Prelude.{◌≡◌, ℕ, suc, zero, ◌+◌, ◌-◌, ◌≤◌, nat_le, true, List, [], ◌∷◌, ◌++◌, length, take, Option, Some, None}
use Rattle.std.specs.Fmt.{decimal}
use Rattle.std.specs.List.{before_first, after_first}
use Rattle.std.specs.Option.{option_and_then, option_map}
use Rattle.host_port.specs.Cut.{is_lf, is_ended, raw_line}
use Rattle.host_port.specs.Limits.{input_limit}
use Rattle.model_state.specs.Names.{is_name}
use Rattle.script_lang.specs.Words.{is_space, number_below}
use Rattle.turn_frames.specs.declared.fault.TurnFault.{TurnFault}
use Rattle.turn_frames.specs.declared.fault.TurnFault.TheVariants.{NotFrame, InputTooLong}

-- a turn: a user, and the bytes of a script of the user's
pub record Turn : Type 0 where
  pub user : List ℕ
  pub bytes : List ℕ

-- the most bytes of a turn
abbrev pub most_turn_bytes : ℕ
most_turn_bytes = 16777216

-- the user has a name, and the bytes are few enough
pub record IsTurn (turn : Turn) : Type 0 where
  pub named : is_name turn.user ≡ true
  pub short : length turn.bytes ≤ most_turn_bytes

-- ---- frames
-- a turn's frame: the user, a space, how many bytes there are, a line feed, and the bytes
abbrev pub frame : Turn → List ℕ
frame turn = turn.user ++ 32 ∷ (decimal (length turn.bytes) ++ 10 ∷ turn.bytes)

-- the frames of turns, one after the other
abbrev pub frames : List Turn → List ℕ
frames [] = []
frames (turn ∷ turns) = frame turn ++ frames turns

-- ---- reading them
-- a head: whose bytes follow, and how many
pub record Head : Type 0 where
  pub user : List ℕ
  pub count : ℕ

-- the head of a user, where that is a name and the count is there
abbrev pub headed : List ℕ → Option ℕ → Option Head
headed user count = if is_name user then option_map (λ n. record { user = user; count = n }) count else None

-- the head that a line is: a name, a space, and a number of bytes that a turn may have
abbrev pub head_of : List ℕ → Option Head
head_of line = headed (before_first is_space line) (number_below (most_turn_bytes + 1) (after_first is_space line))

-- the turn of a head and of what follows it, where all of its bytes are there
abbrev pub turn_of : List ℕ → Head → Option Turn
turn_of rest head = if nat_le head.count (length rest) then Some (record { user = head.user; bytes = take head.count rest }) else None

-- the turn whose frame the bytes begin with, where they begin with a whole frame
unfoldable pub first_turn : List ℕ → Option Turn
first_turn bytes = if is_ended bytes then option_and_then (turn_of (after_first is_lf bytes)) (head_of (raw_line bytes)) else None

-- the turns of an input, and what ends them: a fault, or the input's end
pub record Turns : Type 0 where
  pub turns : List Turn
  pub fault : Option TurnFault

-- no turn, and what ends them
abbrev pub ended_by : Option TurnFault → Turns
ended_by fault = record { turns = []; fault = fault }

-- one turn more before the others
abbrev pub with_turn : Turn → Turns → Turns
with_turn turn rest = record { turns = turn ∷ rest.turns; fault = rest.fault }

-- the turns that begin with this one at the offset, where there is one; no frame begins at an input's limit or later
abbrev pub turns_at : ℕ → Option Turn → (Turn → Turns) → Turns
turns_at offset None after = if nat_le input_limit offset then ended_by (Some (InputTooLong offset)) else ended_by (Some (NotFrame offset))
turns_at offset (Some turn) after = if nat_le input_limit offset then ended_by (Some (InputTooLong offset)) else with_turn turn (after turn)

-- The turns of the unread bytes, from an offset on. So many of the bytes still belong to the frame before.
unfoldable pub turns_from : ℕ → ℕ → List ℕ → Turns
turns_from n offset [] = ended_by None
turns_from zero offset (b ∷ bs) = turns_at offset (first_turn (b ∷ bs)) (λ turn. turns_from (length (frame turn) - 1) (offset + 1) bs)
turns_from (suc n) offset (b ∷ bs) = turns_from n (offset + 1) bs

-- the turns of an input
abbrev pub turns_of : List ℕ → Turns
turns_of input = turns_from 0 0 input
