-- What a reader of turns has done.
use Rattle.std.specs.Prelude.{◌≡◌, ℕ, ◌+◌, ◌<◌, ◌≤◌, List, ◌++◌, length, Option, Some, None, Result, Ok, Err}
use Rattle.turn_frames.specs.declared.fault.TurnFault.{TurnFault}
use Rattle.turn_frames.specs.declared.fault.TurnFault.TheVariants as faults
use Rattle.turn_frames.specs.declared.turn.Front.{Front}
use Rattle.turn_frames.specs.declared.turn.Front.TheVariants.{Whole, Part, Broken}
use Rattle.turn_frames.specs.Turns.{Turn, Turns, frame, first_turn, ended_by, with_turn, most_turn_bytes}

-- the most bytes of a frame: of a name, a space, 8 digits, a line feed and a turn
abbrev pub most_frame : ℕ
most_frame = 74 + most_turn_bytes

-- what bytes begin with: a whole frame, a part of one at most, or none, whatever comes after them
abbrev pub LooksLike : Front → List ℕ → Type 0
LooksLike (Whole turn size) bytes = (first_turn bytes ≡ Some turn) × (size ≡ length (frame turn))
LooksLike Part bytes = (first_turn bytes ≡ None) × (length bytes ≤ most_frame)
LooksLike Broken bytes = (0 < length bytes) × ((more : List ℕ) → first_turn (bytes ++ more) ≡ None)

-- the fault ends the turns, or says nothing of the input
abbrev pub EndsTurns : TurnFault → Turns → Type 0
EndsTurns faults.Failed whole = Unit {0}
EndsTurns faults.Memory whole = Unit {0}
EndsTurns fault whole = whole ≡ ended_by (Some fault)

-- the next turn, with those that are left after it; or their end; or their fault
abbrev pub GotTurn : Result (Option Turn) TurnFault → Turns → Turns → Type 0
GotTurn (Ok (Some turn)) whole rest = whole ≡ with_turn turn rest
GotTurn (Ok None) whole rest = whole ≡ ended_by None
GotTurn (Err fault) whole rest = EndsTurns fault whole

-- what contracts see of a reader: the bytes at hand, and the offset of the first of them
pub record Unread : Type 0 where
  pub pending : List ℕ
  pub offset : ℕ
