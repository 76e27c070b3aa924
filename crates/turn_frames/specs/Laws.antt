-- What holds of turns and the text of their frames.
use Rattle.std.specs.Prelude.{◌≡◌, ◌≢◌, ℕ, ◌≤◌, List, [], ◌++◌, All, length, Option, Some, None}
use Rattle.host_port.specs.Limits.{input_limit}
use Rattle.turn_frames.specs.declared.fault.TurnFault.{TurnFault}
use Rattle.turn_frames.specs.declared.fault.TurnFault.TheVariants.{NotFrame, InputTooLong, Failed, Memory}
use Rattle.turn_frames.specs.Turns.{Turn, Turns, IsTurn, frame, frames, turns_of, turns_from}

-- these turns before others
abbrev pub with_turns : List Turn → Turns → Turns
with_turns turns rest = record { turns = turns ++ rest.turns; fault = rest.fault }

-- frames are read as just their turns, and what stands after them is read as it is read alone
abbrev pub FramesAreRead : Type 0
FramesAreRead = (turns : List Turn) (rest : List ℕ) → All IsTurn turns → length (frames turns) ≤ input_limit
    → turns_of (frames turns ++ rest) ≡ with_turns turns (turns_from 0 (length (frames turns)) rest)

-- frames alone are read as just their turns, with no fault
abbrev pub WholeFramesAreRead : Type 0
WholeFramesAreRead = (turns : List Turn) → All IsTurn turns → length (frames turns) ≤ input_limit
    → turns_of (frames turns) ≡ record { turns = turns; fault = None }

-- no bytes begin with the frames of two turns
abbrev pub FramesAreOne : Type 0
FramesAreOne = (one other : Turn) (rest after : List ℕ) → IsTurn one → IsTurn other → frame one ++ rest ≡ frame other ++ after
    → (one ≡ other) × (rest ≡ after)

-- the bytes begin with no turn's frame
abbrev pub NoFrameBegins : List ℕ → Type 0
NoFrameBegins bytes = (turn : Turn) (rest : List ℕ) → IsTurn turn → bytes ≢ frame turn ++ rest

-- what is left of the input after the frames of its turns, which end at the offset
abbrev pub IsLeft : Option TurnFault → ℕ → List ℕ → Type 0
IsLeft None offset left = left ≡ []
IsLeft (Some (NotFrame at)) offset left = (at ≡ offset) × (left ≢ []) × NoFrameBegins left
IsLeft (Some (InputTooLong at)) offset left = (at ≡ offset) × (left ≢ []) × (input_limit ≤ at)
IsLeft (Some Failed) offset left = ⊥
IsLeft (Some Memory) offset left = ⊥

-- an input is the frames of its turns, and then what its fault says
pub record IsSpelled (input : List ℕ) (read : Turns) : Type 0 where
  pub left : List ℕ
  pub input_is : input ≡ frames read.turns ++ left
  pub turns : All IsTurn read.turns
  pub fault : IsLeft read.fault (length (frames read.turns)) left

-- each input is the frames of the turns that are read of it
abbrev pub InputsAreSpelled : Type 0
InputsAreSpelled = (input : List ℕ) → IsSpelled input (turns_of input)
