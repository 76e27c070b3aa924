-- Runs of turns, over any commands: each turn's script is answered by a rule that goes by its user, on the state that the turns before it leave.
use Rattle.std.specs.Prelude.{ℕ, List, [], ◌∷◌, ◌++◌, false, Option, None, Some}
use Rattle.host_port.specs.Cut.{Item, Script}
use Rattle.host_port.specs.declared.lines.LineFault.{LineFault}
use Rattle.command_runs.specs.Runs.{Answer, answers, events, played}
use Rattle.turn_frames.specs.Turns.{Turn}

-- the mark after a turn's answers: an empty line
abbrev pub mark : {E : Type 0} → Answer E
mark = record { reply = 10 ∷ []; refused = false; event = None }

-- what ends the answers to a turn: what is said of its script's fault, and the mark
abbrev pub closing : {E : Type 0} → (LineFault → Answer E) → Option LineFault → List (Answer E)
closing said None = mark ∷ []
closing said (Some fault) = said fault ∷ mark ∷ []

-- how turns are answered: each item by a user's rule, and a script's fault
pub record Manner (S E : Type 0) : Type 0 where
  pub rule : List ℕ → S → Item → Answer E
  pub play : S → E → S
  pub script : List ℕ → Script
  pub said : LineFault → Answer E

-- the answers to a turn: those to its script's items, and what ends them
abbrev pub turn_answers : {S E : Type 0} → Manner S E → S → Turn → List (Answer E)
turn_answers manner s turn =
    answers (manner.rule turn.user) manner.play s (manner.script turn.bytes).items ++ closing manner.said (manner.script turn.bytes).fault

-- the answers to turns, each on the state that those before it leave
abbrev pub turns_answers : {S E : Type 0} → Manner S E → S → List Turn → List (Answer E)
turns_answers manner s [] = []
turns_answers manner s (turn ∷ turns) =
    turn_answers manner s turn ++ turns_answers manner (played manner.play s (events (turn_answers manner s turn))) turns

-- the answers that are left within a turn, by what is left of its script, and those to the turns after it
abbrev pub in_turn : {S E : Type 0} → Manner S E → List ℕ → S → Script → List Turn → List (Answer E)
in_turn manner user s left rest =
    answers (manner.rule user) manner.play s left.items ++ (closing manner.said left.fault
    ++ turns_answers manner (played manner.play s (events (answers (manner.rule user) manner.play s left.items))) rest)
