-- Runs of a program over the items of a script, each decided on the state that the events before it leave.
use Rattle.std.specs.Prelude.{ℕ, ◌-◌, ◌==◌, ◌+◌, List, [], ◌∷◌, ◌++◌, Bool, false, ◌||◌, Option, Some, None, length, if◌then◌else◌}
use Rattle.host_port.specs.Cut.{Item}

-- what an item is answered with: the bytes of the reply, whether it is a refusal, and the event, if it makes one
pub record Answer (E : Type 0) : Type 0 where
  pub reply : List ℕ
  pub refused : Bool
  pub event : Option E

-- an event or none, as a list
abbrev pub listed : {E : Type 0} → Option E → List E
listed None = []
listed (Some e) = e ∷ []

-- the state after some events
abbrev pub played : {S E : Type 0} → (S → E → S) → S → List E → S
played play s [] = s
played play s (e ∷ es) = played play (play s e) es

-- the state after one event or none
abbrev pub after : {S E : Type 0} → (S → E → S) → S → Option E → S
after play s event = played play s (listed event)

-- what the items are answered with
abbrev pub answers : {S E : Type 0} → (S → Item → Answer E) → (S → E → S) → S → List Item → List (Answer E)
answers decide play s [] = []
answers decide play s (item ∷ items) = decide s item ∷ answers decide play (after play s (decide s item).event) items

-- what is printed with some answers
abbrev pub replies : {E : Type 0} → List (Answer E) → List ℕ
replies [] = []
replies (answer ∷ answers) = answer.reply ++ replies answers

-- which events some answers make
abbrev pub events : {E : Type 0} → List (Answer E) → List E
events [] = []
events (answer ∷ answers) = listed answer.event ++ events answers

-- is one of some answers a refusal
abbrev pub refuses : {E : Type 0} → List (Answer E) → Bool
refuses [] = false
refuses (answer ∷ answers) = answer.refused || refuses answers

-- How many events must be kept once n bytes are printed: those of each answer that was begun by then. An answer without a
-- reply is begun with the next that has one.
abbrev pub events_due : {E : Type 0} → List (Answer E) → ℕ → ℕ
events_due [] n = 0
events_due (answer ∷ answers) n = if n == 0 then 0 else length (listed answer.event) + events_due answers (n - length answer.reply)
