-- What is printed of the events of a store.
use Rattle.std.specs.Prelude.{◌≡◌, ℕ, ◌+◌, ◌&&◌, not, List, [], ◌∷◌, ◌++◌, Bool, IsTrue, if◌then◌else◌}
use Rattle.printed_items.specs.Printed.{printed_item}
use Rattle.op_form.specs.declared.event.Event.{Event}
use Rattle.op_form.specs.Events.{event_encoding}
use Rattle.script_lang.specs.declared.reply.Refusal.{Refusal}
use Rattle.script_lang.specs.declared.reply.Refusal.TheVariants.{TooLong, NotPrintable}
use Rattle.script_lang.specs.declared.reply.Last.TheVariants.{No}
use Rattle.script_lang.specs.Reply.{printed}
use Rattle.replay_script.specs.Lines.{item_again}
use Rattle.replay_script.specs.Printable.{is_too_long, is_not_printable}
use Rattle.plain_repository.specs.State.{State}
use Rattle.plain_repository.specs.Events.{play, playable}

-- can a script hold the event
abbrev pub can_print : State → Event → Bool
can_print s event = not (is_too_long event) && not (is_not_printable s.history event)

-- why it can't, with the event's number, from 1
abbrev pub refusal_of : State → Event → Refusal
refusal_of s event = if is_too_long event then TooLong (s.events + 1) else NotPrintable (s.events + 1)

-- what is printed of an event, by the state before it: its lines, or the line that says why it has none
abbrev pub said_of : State → Event → List ℕ
said_of s event =
    if can_print s event then printed_item (item_again s.history event) else printed (record { lines = []; last = No (refusal_of s event) })

-- what is printed of events, one after another, up to the first that a script can't hold
abbrev pub said_of_all : State → List Event → List ℕ
said_of_all s [] = []
said_of_all s (event ∷ events) = said_of s event ++ (if can_print s event then said_of_all (play s event) events else [])

-- the event could be made on the first state, and makes the second of it
pub record IsPlayedEvent (after before : State) (event : Event) : Type 0 where
  pub could : IsTrue (playable before event)
  pub state_is : after ≡ play before event

-- the bytes are those of an event that could be made, and the state is that after it
pub record IsPlayed (after : State) (bytes : List ℕ) : Type 0 where
  pub before : State
  pub event : Event
  pub spelled : bytes ≡ event_encoding event
  pub made : IsPlayedEvent after before event
