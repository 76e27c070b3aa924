-- What a command is answered, and the event that it makes.
use Rattle.std.specs.Prelude.{ℕ, ◌&&◌, nat_le, List, [], Bool, true, false, length, Option, Some, None, if◌then◌else◌}
use Rattle.commit_journal.specs.Journal.{most_bytes, fit_of}
use Rattle.commit_journal.specs.declared.fit.Fit.{Fit}
use Rattle.commit_journal.specs.declared.fit.Fit.TheVariants.{Yes, TooLarge, Full}
use Rattle.op_form.specs.declared.event.Event.{Event}
use Rattle.op_form.specs.Events.{event_encoding}
use Rattle.op_form.specs.Formed.{is_event}
use Rattle.script_lang.specs.declared.reply.Refusal.{Refusal}
use Rattle.script_lang.specs.declared.reply.Refusal.TheVariants as refusals
use Rattle.script_lang.specs.declared.reply.Last.{Last}
use Rattle.script_lang.specs.declared.reply.Last.TheVariants as last
use Rattle.script_lang.specs.declared.reply.Reply.{Reply}
use Rattle.plain_repository.specs.State.{State}

-- a reply, and the event or none
pub record Decision : Type 0 where
  pub reply : Reply
  pub event : Option Event

-- a refusal with data lines, which makes no event
abbrev pub refused_with : List (List ℕ) → Refusal → Decision
refused_with lines refusal = record { reply = record { lines = lines; last = last.No refusal }; event = None }

-- a refusal without any
abbrev pub refused : Refusal → Decision
refused refusal = refused_with [] refusal

-- an answer that changes nothing
abbrev pub told : List (List ℕ) → List ℕ → Decision
told lines words = record { reply = record { lines = lines; last = last.Ok words }; event = None }

-- an answer, with the event that the command makes
abbrev pub accepted : List (List ℕ) → List ℕ → Event → Decision
accepted lines words event = record { reply = record { lines = lines; last = last.Ok words }; event = Some event }

-- the most events of a journal
abbrev pub most_events : ℕ
most_events = 4294967295

-- the event has an encoding, of no more bytes than a record takes
abbrev pub fits_record : Event → Bool
fits_record event = is_event event && nat_le (length (event_encoding event)) most_bytes

-- the event is made where the journal has room for its record
abbrev pub by_fit : Fit → List (List ℕ) → List ℕ → Event → Decision
by_fit Yes lines words event = accepted lines words event
by_fit TooLarge lines words event = refused refusals.TooLarge
by_fit Full lines words event = refused refusals.JournalFull

-- the event is made where the history and the journal have room for it; one that has no encoding is too large
unfoldable pub with_room : State → List (List ℕ) → List ℕ → Event → Decision
with_room s lines words event =
    if nat_le most_events s.events then refused refusals.HistoryFull
    else if is_event event then by_fit (fit_of s.end (length (event_encoding event))) lines words event
    else refused refusals.TooLarge

-- the last line is a refusal
abbrev pub ends_refused : Last → Bool
ends_refused (last.Ok words) = false
ends_refused (last.No refusal) = true

-- the reply is a refusal
abbrev pub is_refusal : Reply → Bool
is_refusal reply = ends_refused reply.last
