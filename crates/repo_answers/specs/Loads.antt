-- The bytes of the event that a line `load` makes.
use Rattle.std.specs.Prelude.{◌≡◌, ℕ, List, [], length, Option, IsTrue}
use Rattle.commit_journal.specs.Journal.{RecordFits}
use Rattle.op_form.specs.declared.event.Event.{Event}
use Rattle.op_form.specs.Events.{event_encoding}
use Rattle.plain_repository.specs.State.{State}
use Rattle.plain_repository.specs.Answers.{accepted}
use Rattle.plain_repository.specs.Events.{playable}
use Rattle.plain_repository.specs.Repository.{decide_line}

-- where these bytes are those of an event that could be made, and the journal has room for them, the line with its block makes that event
abbrev pub MakesEventOf : List ℕ → Option (List ℕ) → List ℕ → Type 0
MakesEventOf line block form =
    (s : State) (event : Event) → IsTrue (playable s event) → form ≡ event_encoding event → RecordFits s.end (length form)
    → decide_line s line block ≡ accepted [] [] event
