-- A decision of the repository in memory, beside the plain repository's.
use Rattle.std.specs.Prelude.{◌≡◌, true, ℕ, ◌<◌, ◌-◌, ◌^◌, List, length, Option, Some, None, IfSome, IsTrue}
use Rattle.commit_journal.specs.Journal.{RecordFits}
use Rattle.history_tree.specs.declared.version.Signature.{Signature}
use Rattle.model_state.specs.Names.{is_name}
use Rattle.op_form.specs.declared.event.Event.{Event}
use Rattle.op_form.specs.Events.{event_encoding}
use Rattle.plain_repository.specs.State.{State}
use Rattle.plain_repository.specs.Events.{playable}
use Rattle.plain_repository.specs.Answers as plain
use Rattle.event_play.specs.Foreseen.{IsForeseen}
use Rattle.repo_answers.specs.declared.deciding.answers.Decision.{Decision}
use Rattle.repo_answers.specs.declared.deciding.answers.Made.{Made}

-- the event of a decision
abbrev pub event_of : Option Made → Option Event
event_of None = None
event_of (Some made) = Some made.event

-- a decision as the plain repository has it
abbrev pub plain_decision : Decision → plain.Decision
plain_decision decision = record { reply = decision.reply; event = event_of decision.made }

-- an event that can be made on a state has its bytes beside it, and what is foreseen of it there; the journal has room for them
pub record CanMake (state : State) (made : Made) : Type 0 where
  pub form_is : made.form.items ≡ event_encoding made.event
  pub playable : IsTrue (playable state made.event)
  pub fits : RecordFits state.end (length (event_encoding made.event))
  pub foreseen : IsForeseen state made.event made.foreseen

-- such an event, or none
abbrev pub CanMakeIt : State → Option Made → Type 0
CanMakeIt state None = Unit {0}
CanMakeIt state (Some made) = CanMake state made

-- the author of a signature, where there is one, has the form of a name
abbrev pub IsAuthor : Option Signature → Type 0
IsAuthor signature = IfSome signature (λ x. is_name x.author ≡ true)

-- the text of a block is short enough for a metamodel to be read from it
abbrev pub IsShortBlock : Option (List ℕ) → Type 0
IsShortBlock block = IfSome block (λ text. length text < 2 ^ 32 - 1)
