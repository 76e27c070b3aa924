-- An event that could be made is what its own line is answered with.
use Rattle.std.specs.Prelude.{◌≡◌, ◌^◌, ◌<◌, true, false, Some, IsTrue}
use Rattle.host_port.specs.Cut.{Item}
use Rattle.printed_items.specs.Printed.{MayStand}
use Rattle.op_form.specs.declared.event.Event.{Event}
use Rattle.replay_script.specs.Lines.{item_again}
use Rattle.replay_script.specs.Printable.{is_known, is_too_long, is_not_printable}
use Rattle.plain_repository.specs.State.{State}
use Rattle.plain_repository.specs.Events.{play, playable}
use Rattle.plain_repository.specs.Orderly.{IsOrderly}
use Rattle.plain_repository.specs.Lines.{takes_block}
use Rattle.plain_repository.specs.Repository.{decide}

-- An event that could be made in a state in order, and that a script can hold. The store ends below 2^40 after it.
pub record MayBeMadeAgain (s : State) (event : Event) : Type 0 where
  pub orderly : IsOrderly s
  pub could : IsTrue (playable s event)
  pub short : is_too_long event ≡ false
  pub printable : is_not_printable s.history event ≡ false
  pub stored : (play s event).end < 2 ^ 40

-- the item is cut out of a script as it is, and is answered with just that event, and no refusal
pub record Remakes (s : State) (item : Item) (event : Event) : Type 0 where
  pub stands : MayStand takes_block item
  pub makes : (decide s item).event ≡ Some event
  pub accepts : (decide s item).refused ≡ false

-- such an event is what its line is answered with
abbrev pub EventsAreMadeAgain : Type 0
EventsAreMadeAgain = (s : State) (event : Event) → MayBeMadeAgain s event → Remakes s (item_again s.history event) event

-- the line of an event that could be made names what is there
abbrev pub NothingIsUnknown : Type 0
NothingIsUnknown = (s : State) (event : Event) → IsTrue (playable s event) → is_known s.history event ≡ true
