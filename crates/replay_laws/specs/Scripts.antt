-- The script of a repository, by its events.
use Rattle.std.specs.Prelude.{ℕ, ◌&&◌, not, List, [], ◌∷◌, Bool, true}
use Rattle.host_port.specs.Cut.{Item}
use Rattle.printed_items.specs.Printed.{printed_items}
use Rattle.op_form.specs.declared.event.Event.{Event}
use Rattle.replay_script.specs.Lines.{item_again}
use Rattle.replay_script.specs.Printable.{is_too_long, is_not_printable}
use Rattle.plain_repository.specs.State.{State, empty}
use Rattle.plain_repository.specs.Events.{play}

-- the items of some events, each on the history that the events before it leave
abbrev pub items_again : State → List Event → List Item
items_again s [] = []
items_again s (event ∷ events) = item_again s.history event ∷ items_again (play s event) events

-- the script of a repository, by its events
abbrev pub script_again : List Event → List ℕ
script_again events = printed_items (items_again empty events)

-- each event can be printed, on the history that the events before it leave
abbrev pub are_printable : State → List Event → Bool
are_printable s [] = true
are_printable s (event ∷ events) = not (is_too_long event) && not (is_not_printable s.history event) && are_printable (play s event) events
