-- What events make of a state.
use Rattle.std.proofs.Common.{◌≡◌, ◌+◌, length, refl}
use Rattle.op_form.specs.declared.event.Event.{Event}
use Rattle.op_form.specs.Events.{event_encoding}
use Rattle.plain_repository.specs.State.{State}
use Rattle.plain_repository.specs.Events.{play}

pub play_end : (s : State) (event : Event) → (play s event).end ≡ s.end + 5 + length (event_encoding event)
unfolding play
play_end s event = refl
