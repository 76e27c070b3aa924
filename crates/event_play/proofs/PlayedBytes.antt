-- What the bytes of an event that was read have made.
use Rattle.std.proofs.Common.{◌≡◌, ℕ, List, Result, Ok, Err, OnOk}
use Rattle.std.specs.Prelude.{IsTrue}
use Rattle.op_form.specs.declared.event.Event.{Event}
use Rattle.op_form.specs.Events.{event_encoding}
use Rattle.plain_repository.specs.State.{State}
use Rattle.plain_repository.specs.Events.{play, playable}
use Rattle.repo_state.specs.declared.fault.PlayFault.{PlayFault}

-- the event that was read was made
pub bytes_played : (r : Result (Unit {0}) PlayFault) (old new : State) (bytes : List ℕ) (e : Event) → bytes ≡ event_encoding e
    → OnOk r (IsTrue (playable old e)) → OnOk r (new ≡ play old e)
    → OnOk r ((event : Event) × IsTrue (playable old event) × (bytes ≡ event_encoding event) × (new ≡ play old event))
bytes_played (Ok x) old new bytes e is could made = (e, could, is, made)
bytes_played (Err f) old new bytes e is could made = tt
