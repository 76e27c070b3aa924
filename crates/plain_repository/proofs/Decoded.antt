-- Bytes that are an event's, and bytes that are none.
use Rattle.std.proofs.Common.{◌≡◌, ℕ, List, Ok, Err, ◌∙◌, ap, subst, false}
use Rattle.std.specs.Prelude.{IsTrue}
use Rattle.byte_form.specs.Laws.{AreBytes}
use Rattle.op_form.specs.declared.event.Event.{Event}
use Rattle.op_form.specs.Events.{event_encoding}
use Rattle.op_form.specs.Formed.{IsEvent}
use Rattle.op_reading.specs.declared.fault.FormFault.{FormFault}
use Rattle.op_reading.specs.Events.{event_at, whole_of}
use Rattle.op_reading.proofs.Codes.{whole_again, whole_spelled}
use Rattle.op_reading.proofs.EventCodes.{event_codes}
use Rattle.plain_repository.specs.State.{State}
use Rattle.plain_repository.specs.Events.{playable}
use Rattle.plain_repository.proofs.Encodings.{playable_is_event}

-- bytes that are read as an event spell it
pub decoded : (bytes : List ℕ) (event : Event) → AreBytes bytes → whole_of event_at bytes ≡ Ok event → IsEvent event × (bytes ≡ event_encoding event)
decoded bytes event are is = whole_spelled event_codes bytes are event is

-- bytes that are read as no event are those of none that could be made
pub none_spelled : (s : State) (bytes : List ℕ) (fault : FormFault) → whole_of event_at bytes ≡ Err fault
    → (event : Event) → IsTrue (playable s event) → bytes ≡ event_encoding event → ⊥
none_spelled s bytes fault is event could bytes_are =
    let again = whole_again event_codes event (playable_is_event s event could) in
    let read : whole_of event_at bytes ≡ Ok event = ap (λ (b : List ℕ). whole_of event_at b) bytes_are ∙ again in
    absurd cc

-- bytes that are read as an event that could not be made are those of none that could
pub other_spelled : (s : State) (bytes : List ℕ) (found : Event) → whole_of event_at bytes ≡ Ok found
    → playable s found ≡ false → (event : Event) → IsTrue (playable s event) → bytes ≡ event_encoding event → ⊥
other_spelled s bytes found is cannot event could bytes_are =
    let again = whole_again event_codes event (playable_is_event s event could) in
    let read : whole_of event_at bytes ≡ Ok event = ap (λ (b : List ℕ). whole_of event_at b) bytes_are ∙ again in
    let same : found ≡ event = cc in
    let no : playable s event ≡ false = subst (λ (e : Event). playable s e ≡ false) same cannot in
    absurd cc
