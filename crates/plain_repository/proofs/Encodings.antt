-- The bytes of an event that could be made say which it is.
use Rattle.std.proofs.Common.{◌≡◌, ℕ, ◌≤◌, nat_le, length-append, List, [], ◌∷◌, Bool, true, false, ◌&&◌, nat_lt, length, refl, sym, ◌∙◌, ap, subst}
use Rattle.std.proofs.Common.{arith, append-nil}
use Rattle.std.specs.Prelude.{IsTrue, map, not}
use Rattle.std.proofs.lemmas.Bool.{leb-true}
use Rattle.byte_form.proofs.FieldLemmas.{apart}
use Rattle.byte_form.specs.Fields.{text_encoding, u32_encoding}
use Rattle.commit_journal.specs.Journal.{most_bytes}
use Rattle.op_form.specs.declared.event.Event.{Event}
use Rattle.op_form.specs.declared.event.Event.TheVariants.{Init, Evolve}
use Rattle.op_form.specs.Events.{event_encoding}
use Rattle.op_reading.specs.Events.{event_at}
use Rattle.op_form.specs.Formed.{IsEvent, is_event}
use Rattle.op_form.proofs.FormedLaws.{is_event_is}
use Rattle.op_reading.proofs.EventCodes.{event_codes}
use Rattle.plain_repository.specs.State.{State}
use Rattle.plain_repository.specs.Answers.{fits_record, most_events}
use Rattle.plain_repository.specs.Events.{play, playable, playable_with, suits, are_playable}

pub and_left : (a b : Bool) → IsTrue (a && b) → IsTrue a
and_left true b both = refl
and_left false b both = both

pub and_right : (a b : Bool) → IsTrue (a && b) → IsTrue b
and_right true b both = both
and_right false b both = absurd cc

pub not_so : (b : Bool) → not b ≡ true → b ≡ false
not_so true is = absurd cc
not_so false is = refl

-- a text is shorter than the event of it
pub text_shorter : (text : List ℕ) → length text ≤ length (event_encoding (Init text))
unfolding event_encoding text_encoding
text_shorter text = omega (arith, length-append (u32_encoding (length text)) text)

pub fitting : (s : State) (e : Event) → IsTrue (playable s e) → IsTrue (fits_record e)
unfolding playable
fitting s e could =
    let room : Bool = nat_lt s.events most_events in
    and_right room (fits_record e)
    (and_left (room && fits_record e) (suits s.upgraded e) (and_left (room && fits_record e && suits s.upgraded e) (playable_with s s.meta e) could))

pub evolve_text_shorter : (text : List ℕ) → length text ≤ length (event_encoding (Evolve text))
unfolding event_encoding text_encoding
evolve_text_shorter text = omega (arith, length-append (u32_encoding (length text)) text)

-- an event that could be made suits the store
pub suiting : (s : State) (e : Event) → IsTrue (playable s e) → IsTrue (suits s.upgraded e)
unfolding playable
suiting s e could =
    let fits : Bool = nat_lt s.events most_events && fits_record e in
    and_right fits (suits s.upgraded e) (and_left (fits && suits s.upgraded e) (playable_with s s.meta e) could)

-- the bytes of an event that could be made fit a record
pub playable_short : (s : State) (e : Event) → IsTrue (playable s e) → length (event_encoding e) ≤ most_bytes
playable_short s e could =
    leb-true (length (event_encoding e)) most_bytes (and_right (is_event e) (nat_le (length (event_encoding e)) most_bytes) (fitting s e could))

-- an event that could be made has a spelling
pub playable_is_event : (s : State) (e : Event) → IsTrue (playable s e) → IsEvent e
playable_is_event s e could = is_event_is e (and_left (is_event e) (nat_le (length (event_encoding e)) most_bytes) (fitting s e could))

-- an event that could be made is known by its bytes
pub form_is : (s t : State) (a b : Event) → IsTrue (playable s a) → IsTrue (playable t b) → event_encoding a ≡ event_encoding b → a ≡ b
form_is s t a b first second is =
    apart IsEvent event_encoding event_at event_codes.again a b (playable_is_event s a first) (playable_is_event t b second) [] []
    (append-nil (event_encoding a) ∙ is ∙ sym (append-nil (event_encoding b)))

-- so are events that could be made one after the other
pub forms_are : (s : State) (a b : List Event) → IsTrue (are_playable s a) → IsTrue (are_playable s b) → map event_encoding a ≡ map event_encoding b → a ≡ b
forms_are s [] [] first second is = refl
forms_are s [] (y ∷ ys) first second is = absurd cc
forms_are s (x ∷ xs) [] first second is = absurd cc
forms_are s (x ∷ xs) (y ∷ ys) first second is =
    let head : event_encoding x ≡ event_encoding y = cc in
    let tail : map event_encoding xs ≡ map event_encoding ys = cc in
    let same : x ≡ y = form_is s s x y (and_left _ _ first) (and_left _ _ second) head in
    ap (λ (e : Event). e ∷ xs) same
    ∙ ap (λ (l : List Event). y ∷ l)
    (forms_are (play s y) xs ys (subst (λ (e : Event). IsTrue (are_playable (play s e) xs)) same (and_right _ _ first)) (and_right _ _ second) tail)
