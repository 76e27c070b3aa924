-- What is printed of events, one after another.
use Rattle.std.proofs.Common.{◌≡◌, ℕ, ◌+◌, ◌≤◌, ◌<◌, ◌&&◌, not, min, List, [], ◌∷◌, ◌++◌, Bool, true, false, if◌then◌else◌, length}
use Rattle.std.proofs.Common.{take, map, refl, sym, ◌∙◌, ap, subst, append_assoc, append-nil, arith}
use Rattle.std.specs.Prelude.{IsTrue}
use Rattle.std.proofs.lemmas.List.{length-take, take-append-le, take_min}
use Rattle.host_port.specs.Host.{AddsPart}
use Rattle.command_runs.specs.Runs.{played}
use Rattle.command_runs.proofs.Going.{take_past}
use Rattle.op_form.specs.declared.event.Event.{Event}
use Rattle.op_form.specs.Events.{event_encoding}
use Rattle.printed_items.specs.Printed.{printed_item, printed_items}
use Rattle.script_lang.specs.declared.reply.Last.TheVariants.{No}
use Rattle.script_lang.specs.Reply.{printed}
use Rattle.plain_repository.specs.State.{State}
use Rattle.plain_repository.specs.Events.{play, playable, are_playable}
use Rattle.plain_repository.proofs.Encodings.{and_left, and_right, form_is}
use Rattle.replay_script.specs.Lines.{item_again}
use Rattle.replay_laws.specs.Scripts.{items_again, are_printable}
use Rattle.store_replay.specs.Printing.{can_print, refusal_of, said_of, said_of_all}

-- the line that says why an event has none
abbrev none_of : State → Event → List ℕ
none_of s event = printed (record { lines = []; last = No (refusal_of s event) })

-- ---- by one test
held : (b : Bool) (lines none rest : List ℕ) → b ≡ true → (if b then lines else none) ++ (if b then rest else []) ≡ lines ++ rest
held b lines none rest is = rw is refl

not_held : (b : Bool) (lines none rest : List ℕ) → b ≡ false → (if b then lines else none) ++ (if b then rest else []) ≡ (if b then lines else none)
not_held b lines none rest is = rw is (append-nil none)

chosen : (b : Bool) (lines none : List ℕ) → b ≡ true → (if b then lines else none) ≡ lines
chosen b lines none is = rw is refl

both_true : (a b : Bool) → a ≡ true → b ≡ true → (a && b) ≡ true
both_true a b one two = rw one two

right_false : (a b : Bool) → b ≡ false → (a && b) ≡ false
right_false true b is = is
right_false false b is = refl

left_false : (a b : Bool) → a ≡ false → (a && b) ≡ false
left_false a b is = rw is refl

-- what is printed of an event that a script can hold
pub said_held : (s : State) (event : Event) → can_print s event ≡ true → said_of s event ≡ printed_item (item_again s.history event)
said_held s event print = chosen (can_print s event) (printed_item (item_again s.history event)) (none_of s event) print

-- ---- events that a script can hold, before others
pub said-front : (s : State) (made rest : List Event) → are_printable s made ≡ true
    → said_of_all s (made ++ rest) ≡ printed_items (items_again s made) ++ said_of_all (played play s made) rest
said-front s [] rest print = refl
said-front s (event ∷ made) rest print =
    let one = and_left (can_print s event) (are_printable (play s event) made) print in
    let more = said-front (play s event) made rest (and_right (can_print s event) (are_printable (play s event) made) print) in
    let lines = printed_item (item_again s.history event) in
    held (can_print s event) lines (none_of s event) (said_of_all (play s event) (made ++ rest)) one
    ∙ ap (λ (l : List ℕ). lines ++ l) more
    ∙ sym (append_assoc lines (printed_items (items_again (play s event) made)) (said_of_all (played play (play s event) made) rest))

-- after the first that a script can't hold nothing is printed
pub said-stop : (s : State) (event : Event) (rest : List Event) → can_print s event ≡ false → said_of_all s (event ∷ rest) ≡ said_of s event
said-stop s event rest print =
    not_held (can_print s event) (printed_item (item_again s.history event)) (none_of s event) (said_of_all (play s event) rest) print

-- one event more
pub script-more : (s : State) (made : List Event) (event : Event)
    → printed_items (items_again s (made ++ event ∷ [])) ≡ printed_items (items_again s made) ++ printed_item (item_again (played play s made).history event)
script-more s [] event = append-nil (printed_item (item_again s.history event))
script-more s (e ∷ made) event =
    let lines = printed_item (item_again s.history e) in
    ap (λ (l : List ℕ). lines ++ l) (script-more (play s e) made event)
    ∙ sym (append_assoc lines (printed_items (items_again (play s e) made)) (printed_item (item_again (played play (play s e) made).history event)))

pub printable-more : (s : State) (made : List Event) (event : Event) → are_printable s made ≡ true → can_print (played play s made) event ≡ true
    → are_printable s (made ++ event ∷ []) ≡ true
printable-more s [] event print can = both_true (can_print s event) true can refl
printable-more s (e ∷ made) event print can =
    both_true (can_print s e) (are_printable (play s e) (made ++ event ∷ [])) (and_left (can_print s e) (are_printable (play s e) made) print)
    (printable-more (play s e) made event (and_right (can_print s e) (are_printable (play s e) made) print) can)

-- one of them that a script can't hold
pub not-printable : (s : State) (made : List Event) (event : Event) (rest : List Event) → can_print (played play s made) event ≡ false
    → are_printable s (made ++ event ∷ rest) ≡ false
not-printable s [] event rest no_print = left_false (can_print s event) (are_printable (play s event) rest) no_print
not-printable s (e ∷ made) event rest no_print =
    right_false (can_print s e) (are_printable (play s e) (made ++ event ∷ rest)) (not-printable (play s e) made event rest no_print)

-- ---- a prefix
-- a part of what comes after a front, of all that there is to print
pub part_within : (old front bytes more all said : List ℕ) (n : ℕ) → all ≡ front ++ (bytes ++ more)
    → said ≡ (old ++ front) ++ take n bytes → AddsPart old all said
part_within old front bytes more all said n all_is said_is =
    let k = min n (length bytes) in
    let cut : take (length front + k) all ≡ front ++ take n bytes =
    ap (λ (l : List ℕ). take (length front + k) l) all_is
    ∙ take_past front (bytes ++ more) (length front + k) k refl
    ∙ ap (λ (l : List ℕ). front ++ l) (take-append-le k bytes more (omega arith) ∙ take_min n bytes) in
    (length front + k, said_is ∙ append_assoc old front (take n bytes) ∙ ap (λ (l : List ℕ). old ++ l) (sym cut))

-- ---- the events of a file
-- events that could be made, of which the encodings of others are the first, have these others first
pub first_events : (s : State) (events made : List Event) (more : List (List ℕ)) → IsTrue (are_playable s events) → IsTrue (are_playable s made)
    → map event_encoding events ≡ map event_encoding made ++ more → (rest : List Event) × (events ≡ made ++ rest)
first_events s events [] more could had is = (events, refl)
first_events s [] (m ∷ made) more could had is = absurd cc
first_events s (e ∷ events) (m ∷ made) more could had is =
    let front : event_encoding e ≡ event_encoding m = cc in
    let tail : map event_encoding events ≡ map event_encoding made ++ more = cc in
    let same : e ≡ m = form_is s s e m (and_left _ _ could) (and_left _ _ had) front in
    let had_rest : IsTrue (are_playable (play s e) made) =
    subst (λ (x : Event). IsTrue (are_playable (play s x) made)) (sym same) (and_right _ _ had) in
    let rest = first_events (play s e) events made more (and_right _ _ could) had_rest tail in
    (rest.0, (λ i. same i ∷ rest.1 i))
