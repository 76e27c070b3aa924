-- The script of events, run on the empty repository, makes them again: by the first event, and then by those after it.
use Rattle.std.proofs.Common.{◌≡◌, ◌+◌, ◌^◌, ◌<◌, ◌≤◌, ◌&&◌, ◌||◌, not, List, [], ◌∷◌, ◌++◌, length, Bool, false, Option, Some, refl, sym, ap, subst}
use Rattle.std.proofs.Common.{arith, ℕ, map, inl, inr, length-append}
use Rattle.std.specs.Prelude.{IsTrue}
use Rattle.std.specs.List.{AllByRecursion}
use Rattle.host_port.specs.Cut.{Item, Script}
use Rattle.command_runs.specs.Runs.{answers, events as made, refuses, played, listed, after}
use Rattle.commit_journal.specs.Journal.{record_of, records, StandsFor}
use Rattle.commit_journal.proofs.Ends.{length-record_of}
use Rattle.op_form.specs.declared.event.Event.{Event}
use Rattle.op_form.specs.Events.{event_encoding}
use Rattle.plain_repository.specs.State.{State, empty}
use Rattle.plain_repository.specs.Events.{play, playable, are_playable}
use Rattle.plain_repository.specs.Orderly.{IsOrderly}
use Rattle.plain_repository.proofs.Encodings.{and_left, and_right, not_so}
use Rattle.plain_repository.proofs.Kept.{empty_kept, play_keeps}
use Rattle.printed_items.specs.Printed.{MayStand}
use Rattle.printed_items.proofs.Cutting.{items_are_cut}
use Rattle.plain_repository.specs.Lines.{takes_block}
use Rattle.plain_repository.specs.Repository.{decide}
use Rattle.replay_script.specs.Lines.{item_again}
use Rattle.replay_laws.specs.Scripts.{items_again, are_printable}
use Rattle.replay_script.specs.Printable.{is_too_long, is_not_printable}
use Rattle.replay_laws.specs.Replay.{Replays, ScriptsReplay, StoresReplay}
use Rattle.replay_laws.specs.Remaking.{Remakes}
use Rattle.replay_laws.proofs.Remade.{next_end, events_are_made_again}

-- ---- room
-- the store only grows
grows : (s : State) (events : List Event) → s.end ≤ (played play s events).end
grows s [] = omega arith
grows s (event ∷ events) = omega (arith, next_end s event, grows (play s event) events)

-- ---- one event after another
record Goes (s : State) (events : List Event) : Type 0 where
  stand : AllByRecursion (MayStand takes_block) (items_again s events)
  same : made (answers decide play s (items_again s events)) ≡ events
  accepts : refuses (answers decide play s (items_again s events)) ≡ false

-- what an item is answered goes before what those after it are
same_front : (s : State) (event : Event) (events : List Event) (items : List Item) (o : Option Event) → o ≡ Some event
    → made (answers decide play (play s event) items) ≡ events
    → listed o ++ made (answers decide play (after play s o) items) ≡ event ∷ events
same_front s event events items o is same = rw is (ap (λ (es : List Event). event ∷ es) same)

no_refusal : (s : State) (event : Event) (items : List Item) (o : Option Event) (b : Bool) → o ≡ Some event → b ≡ false
    → refuses (answers decide play (play s event) items) ≡ false
    → (b || refuses (answers decide play (after play s o) items)) ≡ false
no_refusal s event items o b is accepts rest = rw (is, accepts) rest

goes : (s : State) (events : List Event) → IsOrderly s → IsTrue (are_playable s events) → IsTrue (are_printable s events)
    → (played play s events).end < 2 ^ 40 → Goes s events
goes s [] order could print stored = record { stand = tt; same = refl; accepts = refl }
goes s (event ∷ events) order could print stored =
    let first = and_left (playable s event) (are_playable (play s event) events) could in
    let front = and_left (not (is_too_long event) && not (is_not_printable s.history event)) (are_printable (play s event) events) print in
    let one : Remakes s (item_again s.history event) event = events_are_made_again s event (record {
      orderly = order;
      could = first;
      short = not_so (is_too_long event) (and_left (not (is_too_long event)) (not (is_not_printable s.history event)) front);
      printable = not_so (is_not_printable s.history event) (and_right (not (is_too_long event)) (not (is_not_printable s.history event)) front);
      stored = omega (arith, grows (play s event) events, stored);
    }) in
    let rest = goes (play s event) events (play_keeps s event first order) (and_right (playable s event) (are_playable (play s event) events) could)
    (and_right (not (is_too_long event) && not (is_not_printable s.history event)) (are_printable (play s event) events) print) stored in
    let items = items_again (play s event) events in
    let answer = decide s (item_again s.history event) in
    record {
      stand = (one.stands, rest.stand);
      same = same_front s event events items answer.event one.makes rest.same;
      accepts = no_refusal s event items answer.event answer.refused one.makes one.accepts rest.accepts;
    }

pub scripts_replay : ScriptsReplay
scripts_replay events may =
    let g = goes empty events empty_kept may.could may.printable may.stored in
    let cut = items_are_cut takes_block (items_again empty events) g.stand may.short in
    subst (λ (script : Script). Replays script events) (sym cut) (record { whole = refl; same = g.same; accepted = g.accepts })

-- ---- the events of a file
-- the store ends after the records of its events
ends_behind : (s : State) (events : List Event) → (played play s events).end ≡ s.end + length (records (map event_encoding events))
ends_behind s [] = omega arith
ends_behind s (event ∷ events) =
    let form = event_encoding event in
    let size : length (records (form ∷ map event_encoding events)) ≡ 5 + length form + length (records (map event_encoding events)) =
    omega (arith, length-append (record_of form) (records (map event_encoding events)), length-record_of form) in
    omega (arith, next_end s event, ends_behind (play s event) events, size)

none_of : (events : List Event) → map event_encoding events ≡ [] → events ≡ []
none_of [] is = refl
none_of (event ∷ events) is = absurd cc

stored_below : (file : List ℕ) (events : List Event) → StandsFor file (map event_encoding events) → (played play empty events).end < 2 ^ 40
stored_below file events (inl new) = rw (none_of events new.1) (omega arith)
stored_below file events (inr old) = omega (arith, ends_behind empty events, old.1.1.low, old.1.1.reads.offset_is)

pub stores_replay : StoresReplay
stores_replay file events stands print short =
    scripts_replay events (record { could = stands.playable; printable = print; stored = stored_below file events stands.forms; short = short })
