-- How an event enters the store, at each moment and at the end.
use Rattle.std.proofs.Common.{◌≡◌, inl, inr, ⊎_elim, ℕ, List, [], ◌∷◌, ◌++◌, length, take, Option, Some, None, refl, sym, ◌∙◌, ap, subst}
use Rattle.std.specs.Prelude.{IsTrue, IsSome, map}
use Rattle.std.proofs.lemmas.List.{append-nil}
use Rattle.host_port.specs.Host.{Told, Disk, MayLeave, Throughout, KeepsDisk, KeepsSaid, AddsPart, disk_now, said_now, CrashLeaves}
use Rattle.host_port.proofs.Course.{still_disk}
use Rattle.page_pool.specs.Frames.{Frames}
use Rattle.page_pool.specs.Paged.{PagedState}
use Rattle.commit_journal.specs.Journal.{StandsFor, IsJournalAtRest, IsBeforeOrAfter, RecordFits, HoldsRecord}
use Rattle.commit_journal.proofs.Torn.{left_stable}
use Rattle.commit_journal.proofs.Ends.{stands}
use Rattle.command_runs.specs.Runs.{listed}
use Rattle.command_runs.specs.Crashes.{IsStepping}
use Rattle.command_runs.proofs.RunLaws.{played-append}
use Rattle.op_form.specs.declared.event.Event.{Event}
use Rattle.op_form.specs.Events.{event_encoding}
use Rattle.plain_repository.specs.State.{State, empty}
use Rattle.plain_repository.specs.Events.{play, playable, are_playable}
use Rattle.plain_repository.specs.Store.{StandsForEvents}
use Rattle.plain_repository.proofs.Stores.{map-more, playable-more}
use Rattle.store_session.specs.Session.{IsStoreOf, IsEntering, IsRecordOf}

pub rest_leaves : (disk : Disk) (state : State) (made : List Event) → IsStoreOf disk state made → CrashLeaves (λ x. StandsForEvents x made) disk
rest_leaves disk state made holds x left = record {
  forms = subst (λ (l : List ℕ). StandsFor l (map event_encoding made)) (sym (left_stable disk x holds.rests.journal.stable left))
      (stands disk.now (map event_encoding made) state.end holds.rests.journal.ends);
  playable = holds.rests.playable;
}

pub holds_stands : (disk : Disk) (state : State) (made : List Event) → IsStoreOf disk state made → StandsForEvents disk.now made
holds_stands disk state made holds =
    record { forms = stands disk.now (map event_encoding made) state.end holds.rests.journal.ends; playable = holds.rests.playable }

-- no record is ready where there is no event alone
pub none_ready : (pool : Frames) (state : State) (event : Option Event) (ready : Option PagedState) → ready ≡ None → IsRecordOf pool state event ready
    → event ≡ None
none_ready pool state None ready none is = refl
none_ready pool state (Some event) ready none is = let some = is.0.is in cc

-- where there is no event, no record is ready
pub ready_none : (pool : Frames) (state : State) (event : Option Event) (ready : Option PagedState) → event ≡ None → IsRecordOf pool state event ready
    → ready ≡ None
ready_none pool state None ready none is = is
ready_none pool state (Some event) ready none is = cc

-- a record is ready for an event alone
pub event_ready : (pool : Frames) (state : State) (event : Option Event) (ready : Option PagedState) → IsRecordOf pool state event ready
    → IsSome ready → IsSome event
event_ready pool state None ready is some = subst (λ (o : Option PagedState). IsSome o) is some
event_ready pool state (Some event) ready is some = refl

-- the event of a record that is ready
pub record IsOf (pool : Frames) (state : State) (event : Option Event) (prepared : PagedState) : Type 0 where
  pub made : Event
  pub event_is : event ≡ Some made
  pub holds : HoldsRecord pool prepared (event_encoding made)
  pub playable : IsTrue (playable state made)
  pub fits : RecordFits state.end (length (event_encoding made))

pub some_ready : (pool : Frames) (state : State) (event : Option Event) (ready : Option PagedState) (prepared : PagedState) → ready ≡ Some prepared
    → IsRecordOf pool state event ready → IsOf pool state event prepared
some_ready pool state None ready prepared some is = let none : ready ≡ None = is in absurd cc
some_ready pool state (Some event) ready prepared some is =
    let there = is.0.is in
    let same : is.0.prepared ≡ prepared = cc in
    record {
      made = event;
      event_is = refl;
      holds = subst (λ (p : PagedState). HoldsRecord pool p (event_encoding event)) same is.0.holds;
      playable =
          is.1;
      fits = is.2;
    }

-- no event
pub none_added : (disk : Disk) (state : State) (made : List Event) → IsStoreOf disk state made → IsStoreOf disk state (made ++ [])
none_added disk state made holds = subst (λ (l : List Event). IsStoreOf disk state l) (sym (append-nil made)) holds

pub none_entering : (a : Told) (state : State) (made : List Event) → IsStoreOf (disk_now a) state made → Throughout a a (λ disk said. IsEntering made None disk)
none_entering a state made holds told t low high x left =
    inl (rest_leaves (disk_now a) state made holds x (subst (λ d. MayLeave d x) (still_disk a told t low high) left))

-- no call at all
pub still_entering : (a : Told) (state : State) (made : List Event) (event : Option Event) → IsStoreOf (disk_now a) state made
    → Throughout a a (λ disk said. IsEntering made event disk)
still_entering a state made event holds told t low high x left =
    inl (rest_leaves (disk_now a) state made holds x (subst (λ d. MayLeave d x) (still_disk a told t low high) left))

module _ (a b : Told) (state : State) (made : List Event) (event : Event) (can : IsTrue (playable state event))
    (holds : IsStoreOf (disk_now a) state made) where
  could : IsTrue (are_playable empty (made ++ event ∷ []))
  could = playable-more empty made event holds.rests.playable (subst (λ (s : State). IsTrue (playable s event)) holds.state_is can)

  pub event_added : (disk : Disk) (next : State) (end_next : ℕ) (bytes : List ℕ) → bytes ≡ event_encoding event → next ≡ play state event
      → next.end ≡ end_next → IsJournalAtRest disk (map event_encoding made ++ bytes ∷ []) end_next
      → IsStoreOf disk next (made ++ event ∷ [])
  event_added disk next end_next bytes bytes_is next_is end_is rest = record {
    rests = record {
      journal = subst (λ (n : ℕ). IsJournalAtRest disk (map event_encoding (made ++ event ∷ [])) n) (sym end_is)
          (subst (λ (l : List (List ℕ)). IsJournalAtRest disk l end_next)
          (ap (λ (l : List ℕ). map event_encoding made ++ l ∷ []) bytes_is ∙ sym (map-more made event)) rest);
      playable = could;
    };
    state_is = next_is ∙ ap (λ (s : State). play s event) holds.state_is ∙ sym (played-append play empty made (event ∷ []));
  }

  pub event_entering : (bytes : List ℕ) → bytes ≡ event_encoding event
      → Throughout a b (λ disk said. CrashLeaves (IsBeforeOrAfter (map event_encoding made) bytes) disk)
      → Throughout a b (λ disk said. IsEntering made (Some event) disk)
  event_entering bytes bytes_is moments told t low high x left =
      ⊎_elim
      (λ old. inl (record { forms = old; playable = holds.rests.playable }))
      (λ new. inr (record {
        forms =
            subst (λ (l : List (List ℕ)). StandsFor x l)
            (ap (λ (l : List ℕ). map event_encoding made ++ l ∷ []) bytes_is ∙ sym (map-more made event)) new;
        playable = could;
      }))
      (moments told t low high x left)

-- the moments of a command
module _ (a b : Told) (state : State) (made : List Event) (event : Option Event) where
  -- nothing is written or printed
  pub quiet_step : IsStoreOf (disk_now a) state made → KeepsDisk a b → KeepsSaid a b → Throughout a b (IsStepping StandsForEvents made event (said_now a))
  quiet_step holds disk said told t low high x left =
      inl (rest_leaves (disk_now a) state made holds x (subst (λ d. MayLeave d x) (disk told t low high) left), said told t low high)

  -- the event is written
  pub entering_step : Throughout a b (λ disk said. IsEntering made event disk) → KeepsSaid a b
      → Throughout a b (IsStepping StandsForEvents made event (said_now a))
  entering_step moments said told t low high x left = ⊎_elim (λ old. inl (old, said told t low high)) (λ new. inr new) (moments told t low high x left)

  -- the reply is printed
  pub say_step : (before : List ℕ) → IsStoreOf (disk_now a) state (made ++ listed event) → KeepsDisk a b
      → Throughout a b (IsStepping StandsForEvents made event before)
  say_step before holds disk told t low high x left =
      inr (rest_leaves (disk_now a) state (made ++ listed event) holds x (subst (λ d. MayLeave d x) (disk told t low high) left))

-- the bytes printed after calls that printed none
pub say_part : (a b : Told) (before bytes reply : List ℕ) → bytes ≡ reply → (IsTrue a.tells → said_now a ≡ before)
    → Throughout a b (λ disk said. AddsPart (said_now a) bytes said) → Throughout a b (λ disk said. AddsPart before reply said)
say_part a b before bytes reply is same part told t low high =
    let p = part told t low high in
    (p.0, p.1 ∙ ap (λ (l : List ℕ). l ++ take p.0 bytes) (same told) ∙ ap (λ (l : List ℕ). before ++ take p.0 l) is)
