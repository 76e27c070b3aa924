-- How a replay ends, by the events that the file stands for.
use Rattle.std.proofs.Common.{◌≡◌, ◌≢◌, ◌⊎◌, inl, inr, ⊎_elim, ℕ, ◌<◌, List, [], ◌∷◌, ◌++◌, Bool, true, false, if◌then◌else◌, length, map, refl, sym}
use Rattle.std.proofs.Common.{◌∙◌, ap, subst, append_assoc, append-nil, arith}
use Rattle.std.specs.Prelude.{IsTrue}
use Rattle.host_port.specs.Host.{Told, MayLeave, GoesOn, Throughout, KeepsSaid, KeepsInput, AddsPart, Rose, disk_now, said_now}
use Rattle.host_port.proofs.Course.{adds_none, at_last, said_kept_now}
use Rattle.commit_journal.specs.Journal.{IsAtMostSynced, IsNoHeader, ReadsTo, StandsFor, StandsForSame, new_size}
use Rattle.command_runs.specs.Runs.{played}
use Rattle.op_form.specs.declared.event.Event.{Event}
use Rattle.op_form.specs.Events.{event_encoding}
use Rattle.plain_repository.specs.State.{State, empty}
use Rattle.plain_repository.specs.Events.{play, are_playable}
use Rattle.plain_repository.specs.Store.{StandsForEvents, StandsForNoEvents, IsDamaged}
use Rattle.plain_repository.proofs.Stores.{map-more, same_events}
use Rattle.replay_laws.specs.Scripts.{script_again, are_printable}
use Rattle.store_session.specs.declared.answered.SessionFault.{SessionFault}
use Rattle.store_session.specs.declared.answered.SessionFault.TheVariants.{DiskFault, SayFault, Damaged, Memory}
use Rattle.store_session.specs.Session.{AtDamage}
use Rattle.store_session.specs.Endings.{NothingRose, session_status}
use Rattle.store_session.specs.declared.status.Status.{Status}
use Rattle.store_session.specs.declared.status.Status.TheVariants as ends
use Rattle.store_session.proofs.Reading.{long_with_record}
use Rattle.store_replay.specs.Printing.{can_print, said_of, said_of_all}
use Rattle.store_replay.specs.Endings.{EndsPrinted, IsFoundBroken, IsFoundUnprintable, IsReplay, IsToldInPart, IsUnopenedOrSame, IsWholeScript}
use Rattle.store_replay.specs.Endings.{KeepsStore, end_of_events}
use Rattle.store_replay.proofs.Scripts.{not-printable, said-front, said-stop}
use Rattle.store_replay.proofs.Walking.{stands_first}

-- ---- the store was not opened
module _ (entry now : Told) (course : GoesOn entry now) (said : KeepsSaid entry now) (input : KeepsInput entry now)
    (moments : KeepsStore entry now)
    (long : new_size < length (disk_now entry).now → Throughout entry now (λ disk said. IsAtMostSynced (disk_now entry) disk)) where
  pub unopened : (fault : SessionFault) → (fault ≡ DiskFault → Rose entry.disk_faults now.disk_faults) → fault ≢ SayFault
      → AtDamage fault (λ at. IsTrue entry.tells → IsDamaged (disk_now entry).now at × StandsForNoEvents (disk_now entry).now)
      → AtDamage fault (λ at. IsTrue entry.tells → IsNoHeader (disk_now entry).now at) → IsReplay entry now (session_status fault)
  unopened DiskFault cause never damaged header = record {
    ends = λ told. tt;
    part = λ events stood. adds_none entry now (said_of_all empty events) said;
    moments = moments;
    long = long;
    cause = cause refl;
    input = input;
    course = course;
  }
  unopened SayFault cause never damaged header = absurd (never refl)
  unopened (Damaged at) cause never damaged header = record {
    ends = λ told. record {
      offset = (damaged told).0;
      no_events = (damaged told).1;
      said = inl (record { none = header told; said = said_kept_now entry now course said told });
    };
    part = λ events stood. adds_none entry now (said_of_all empty events) said;
    moments = moments;
    long = long;
    cause = tt;
    input = input;
    course = course;
  }
  unopened Memory cause never damaged header = record {
    ends = λ told. tt;
    part = λ events stood. adds_none entry now (said_of_all empty events) said;
    moments = moments;
    long = long;
    cause = tt;
    input = input;
    course = course;
  }

-- ---- a file that stands for events
-- a disk that stands for the same at each moment stands for the events at the end
stands_same : (entry now : Told) (events : List Event) → StandsForEvents (disk_now entry).now events → MayLeave (disk_now now) (disk_now now).now
    → IsUnopenedOrSame (disk_now entry) (said_now entry) (disk_now now) (said_now now) → StandsForEvents (disk_now now).now events
stands_same entry now events stood left (inl same) = subst (λ d. StandsForEvents d.now events) (sym same.0) stood
stands_same entry now events stood left (inr leaves) =
    record { forms = leaves (disk_now now).now left (map event_encoding events) stood.forms; playable = stood.playable }

-- where the first of its events that a script can't hold is one of them
unprintable_first : (entry now : Told) (events : List Event) → StandsForEvents (disk_now entry).now events → IsFoundUnprintable entry now
    → (are_printable empty events ≡ false) × (said_now now ≡ said_now entry ++ said_of_all empty events)
unprintable_first entry now events stood found =
    let made = found.events in
    let event = found.event in
    let longer : 17 < length (disk_now entry).now =
    long_with_record (disk_now entry).now (map event_encoding made) (event_encoding event) found.offset
    (subst (λ (l : List (List ℕ)). ReadsTo (disk_now entry).now l found.offset) (map-more made event) found.reads) in
    let rest = stands_first entry (made ++ event ∷ []) events found.offset found.reads found.playable longer stood.forms stood.playable in
    let events_is : events ≡ made ++ event ∷ rest.0 = rest.1 ∙ append_assoc made (event ∷ []) rest.0 in
    let said_is : said_of_all empty events ≡ script_again made ++ said_of (played play empty made) event =
    ap (said_of_all empty) events_is ∙ said-front empty made (event ∷ rest.0) found.printable
    ∙ ap (λ (l : List ℕ). script_again made ++ l) (said-stop (played play empty made) event rest.0 found.unprintable) in (
      ap (are_printable empty) events_is ∙ not-printable empty made event rest.0 found.unprintable,
      found.said ∙ ap (λ (l : List ℕ). said_now entry ++ l) (sym said_is),
    )

-- the script of all
whole_first : (entry now : Told) (events : List Event) → StandsForEvents (disk_now entry).now events → IsWholeScript entry now
    → (are_printable empty events ≡ true) × (said_now now ≡ said_now entry ++ script_again events)
whole_first entry now events stood whole =
    let same : events ≡ whole.events = same_events (disk_now entry).now events whole.events stood whole.stands in
    (ap (are_printable empty) same ∙ whole.printable, whole.said ∙ ap (λ (l : List Event). said_now entry ++ script_again l) (sym same))

accepted : (b : Bool) → b ≡ true → ends.Accepted ≡ (if b then ends.Accepted else ends.Refused)
accepted b is = rw is refl

refused : (b : Bool) → b ≡ false → ends.Refused ≡ (if b then ends.Accepted else ends.Refused)
refused b is = rw is refl

module _ (entry now : Told) (events : List Event) (stood : StandsForEvents (disk_now entry).now events)
    (left : MayLeave (disk_now now) (disk_now now).now) (told : IsTrue entry.tells) where
  stands_on : KeepsStore entry now → GoesOn entry now → StandsForEvents (disk_now now).now events
  stands_on moments course = stands_same entry now events stood left
      (at_last entry now (IsUnopenedOrSame (disk_now entry) (said_now entry)) course moments told)

  in_part : (status : Status) → IsReplay entry now status → IsToldInPart events entry now
  in_part status replay = record {
    said = at_last entry now (λ disk said. AddsPart (said_now entry) (said_of_all empty events) said)
        replay.course (replay.part events stood) told;
    stands = stands_on replay.moments replay.course;
  }

  pub ends_printed : (status : Status) → IsReplay entry now status → EndsPrinted events entry now status
  ends_printed ends.Accepted replay =
      let whole = whole_first entry now events stood (replay.ends told) in
      (whole.0, record { said = whole.1; stands = stands_on replay.moments replay.course })
  ends_printed ends.Refused replay =
      let found = unprintable_first entry now events stood (replay.ends told) in
      (found.0, record { said = found.1; stands = stands_on replay.moments replay.course })
  ends_printed ends.WriteFault replay = in_part ends.WriteFault replay
  ends_printed ends.DiskFault replay = in_part ends.DiskFault replay
  ends_printed ends.Memory replay = in_part ends.Memory replay
  ends_printed (ends.Damaged at) replay = (replay.ends told).no_events events stood
  ends_printed ends.BadWords replay = replay.cause
  ends_printed ends.ReadFault replay = replay.cause
  ends_printed (ends.Input fault at) replay = replay.cause

  -- where no count rises
  pub complete : NothingRose entry now → (status : Status) → IsReplay entry now status → (status ≡ end_of_events events) ⊎ (status ≡ ends.Memory)
  complete none ends.Accepted replay = inl (accepted (are_printable empty events) (whole_first entry now events stood (replay.ends told)).0)
  complete none ends.Refused replay = inl (refused (are_printable empty events) (unprintable_first entry now events stood (replay.ends told)).0)
  complete none ends.WriteFault replay = absurd (none.say_faults replay.cause)
  complete none ends.DiskFault replay = absurd (none.disk_faults replay.cause)
  complete none ends.Memory replay = inr refl
  complete none (ends.Damaged at) replay = absurd ((replay.ends told).no_events events stood)
  complete none ends.BadWords replay = absurd replay.cause
  complete none ends.ReadFault replay = absurd replay.cause
  complete none (ends.Input fault at) replay = absurd replay.cause

-- ---- by the status
module _ (entry now : Told) where
  pub no_store : (status : Status) → IsReplay entry now status → IsTrue entry.tells → StandsForNoEvents (disk_now entry).now → status ≢ ends.Accepted
  no_store status replay told none is =
      let whole = (subst (IsReplay entry now) is replay).ends told in
      none whole.events whole.stands

  pub no_words : (status : Status) → IsReplay entry now status → status ≢ ends.BadWords
  no_words status replay is = (subst (IsReplay entry now) is replay).cause

  pub no_read : (status : Status) → IsReplay entry now status → status ≢ ends.ReadFault
  no_read status replay is = (subst (IsReplay entry now) is replay).cause

  pub when_unsaid : (status : Status) → IsReplay entry now status → status ≡ ends.WriteFault → Rose entry.say_faults now.say_faults
  when_unsaid status replay is = (subst (IsReplay entry now) is replay).cause

  pub when_disk : (status : Status) → IsReplay entry now status → status ≡ ends.DiskFault → Rose entry.disk_faults now.disk_faults
  when_disk status replay is = (subst (IsReplay entry now) is replay).cause
