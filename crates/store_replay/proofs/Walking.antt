-- How a store is read and printed: one event after another.
use Rattle.std.proofs.Common.{◌≡◌, ◌≢◌, ◌⊎◌, inl, inr, ⊎_elim, ℕ, ◌<◌, List, [], ◌∷◌, ◌++◌, true, false, if◌then◌else◌, length, take, map, refl, sym}
use Rattle.std.proofs.Common.{◌∙◌, ap, subst, append_assoc, append-nil, arith}
use Rattle.std.specs.Prelude.{IsTrue}
use Rattle.host_port.specs.Host.{Told, Disk, MayLeave, GoesOn, Throughout, KeepsDisk, KeepsSaid, KeepsInput, AddsPart, Rose, disk_now, said_now}
use Rattle.host_port.proofs.Course.{adds_none, at_last, carry_on, course_on, keeps_input_on, kept_now, said_kept_now, told_next, rose_second}
use Rattle.commit_journal.specs.Journal.{MountedFrom, ReadsTo, StandsFor}
use Rattle.commit_journal.proofs.Mounting.{length-new_file}
use Rattle.commit_journal.proofs.Torn.{left_stable}
use Rattle.command_runs.specs.Runs.{played}
use Rattle.op_form.specs.declared.event.Event.{Event}
use Rattle.op_form.specs.Events.{event_encoding}
use Rattle.plain_repository.specs.State.{State, empty}
use Rattle.plain_repository.specs.Events.{play, are_playable}
use Rattle.plain_repository.specs.Store.{StandsForEvents, StandsForNoEvents, IsDamaged}
use Rattle.plain_repository.proofs.Stores.{map-more, reads_first}
use Rattle.replay_laws.specs.Scripts.{script_again, are_printable}
use Rattle.store_session.specs.declared.answered.SessionFault.{SessionFault}
use Rattle.store_session.specs.declared.answered.SessionFault.TheVariants.{DiskFault, SayFault, Damaged, Memory}
use Rattle.store_session.specs.Opening.{IsMounting, IsOpenedSince, PlaysEvent}
use Rattle.store_session.specs.Session.{AtDamage, IsPlayedUpTo, IsStoreOf}
use Rattle.store_session.specs.State.{OpeningState}
use Rattle.store_session.proofs.Reading.{damage_since, is_long, long_with_record, since_on, stood_since}
use Rattle.store_session.specs.Endings.{session_status}
use Rattle.store_session.specs.declared.status.Status.TheVariants as ends
use Rattle.store_replay.specs.Printing.{IsPlayed, can_print, said_of, said_of_all}
use Rattle.store_replay.specs.Endings.{IsFoundBroken, IsReplay, IsUnopenedOrSame, KeepsPart, KeepsStore}
use Rattle.store_replay.proofs.Scripts.{first_events, part_within, printable-more, said-front, said_held, script-more}

-- a prefix of what there is to print of the events was printed
abbrev PartOf : Told → List Event → Disk → List ℕ → Type 0
PartOf entry events disk said = AddsPart (said_now entry) (said_of_all empty events) said

-- ---- the file at each moment
-- while the store is opened nothing is printed
pub opens : (entry now : Told) → KeepsSaid entry now → Throughout entry now (λ disk said. IsMounting (disk_now entry) disk) → KeepsStore entry now
opens entry now said moments told t low high =
    ⊎_elim (λ before. inl (before, said told t low high)) (λ same. inr same) (moments told t low high)

-- calls that keep the disk of a store that was opened
keeps_on : (entry a b : Told) → IsOpenedSince entry a → GoesOn entry a → GoesOn a b → KeepsDisk a b → KeepsStore entry a → KeepsStore entry b
keeps_on entry a b since before course disk kept told =
    carry_on entry a b (IsUnopenedOrSame (disk_now entry) (said_now entry)) before course kept
    (λ told_here t low high. inr (λ x left.
    let is = left_stable (disk_now a) x (since.stable told) (subst (λ d. MayLeave d x) (disk told_here t low high) left) in
    λ forms stood. subst (λ (l : List ℕ). StandsFor l forms) (sym is) (since.same told forms stood))) told

-- ---- between two events
-- the events that were read so far: a script can hold each of them, and it was printed
pub record HasPrinted (entry now : Told) (opening : OpeningState) : Type 0 where
  pub made : List Event
  pub played_up_to : IsPlayedUpTo (disk_now now) opening.state opening.next made
  pub printable : are_printable empty made ≡ true
  pub said : said_now now ≡ said_now entry ++ script_again made

-- between two events of a store
pub record Walks (entry now : Told) (opening : OpeningState) : Type 0 where
  pub at : opening.state.end ≡ opening.next
  pub course : GoesOn entry now
  pub input : KeepsInput entry now
  pub since : IsOpenedSince entry now
  pub moments : KeepsStore entry now
  pub printed : IsTrue entry.tells → HasPrinted entry now opening
  pub part : KeepsPart entry now

-- before the first event
pub begins : (entry now : Told) (opening : OpeningState) → opening.state.end ≡ opening.next → GoesOn entry now → KeepsSaid entry now → KeepsInput entry now
    → IsOpenedSince entry now → (IsTrue entry.tells → IsPlayedUpTo (disk_now now) opening.state opening.next []) → Walks entry now opening
begins entry now opening at course said input since played_up_to = record {
  at = at;
  course = course;
  input = input;
  since = since;
  moments = opens entry now said since.moments;
  printed = λ told. record {
    made = [];
    played_up_to = played_up_to told;
    printable = refl;
    said = said_kept_now entry now course said told ∙ sym (append-nil (said_now entry));
  };
  part = λ events stood. adds_none entry now (said_of_all empty events) said;
}

-- a file of more than 17 bytes reads as it did at the entry
reads_at_entry : (entry b : Told) (forms : List (List ℕ)) (offset : ℕ) → 17 < length (disk_now b).now → MountedFrom (disk_now entry).now (disk_now b).now
    → ReadsTo (disk_now b).now forms offset → ReadsTo (disk_now entry).now forms offset
reads_at_entry entry b forms offset long (inl same) reads = subst (λ (l : List ℕ). ReadsTo l forms offset) same.1 reads
reads_at_entry entry b forms offset long (inr fresh) reads = absurd (omega (arith, long, ap length fresh.1, length-new_file))

-- ---- calls that print nothing
module _ (entry a b : Told) (opening : OpeningState) (walks : Walks entry a opening)
    (course : GoesOn a b) (disk : KeepsDisk a b) (said : KeepsSaid a b) (input : KeepsInput a b) where
  pub since_b : IsOpenedSince entry b
  since_b = since_on entry a b walks.since walks.course course disk

  pub moments_b : KeepsStore entry b
  moments_b = keeps_on entry a b walks.since walks.course course disk walks.moments

  pub course_b : GoesOn entry b
  course_b = course_on entry a b walks.course course

  pub input_b : KeepsInput entry b
  input_b = keeps_input_on entry a b walks.input input

  pub part_b : KeepsPart entry b
  part_b events stood = carry_on entry a b (PartOf entry events) walks.course course (walks.part events stood)
      (λ told t low high.
      let p = at_last entry a (PartOf entry events) walks.course (walks.part events stood) (subst IsTrue walks.course.tells told) in
      (p.0, said told t low high ∙ p.1))

  said_b : (told : IsTrue entry.tells) → said_now b ≡ said_now entry ++ script_again (walks.printed told).made
  said_b told = said_kept_now a b course said (told_next entry a walks.course told) ∙ (walks.printed told).said

  -- a run that ends there, with nothing to say of how
  pub ends_there : IsReplay entry b ends.Memory
  ends_there = record { ends = λ told. tt; part = part_b; moments = moments_b; long = since_b.long; cause = tt; input = input_b; course = course_b }

  -- damage at the gate
  found_broken : (at : ℕ) (told : IsTrue entry.tells) → IsDamaged (disk_now a).now at × StandsForNoEvents (disk_now a).now
      → at ≡ opening.next → IsFoundBroken entry b at
  found_broken at told damage here =
      let had = walks.printed told in
      let at_entry = damage_since entry a walks.since told at damage in
      record {
        offset = at_entry.0;
        no_events = at_entry.1;
        said = inr (record {
          events = had.made;
          playable = had.played_up_to.playable;
          printable = had.printable;
          reads = subst (λ (n : ℕ). ReadsTo (disk_now entry).now (map event_encoding had.made) n) (sym here)
              (reads_at_entry entry a (map event_encoding had.made) opening.next (is_long (disk_now a).now damage.1)
              (walks.since.file told) had.played_up_to.walked.reads);
          said = said_b told;
        });
      }

  pub faulted : (fault : SessionFault) → (fault ≡ DiskFault → Rose a.disk_faults b.disk_faults) → fault ≢ SayFault
      → AtDamage fault (λ at. IsTrue a.tells → IsDamaged (disk_now a).now at × StandsForNoEvents (disk_now a).now) → AtDamage fault (λ at. at ≡ opening.next)
      → IsReplay entry b (session_status fault)
  faulted DiskFault cause never damaged offset = record {
    ends = λ told. tt;
    part = part_b;
    moments = moments_b;
    long = since_b.long;
    cause = rose_second entry.disk_faults a.disk_faults b.disk_faults walks.course.disk_faults (cause refl);
    input = input_b;
    course = course_b;
  }
  faulted SayFault cause never damaged offset = absurd (never refl)
  faulted (Damaged at) cause never damaged offset = record {
    ends = λ told. found_broken at told (damaged (told_next entry a walks.course told)) offset;
    part = part_b;
    moments = moments_b;
    long = since_b.long;
    cause = tt;
    input = input_b;
    course = course_b;
  }
  faulted Memory cause never damaged offset = ends_there

  -- the closed gate is found
  pub closed : (state : State)
      → (IsTrue a.tells → (made : List Event) → IsPlayedUpTo (disk_now a) opening.state opening.next made → IsStoreOf (disk_now b) state made)
      → IsReplay entry b ends.Accepted
  closed state store = record {
    ends = λ told.
        let had = walks.printed told in
        let holds = store (told_next entry a walks.course told) had.made had.played_up_to in
        record { events = had.made; stands = stood_since entry b since_b told state had.made holds; printable = had.printable; said = said_b told };
    part = part_b;
    moments = moments_b;
    long = since_b.long;
    cause = tt;
    input = input_b;
    course = course_b;
  }

-- ---- an event was read and played
-- the event of the bytes, and the state after it
abbrev pub is_played : (a b : Told) (old new : OpeningState) (bytes : List ℕ) (after : State) → PlaysEvent a b old new bytes → after ≡ new.state
    → IsPlayed after bytes
is_played a b old new bytes after plays is =
    record { before = old.state; event = plays.event; spelled = plays.spelled; made = record { could = plays.could; state_is = is ∙ plays.state_is } }

-- the file reads as the events so far and this one
reads_more : (b : Told) (opening next : OpeningState) (made : List Event) (event : Event) → IsPlayedUpTo (disk_now b) next.state next.next (made ++ event ∷ [])
    → 17 < length (disk_now b).now
reads_more b opening next made event played_up_to =
    long_with_record (disk_now b).now (map event_encoding made) (event_encoding event) next.next
    (subst (λ (l : List (List ℕ)). ReadsTo (disk_now b).now l next.next) (map-more made event) played_up_to.walked.reads)

-- what the file stands for begins with them
pub stands_first : (b : Told) (made events : List Event) (offset : ℕ)
    → ReadsTo (disk_now b).now (map event_encoding made) offset → IsTrue (are_playable empty made)
    → 17 < length (disk_now b).now → StandsFor (disk_now b).now (map event_encoding events) → IsTrue (are_playable empty events)
    → (rest : List Event) × (events ≡ made ++ rest)
stands_first b made events offset reads had long (inl few) could = absurd (omega (arith, long, few.0))
stands_first b made events offset reads had long (inr many) could =
    let more = reads_first (disk_now b).now (map event_encoding made) (map event_encoding events) offset many.1.0 reads many.1.1 in
    first_events empty events made more.0 could had more.1

module _ (entry a b : Told) (opening : OpeningState) (walks : Walks entry a opening)
    (course : GoesOn a b) (disk : KeepsDisk a b) (said : KeepsSaid a b) (input : KeepsInput a b)
    (next : OpeningState) (bytes : List ℕ) (plays : PlaysEvent a b opening next bytes) where
  abbrev made_of : IsTrue entry.tells → List Event
  made_of told = (walks.printed told).made

  replayed_b : (told : IsTrue entry.tells) → IsPlayedUpTo (disk_now b) next.state next.next (made_of told ++ plays.event ∷ [])
  replayed_b told = plays.played_up_to (told_next entry a walks.course told) (made_of told) (walks.printed told).played_up_to

  state_was : (told : IsTrue entry.tells) → opening.state ≡ played play empty (made_of told)
  state_was told = (walks.printed told).played_up_to.state_is

  long_b : (told : IsTrue entry.tells) → 17 < length (disk_now b).now
  long_b told = reads_more b opening next (made_of told) plays.event (replayed_b told)

  since_b' : IsOpenedSince entry b
  since_b' = since_b entry a b opening walks course disk said input

  -- the events of the file, the first of which are those
  events_are : (told : IsTrue entry.tells) (events : List Event) → StandsForEvents (disk_now entry).now events
      → (rest : List Event) × (events ≡ (made_of told ++ plays.event ∷ []) ++ rest)
  events_are told events stood =
      stands_first b (made_of told ++ plays.event ∷ []) events next.next (replayed_b told).walked.reads (replayed_b told).playable (long_b told)
      (since_b'.same told (map event_encoding events) stood.forms) stood.playable

  -- what there is to print of them
  there_is : (told : IsTrue entry.tells) (events : List Event) → StandsForEvents (disk_now entry).now events
      → (more : List ℕ) × (said_of_all empty events ≡ script_again (made_of told) ++ (said_of opening.state plays.event ++ more))
  there_is told events stood =
      let made = made_of told in
      let event = plays.event in
      let rest = events_are told events stood in
      let after = if can_print opening.state event then said_of_all (play opening.state event) rest.0 else [] in (
        after,
        ap (said_of_all empty) (rest.1 ∙ append_assoc made (event ∷ []) rest.0)
            ∙ said-front empty made (event ∷ rest.0) (walks.printed told).printable
            ∙ ap (λ (s : State). script_again made ++ said_of_all s (event ∷ rest.0)) (sym (state_was told)),
      )

  module _ (c : Told) (text : List ℕ) (text_is : text ≡ said_of opening.state plays.event)
      (course_c : GoesOn b c) (disk_c : KeepsDisk b c) (input_c : KeepsInput b c)
      (part_c : Throughout b c (λ disk said. AddsPart (said_now b) text said)) where
    all_since : IsOpenedSince entry c
    all_since = since_on entry b c since_b' (course_b entry a b opening walks course disk said input) course_c disk_c

    all_moments : KeepsStore entry c
    all_moments = keeps_on entry b c since_b' (course_b entry a b opening walks course disk said input) course_c disk_c
        (moments_b entry a b opening walks course disk said input)

    all_course : GoesOn entry c
    all_course = course_on entry b c (course_b entry a b opening walks course disk said input) course_c

    all_input : KeepsInput entry c
    all_input = keeps_input_on entry b c (input_b entry a b opening walks course disk said input) input_c

    said_here : (told : IsTrue entry.tells) → said_now b ≡ said_now entry ++ script_again (made_of told)
    said_here told = said_b entry a b opening walks course disk said input told

    all_part : KeepsPart entry c
    all_part events stood = carry_on entry b c (PartOf entry events) (course_b entry a b opening walks course disk said input) course_c
        (part_b entry a b opening walks course disk said input events stood)
        (λ told_b t low high.
        let told = subst IsTrue (course_b entry a b opening walks course disk said input).tells told_b in
        let p = part_c told_b t low high in
        let all = there_is told events stood in
        part_within (said_now entry) (script_again (made_of told)) text all.0 (said_of_all empty events) (c.said t) p.0
        (all.1 ∙ ap (λ (l : List ℕ). script_again (made_of told) ++ (l ++ all.0)) (sym text_is))
        (p.1 ∙ ap (λ (l : List ℕ). l ++ take p.0 text) (said_here told)))

    -- it was not printed
    pub unsaid : Rose b.say_faults c.say_faults → IsReplay entry c ends.WriteFault
    unsaid rose = record {
      ends = λ told. tt;
      part = all_part;
      moments = all_moments;
      long = all_since.long;
      cause = rose_second entry.say_faults b.say_faults c.say_faults (course_b entry a b opening walks course disk said input).say_faults rose;
      input = all_input;
      course = all_course;
    }

    module _ (whole : IsTrue b.tells → said_now c ≡ said_now b ++ text) where
      said_c : (told : IsTrue entry.tells)
          → said_now c ≡ said_now entry ++ (script_again (made_of told) ++ said_of (played play empty (made_of told)) plays.event)
      said_c told =
          whole (told_next entry b (course_b entry a b opening walks course disk said input) told)
          ∙ ap (λ (l : List ℕ). l ++ text) (said_here told)
          ∙ append_assoc (said_now entry) (script_again (made_of told)) text
          ∙ ap (λ (l : List ℕ). said_now entry ++ (script_again (made_of told) ++ l)) (text_is ∙ ap (λ (s : State). said_of s plays.event) (state_was told))

      -- a script can't hold it
      pub refused : can_print opening.state plays.event ≡ false → IsReplay entry c ends.Refused
      refused no_print = record {
        ends = λ told. record {
          events = made_of told;
          event = plays.event;
          offset = next.next;
          playable = (replayed_b told).playable;
          reads = reads_at_entry entry b (map event_encoding (made_of told ++ plays.event ∷ [])) next.next (long_b told)
              (since_b'.file told) (replayed_b told).walked.reads;
          printable = (walks.printed told).printable;
          unprintable = ap (λ (s : State). can_print s plays.event) (sym (state_was told)) ∙ no_print;
          said = said_c told;
        };
        part = all_part;
        moments = all_moments;
        long = all_since.long;
        cause = tt;
        input = all_input;
        course = all_course;
      }

      -- or it can
      pub goes_on : next.state.end ≡ next.next → can_print opening.state plays.event ≡ true → Walks entry c next
      goes_on at print = record {
        at = at;
        course = all_course;
        input = all_input;
        since = all_since;
        moments = all_moments;
        printed = λ told.
            let made = made_of told in
            let can : can_print (played play empty made) plays.event ≡ true = ap (λ (s : State). can_print s plays.event) (sym (state_was told)) ∙ print in
            record {
              made = made ++ plays.event ∷ [];
              played_up_to = subst (λ (d : Disk). IsPlayedUpTo d next.state next.next (made ++ plays.event ∷ []))
                  (sym (kept_now b c course_c disk_c (told_next entry b (course_b entry a b opening walks course disk said input) told))) (replayed_b told);
              printable = printable-more empty made plays.event (walks.printed told).printable can;
              said = said_c told ∙ ap (λ (l : List ℕ). said_now entry ++ (script_again made ++ l)) (said_held (played play empty made) plays.event can)
                  ∙ ap (λ (l : List ℕ). said_now entry ++ l) (sym (script-more empty made plays.event));
            };
        part = all_part;
      }
