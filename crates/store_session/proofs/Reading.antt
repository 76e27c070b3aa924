-- How the store is opened: its records are read one after the other, and their events played.
use Rattle.std.proofs.Common.{◌≡◌, inl, inr, ℕ, ◌+◌, ◌^◌, ◌<◌, List, [], ◌∷◌, ◌++◌, Ok, Err, length, false, refl, sym, ◌∙◌, ap, subst, arith, length-append}
use Rattle.std.specs.Prelude.{IsTrue, map}
use Rattle.std.proofs.lemmas.Bool.{cases_lt}
use Rattle.std.proofs.lemmas.List.{length-take}
use Rattle.host_port.specs.Host.{Told, Disk, MayLeave, GoesOn, KeepsDisk, KeepsSaid, KeepsInput, disk_now}
use Rattle.host_port.proofs.Course.{carry_on, at_last, told_next, course_on, kept_now, keeps_said_on, keeps_input_on}
use Rattle.commit_journal.specs.TornWrites.{IsStable}
use Rattle.commit_journal.specs.Journal.{WalkState, StandsFor, StandsForNone, IsWalked, IsJournalAtRest, IsStuck, ReadsTo, MountedFrom, IsAtMostSynced}
use Rattle.commit_journal.specs.Journal.{records, record_of, header, open_gate}
use Rattle.commit_journal.proofs.Torn.{left_stable}
use Rattle.commit_journal.proofs.Ends.{records-push, length-record_of, length-header, stands}
use Rattle.commit_journal.proofs.Mounting.{length-new_file}
use Rattle.command_runs.specs.Runs.{played}
use Rattle.command_runs.proofs.RunLaws.{played-append}
use Rattle.op_form.specs.declared.event.Event.{Event}
use Rattle.op_form.specs.Events.{event_encoding}
use Rattle.op_form.specs.Formed.{IsEvent}
use Rattle.op_reading.specs.declared.fault.FormFault.{FormFault}
use Rattle.op_reading.specs.Events.{event_at, whole_of}
use Rattle.op_reading.proofs.Codes.{whole_again}
use Rattle.op_reading.proofs.EventCodes.{event_codes}
use Rattle.plain_repository.specs.State.{State, empty}
use Rattle.plain_repository.specs.Events.{play, playable}
use Rattle.plain_repository.specs.Store.{StandsForEvents, StandsForNoEvents, IsDamaged}
use Rattle.plain_repository.proofs.Encodings.{playable_is_event}
use Rattle.plain_repository.proofs.Stores.{from_mounted, reads_first, none_has, map-more, playable-more}
use Rattle.commit_journal.specs.declared.fault.JournalFault.{JournalFault}
use Rattle.commit_journal.specs.declared.fault.JournalFault.TheVariants as journals
use Rattle.commit_journal.specs.Walk as journal
use Rattle.store_session.specs.declared.answered.SessionFault.{SessionFault}
use Rattle.store_session.specs.declared.answered.SessionFault.TheVariants.{DiskFault, SayFault, Damaged, Memory}
use Rattle.store_session.specs.Opening.{IsMounting, IsOpenedSince, PlaysEvent, SpellsEvent}
use Rattle.store_session.specs.Session.{IsStoreOf, IsPlayedUpTo, AtDamage, fault_of}
use Rattle.store_session.specs.State.{OpeningState}
use Rattle.store_session.proofs.Playing.{play_end}

-- such a disk reads as it did at the entry
pub reads_same : (entry disk : Disk) → IsAtMostSynced entry disk → disk.now ≡ entry.now
reads_same entry disk (inl is) = ap (λ (d : Disk). d.now) is
reads_same entry disk (inr is) = ap (λ (d : Disk). d.now) is

-- ---- damage
pub none_stands : (file : List ℕ) → StandsForNone file → StandsForNoEvents file
none_stands file none events stood = none (map event_encoding events) stood.forms

-- a file of at most 17 bytes stands for no events at all, which is a list of them
pub is_long : (file : List ℕ) → StandsForNoEvents file → 17 < length file
is_long file none = elim (cases_lt 17 (length file)) [
  | inl long ↦ long
  | inr few ↦ absurd (none [] (record { forms = inl (few, refl); playable = refl }))
]

-- damage that the journal found is damage of the store
pub damage_of : (fault : JournalFault) (P Q R : ℕ → Type 0) → ((at : ℕ) → P at → Q at → R at) → journal.IfDamaged fault P → journal.IfDamaged fault Q
    → AtDamage (fault_of fault) R
damage_of (journals.Damaged at) P Q R gives p q = gives at p q
damage_of journals.DiskFault P Q R gives p q = tt
damage_of journals.Memory P Q R gives p q = tt

-- what follows from what is said of damage
pub damage_on : (fault : SessionFault) (P Q : ℕ → Type 0) → ((at : ℕ) → P at → Q at) → AtDamage fault P → AtDamage fault Q
damage_on DiskFault P Q gives p = tt
damage_on SayFault P Q gives p = tt
damage_on (Damaged at) P Q gives p = gives at p
damage_on Memory P Q gives p = tt

-- the reading of the records stops where neither a closed gate nor a record stands
pub stuck_is_damage : (disk : Disk) (state : State) (offset at : ℕ) (made : List Event) → IsPlayedUpTo disk state offset made → offset < 2 ^ 40
    → at ≡ offset → IsStuck disk.now at → StandsForNone disk.now
    → IsDamaged disk.now at × StandsForNoEvents disk.now
stuck_is_damage disk state offset at made played_up_to low at_is stuck none =
    let nothing : StandsForNoEvents disk.now = none_stands disk.now none in (
      record {
        long = is_long disk.now nothing;
        found = inr (record {
          events = made;
          playable = played_up_to.playable;
          reads = subst (λ (n : ℕ). ReadsTo disk.now (map event_encoding made) n) (sym at_is) played_up_to.walked.reads;
          low = subst (λ (n : ℕ). n < 2 ^ 40) (sym at_is) low;
          stuck = inl stuck;
        });
      },
      nothing,
    )

-- a file with a record is longer than a new one
pub long_with_record : (file : List ℕ) (forms : List (List ℕ)) (bytes : List ℕ) (offset : ℕ) → ReadsTo file (forms ++ bytes ∷ []) offset → 17 < length file
long_with_record file forms bytes offset reads = omega (
  arith,
  ap length reads.prefix,
  length-take offset file,
  length-append header (records (forms ++ bytes ∷ [])),
  length-header,
  reads.offset_is,
  ap length (records-push forms bytes),
  length-append (records forms) (open_gate ∷ []),
  length-record_of bytes,
  length-append (records forms) (record_of bytes),
)

-- the bytes of a record are no event that can be made there
module _ (disk : Disk) (state : State) (offset next at : ℕ) (bytes : List ℕ) (made : List Event) (played_up_to : IsPlayedUpTo disk state offset made)
    (low : offset < 2 ^ 40) (at_is : at ≡ offset) (next_is : next ≡ offset + 5 + length bytes)
    (none : (event : Event) → IsTrue (playable state event) → bytes ≡ event_encoding event → ⊥)
    (reads : ReadsTo disk.now (map event_encoding made ++ bytes ∷ []) next) where
  no_such : (event : Event) → IsTrue (playable (played play empty made) event) → bytes ≡ event_encoding event → ⊥
  no_such = subst (λ (s : State). (event : Event) → IsTrue (playable s event) → bytes ≡ event_encoding event → ⊥) played_up_to.state_is none

  long : 17 < length disk.now
  long = long_with_record disk.now (map event_encoding made) bytes next reads

  pub event_is_damage : IsDamaged disk.now at × StandsForNoEvents disk.now
  event_is_damage = (
    record {
      long = long;
      found = inr (record {
        events = made;
        playable = played_up_to.playable;
        reads = subst (λ (n : ℕ). ReadsTo disk.now (map event_encoding made) n) (sym at_is) played_up_to.walked.reads;
        low = subst (λ (n : ℕ). n < 2 ^ 40) (sym at_is) low;
        stuck = inr (record {
          bytes = bytes;
          reads = subst (λ (n : ℕ). ReadsTo disk.now (map event_encoding made ++ bytes ∷ []) n)
              (next_is ∙ ap (λ (n : ℕ). n + 5 + length bytes) (sym at_is)) reads;
          no_event = no_such;
        });
      });
    },
    (λ events stood. elim stood.forms [
      | inl few ↦ absurd (omega (arith, few.0, long))
      | inr many ↦
          let more = reads_first disk.now (map event_encoding made ++ bytes ∷ []) (map event_encoding events) next many.1.0 reads many.1.1 in
          none_has made events bytes more.0 played_up_to.playable no_such stood.playable more.1
    ]),
  )

-- ---- one record
-- the event that was played
abbrev pub Played : State → List ℕ → State → Type 0
Played state bytes next = (event : Event) × IsTrue (playable state event) × (bytes ≡ event_encoding event) × (next ≡ play state event)

-- of the same repository and the same bytes by other names
pub played_on : (s t : State) (read bytes : List ℕ) (next : State) → s ≡ t → read ≡ bytes → Played s read next → Played t bytes next
played_on s t read bytes next same is event = (
  event.0,
  subst (λ (x : State). IsTrue (playable x event.0)) same event.1,
  sym is ∙ event.2,
  event.3 ∙ ap (λ (x : State). play x event.0) same,
)

pub spells : (s : State) (bytes : List ℕ) (next : State) → Played s bytes next → SpellsEvent bytes
spells s bytes next event = (event.0, playable_is_event s event.0 event.1, event.2)

-- bytes that are read are those of one event
pub read_again : (bytes : List ℕ) (found : Event) → whole_of event_at bytes ≡ Ok found → (event : Event) → IsEvent event
    → bytes ≡ event_encoding event → found ≡ event
read_again bytes found is event formed spelled =
    let read : whole_of event_at bytes ≡ Ok event = ap (λ (b : List ℕ). whole_of event_at b) spelled ∙ whole_again event_codes event formed in
    cc

-- bytes of an event are read as one
pub spelled_is_read : (bytes : List ℕ) (fault : FormFault) → SpellsEvent bytes → whole_of event_at bytes ≡ Err fault → ⊥
spelled_is_read bytes fault spells is =
    let read : whole_of event_at bytes ≡ Ok spells.0 = ap (λ (b : List ℕ). whole_of event_at b) spells.2 ∙ whole_again event_codes spells.0 spells.1 in
    cc

-- the journal's end goes on with the record
pub end_on : (state next_state : State) (offset next : ℕ) (bytes : List ℕ) → state.end ≡ offset → next ≡ offset + 5 + length bytes
    → Played state bytes next_state → next_state.end ≡ next
end_on state next_state offset next bytes at next_is event =
    ap (λ (s : State). s.end) event.3 ∙ play_end state event.0
    ∙ (let e : state.end + 5 + length (event_encoding event.0) ≡ next = omega (arith, at, ap length event.2, next_is) in e)

module _ (a b : Told) (old new : OpeningState) (bytes : List ℕ) (event : Played old.state bytes new.state)
    (walked : IsTrue a.tells → (forms : List (List ℕ)) → IsWalked (disk_now a) forms old.next → IsWalked (disk_now b) (forms ++ bytes ∷ []) new.next) where
  pub plays_event : PlaysEvent a b old new bytes
  plays_event = record {
    event = event.0;
    could = event.1;
    spelled = event.2;
    state_is = event.3;
    played_up_to = λ told made had. record {
      walked = subst (λ (l : List (List ℕ)). IsWalked (disk_now b) l new.next)
          (ap (λ (l : List ℕ). map event_encoding made ++ l ∷ []) event.2 ∙ sym (map-more made event.0))
          (walked told (map event_encoding made) had.walked);
      playable = playable-more empty made event.0 had.playable (subst (λ (s : State). IsTrue (playable s event.0)) had.state_is event.1);
      state_is = event.3 ∙ ap (λ (s : State). play s event.0) had.state_is ∙ sym (played-append play empty made (event.0 ∷ []));
    };
  }

-- the closed gate is found
pub at_closed_gate : (disk_a disk_b : Disk) (state : State) (offset end : ℕ) (made : List Event) → IsPlayedUpTo disk_a state offset made → state.end ≡ end
    → (IsWalked disk_a (map event_encoding made) offset → IsJournalAtRest disk_b (map event_encoding made) end) → IsStoreOf disk_b state made
at_closed_gate disk_a disk_b state offset end made had end_is closed = record {
  rests = record { journal = subst (λ (n : ℕ). IsJournalAtRest disk_b (map event_encoding made) n) (sym end_is) (closed had.walked); playable = had.playable };
  state_is = had.state_is;
}

-- ---- before the first record
pub begun : (disk : Disk) (walk : WalkState) → walk ≡ record { offset = 16; next = 16; ended = false } → IsWalked disk [] 16
    → IsPlayedUpTo disk empty walk.next []
begun disk walk is walked = record { walked = subst (λ (n : ℕ). IsWalked disk [] n) (sym (ap (λ w. w.next) is)) walked; playable = refl; state_is = refl }

-- ---- since the entry
module _ (entry a b : Told) (since : IsOpenedSince entry a) (before : GoesOn entry a) (course : GoesOn a b) (disk : KeepsDisk a b) where
  same_disk : IsTrue entry.tells → disk_now b ≡ disk_now a
  same_disk told = kept_now a b course disk (told_next entry a before told)

  -- calls that keep the disk
  pub since_on : IsOpenedSince entry b
  since_on = record {
    file = λ told. subst (λ d. MountedFrom (disk_now entry).now d.now) (sym (same_disk told)) (since.file told);
    same = λ told forms stood. subst (λ d. StandsFor d.now forms) (sym (same_disk told)) (since.same told forms stood);
    stable = λ told. subst IsStable (sym (same_disk told)) (since.stable told);
    moments = λ told. carry_on entry a b (λ disk said. IsMounting (disk_now entry) disk) before course since.moments
        (λ told_here t low high. inr (λ x left.
        let is = left_stable (disk_now a) x (since.stable told) (subst (λ d. MayLeave d x) (disk told_here t low high) left) in
        λ forms stood. subst (λ (l : List ℕ). StandsFor l forms) (sym is) (since.same told forms stood))) told;
    long = λ long told. carry_on entry a b (λ disk said. IsAtMostSynced (disk_now entry) disk) before course (since.long long)
        (λ told_here t low high. subst (IsAtMostSynced (disk_now entry)) (sym (disk told_here t low high))
        (at_last entry a (λ disk said. IsAtMostSynced (disk_now entry) disk) before (since.long long) told)) told;
  }

module _ (entry now : Told) (since : IsOpenedSince entry now) (told : IsTrue entry.tells) where
  -- what is damaged now was damaged at the entry
  pub damage_since : (at : ℕ) → IsDamaged (disk_now now).now at × StandsForNoEvents (disk_now now).now
      → IsDamaged (disk_now entry).now at × StandsForNoEvents (disk_now entry).now
  damage_since at damage = elim (since.file told) [
    | inl same ↦ (subst (λ (l : List ℕ). IsDamaged l at) same.1 damage.0, subst StandsForNoEvents same.1 damage.1)
    | inr fresh ↦ absurd (omega (arith, is_long (disk_now now).now damage.1, ap length fresh.1, length-new_file))
  ]

  -- the events that its records hold then are those that they held at the entry
  pub stood_since : (state : State) (made : List Event) → IsStoreOf (disk_now now) state made → StandsForEvents (disk_now entry).now made
  stood_since state made holds = record {
    forms = from_mounted (disk_now entry).now (disk_now now).now (map event_encoding made) (since.file told)
        (stands (disk_now now).now (map event_encoding made) state.end holds.rests.journal.ends);
    playable = holds.rests.playable;
  }

-- where the opening of a store stands, with nothing printed and no input taken
pub record Mounts (entry now : Told) (opening : OpeningState) : Type 0 where
  pub at : opening.state.end ≡ opening.next
  pub course : GoesOn entry now
  pub said : KeepsSaid entry now
  pub input : KeepsInput entry now
  pub played_up_to : IsTrue entry.tells → (made : List Event) × IsPlayedUpTo (disk_now now) opening.state opening.next made
  pub since : IsOpenedSince entry now

module _ (entry a b : Told) (opening : OpeningState) (mounts : Mounts entry a opening) (course : GoesOn a b) (disk : KeepsDisk a b)
    (said : KeepsSaid a b) (input : KeepsInput a b) where
  pub mounts_since : IsOpenedSince entry b
  mounts_since = since_on entry a b mounts.since mounts.course course disk

  pub mounts_said : KeepsSaid entry b
  mounts_said = keeps_said_on entry a b mounts.course course mounts.said said

  pub mounts_input : KeepsInput entry b
  mounts_input = keeps_input_on entry a b mounts.input input

  pub mounts_course : GoesOn entry b
  mounts_course = course_on entry a b mounts.course course

  -- a record's event is played
  pub mounts_on : (next : OpeningState) (bytes : List ℕ) → next.state.end ≡ next.next → PlaysEvent a b opening next bytes → Mounts entry b next
  mounts_on next bytes at plays = record {
    at = at;
    course = mounts_course;
    said = mounts_said;
    input = mounts_input;
    played_up_to = λ told.
        let had = mounts.played_up_to told in
        (had.0 ++ plays.event ∷ [], plays.played_up_to (told_next entry a mounts.course told) had.0 had.1);
    since = mounts_since;
  }

  -- the closed gate is found
  pub mounted : (state : State)
      → (IsTrue a.tells → (made : List Event) → IsPlayedUpTo (disk_now a) opening.state opening.next made → IsStoreOf (disk_now b) state made)
      → IsTrue entry.tells → (made : List Event) × IsStoreOf (disk_now b) state made × StandsForEvents (disk_now entry).now made
  mounted state store told =
      let had = mounts.played_up_to told in
      let holds = store (told_next entry a mounts.course told) had.0 had.1 in
      (had.0, holds, stood_since entry b mounts_since told state had.0 holds)
