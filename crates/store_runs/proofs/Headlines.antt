-- A whole run: the opening, and then the lines.
use Rattle.std.proofs.Common.{◌≡◌, ◌⊎◌, inl, inr, ⊎_elim, ℕ, ◌-◌, ◌<◌, ◌≤◌, List, [], ◌++◌, length, refl, sym, ◌∙◌, ap, subst, arith}
use Rattle.std.specs.Prelude.{IsTrue, map}
use Rattle.std.proofs.lemmas.List.{append-nil}
use Rattle.commit_journal.specs.Journal.{IsAtMostSynced}
use Rattle.host_port.specs.Host.{Told, Disk, MayLeave, GoesOn, Throughout, KeepsSaid, KeepsInput, AddsPart, Rose, disk_now, said_now}
use Rattle.host_port.proofs.Course.{at_last, carry_on, told_next, adds_none, said_kept_now, still_disk, keeps_input_on}
use Rattle.command_runs.specs.Runs.{played, replies, events, events_due}
use Rattle.command_runs.specs.Crashes.{IsRunning, IsOpenedRunning}
use Rattle.command_runs.proofs.Going.{among}
use Rattle.op_form.specs.declared.event.Event.{Event}
use Rattle.op_form.specs.Events.{event_encoding}
use Rattle.plain_repository.specs.State.{State, empty}
use Rattle.plain_repository.specs.Events.{play}
use Rattle.plain_repository.specs.Store.{StandsForEvents, StandsForNoEvents, IsDamaged}
use Rattle.plain_repository.proofs.Stores.{same_events}
use Rattle.store_session.specs.declared.answered.SessionFault.{SessionFault}
use Rattle.store_session.specs.declared.answered.SessionFault.TheVariants as session
use Rattle.store_session.specs.Session.{IsStoreOf, AtDamage}
use Rattle.store_session.specs.Opening.{IsMounting}
use Rattle.store_session.proofs.Reading.{is_long, reads_same}
use Rattle.store_session.specs.declared.status.Status.{Status}
use Rattle.store_session.specs.declared.status.Status.TheVariants.{Accepted, Refused, BadWords, ReadFault, WriteFault, DiskFault, Damaged, Memory, Input}
use Rattle.store_session.specs.Endings.{Ends, IsDone, NothingRose, KeepsFile, IsFoundDamaged, IsUnsaid, IsUnopened, IsUnanswered, IsHalted, IsKept}
use Rattle.store_session.specs.Endings.{session_status}
use Rattle.store_session.specs.Tasks.{Task}

-- at a moment of a task's run, whatever a crash leaves stands for the first events and some of the task's, or nothing was begun
abbrev pub IsRunOf : Told → List Event → Task → Disk → List ℕ → Type 0
IsRunOf entry first task = IsOpenedRunning (disk_now entry) StandsForEvents first (events task.answers) (events_due task.answers) (said_now entry)

-- the file at the start is damaged at the offset, and stands for no events
abbrev pub IsDamagedFrom : Told → ℕ → Type 0
IsDamagedFrom entry at = IsTrue entry.tells → IsDamaged (disk_now entry).now at × StandsForNoEvents (disk_now entry).now

-- no call at all leaves the file
pub file_still : (a : Told) → KeepsFile a a
file_still a told t low high = ap (λ d. d.now) (still_disk a told t low high)

-- a file that is synced at most reads as it was
pub file_reads : (entry b : Told) → Throughout entry b (λ disk said. IsAtMostSynced (disk_now entry) disk) → KeepsFile entry b
file_reads entry b moments told t low high = reads_same (disk_now entry) (b.disk t) (moments told t low high)

halted_from : (task : Task) (first : List Event) (entry a b : Told) → said_now a ≡ said_now entry → IsHalted task first a b → IsHalted task first entry b
halted_from task first entry a b same e =
    record { done = e.done; left = e.left; whole = e.whole; said = e.said ∙ ap (λ (l : List ℕ). l ++ replies e.done) same; stands = e.stands }

unsaid_from : (task : Task) (first : List Event) (entry a b : Told) → said_now a ≡ said_now entry → IsUnsaid task first a b → IsUnsaid task first entry b
unsaid_from task first entry a b same e = record {
  done = e.done;
  answer = e.answer;
  left = e.left;
  whole = e.whole;
  said = subst (λ (l : List ℕ). AddsPart (l ++ replies e.done) e.answer.reply (said_now b)) same e.said;
  stands = e.stands;
}

unanswered_from : (task : Task) (first : List Event) (entry a b : Told) → said_now a ≡ said_now entry → IsUnanswered task first a b
    → IsUnanswered task first entry b
unanswered_from task first entry a b same e =
    record {
      done = e.done;
      answer = e.answer;
      left = e.left;
      whole = e.whole;
      event = e.event;
      said =
          e.said ∙ ap (λ (l : List ℕ). l ++ replies e.done) same;
      stands = e.stands;
    }

ends_from : (task : Task) (first : List Event) (entry a b : Told) → said_now a ≡ said_now entry → KeepsInput entry a → (status : Status)
    → Ends task first a b status → Ends task first entry b status
ends_from task first entry a b same input Accepted e =
    (record { said = e.0.said ∙ ap (λ (l : List ℕ). l ++ replies task.answers) same; stands = e.0.stands }, e.1, e.2)
ends_from task first entry a b same input Refused e =
    (record { said = e.0.said ∙ ap (λ (l : List ℕ). l ++ replies task.answers) same; stands = e.0.stands }, e.1, e.2)
ends_from task first entry a b same input (Input fault at) e =
    (record { said = e.0.said ∙ ap (λ (l : List ℕ). l ++ replies task.answers) same; stands = e.0.stands }, e.1)
ends_from task first entry a b same input WriteFault e = unsaid_from task first entry a b same e
ends_from task first entry a b same input (Damaged at) e = e
ends_from task first entry a b same input BadWords e = e
ends_from task first entry a b same input ReadFault e = (halted_from task first entry a b same e.0, e.1)
ends_from task first entry a b same input DiskFault e =
    ⊎_elim (λ h. inl (record { said = h.said ∙ same; input = keeps_input_on entry a b input h.input; stands = h.stands }))
    (λ u. inr (unanswered_from task first entry a b same u)) e
ends_from task first entry a b same input Memory e = halted_from task first entry a b same e

-- nothing was answered
pub none_answered : (task : Task) (first : List Event) (entry a : Told) → IsUnopened first entry a → IsHalted task first entry a
none_answered task first entry a e = record {
  done = [];
  left = task.answers;
  whole = refl;
  said = e.said ∙ sym (append-nil (said_now entry));
  stands = subst (λ (l : List Event). StandsForEvents (disk_now a).now l) (sym (append-nil first)) e.stands;
}

-- the opening
module _ (entry a : Told) (course : GoesOn entry a) (said : KeepsSaid entry a)
    (mounting : Throughout entry a (λ disk said. IsMounting (disk_now entry) disk)) (first : List Event)
    (stood : StandsForEvents (disk_now entry).now first) (task : Task) where
  pub opening_part : Throughout entry a (λ disk said. AddsPart (said_now entry) (replies task.answers) said)
  opening_part = adds_none entry a (replies task.answers) said

  pub opening_moments : Throughout entry a
      (IsRunOf entry first task)
  opening_moments told t low high =
      let none : length (a.said t) - length (said_now entry) ≤ 0 = omega (arith, ap length (said told t low high)) in
      ⊎_elim
      (λ before. inl (before, said told t low high))
      (λ same. inr (λ x left. among StandsForEvents first task.answers [] task.answers x (length (a.said t) - length (said_now entry)) refl none
      (subst (λ (l : List Event). StandsForEvents x l) (sym (append-nil first))
      (record { forms = same x left (map event_encoding first) stood.forms; playable = stood.playable }))))
      (mounting told t low high)

  -- before the first line
  pub unopened : KeepsInput entry a → MayLeave (disk_now a) (disk_now a).now → IsTrue entry.tells → IsUnopened first entry a
  unopened input left told = record {
    said = said_kept_now entry a course said told;
    input = input;
    stands = ⊎_elim
        (λ before. subst (λ d. StandsForEvents d.now first) (sym before) stood)
        (λ same. record { forms = same (disk_now a).now left (map event_encoding first) stood.forms; playable = stood.playable })
        (at_last entry a (λ disk said. IsMounting (disk_now entry) disk) course mounting told);
  }

-- the opening, and then what the task asks for, which goes by the state of the store and the input
module _ (entry a : Told) (course : GoesOn entry a) (said : KeepsSaid entry a)
    (mounting : Throughout entry a (λ disk said. IsMounting (disk_now entry) disk)) (first : List Event)
    (stood : StandsForEvents (disk_now entry).now first)
    (b : Told) (input : KeepsInput entry a) (on : GoesOn a b) (now : State) (asked : State → List ℕ → Task)
    (opened : IsTrue entry.tells → (made : List Event) × IsStoreOf (disk_now a) now made × StandsForEvents (disk_now entry).now made) where
  -- the task is done over the store as it was opened
  abbrev pub IsDoneAs : Status → Type 0
  IsDoneAs status = (made : List Event) → IsStoreOf (disk_now a) now made → IsDone (asked now a.left) made a b status

  holds_first : IsTrue entry.tells → IsStoreOf (disk_now a) now first
  holds_first told =
      let had = opened told in
      subst (λ (l : List Event). IsStoreOf (disk_now a) now l) (sym (same_events (disk_now entry).now first had.0 stood had.2)) had.1

  task_is : IsTrue entry.tells → asked now a.left ≡ asked (played play empty first) entry.left
  task_is told = ap (λ (s : State). asked s a.left) (holds_first told).state_is ∙ ap (λ (l : List ℕ). asked (played play empty first) l) input.left

  said_is : IsTrue entry.tells → said_now a ≡ said_now entry
  said_is told = said_kept_now entry a course said told

  pub whole_ends : (status : Status) → IsDoneAs status → IsTrue entry.tells → Ends (asked (played play empty first) entry.left) first entry b status
  whole_ends status done told = ends_from (asked (played play empty first) entry.left) first entry a b (said_is told) input status
      (subst (λ (t : Task). Ends t first a b status) (task_is told) ((done first (holds_first told)).ends (told_next entry a course told)))

  pub whole_part : (status : Status) → IsDoneAs status
      → Throughout entry b (λ disk said. AddsPart (said_now entry) (replies (asked (played play empty first) entry.left).answers) said)
  whole_part status done told =
      carry_on entry a b (λ disk said. AddsPart (said_now entry) (replies (asked (played play empty first) entry.left).answers) said) course on
      (opening_part entry a course said mounting first stood (asked (played play empty first) entry.left))
      (subst (λ (l : List ℕ). Throughout a b (λ disk said. AddsPart l (replies (asked (played play empty first) entry.left).answers) said)) (said_is told)
      (subst (λ (t : Task). Throughout a b (λ disk said. AddsPart (said_now a) (replies t.answers) said)) (task_is told)
      (done first (holds_first told)).part)) told

  pub whole_moments : (status : Status) → IsDoneAs status
      → Throughout entry b (IsRunOf entry first (asked (played play empty first) entry.left))
  whole_moments status done told = carry_on entry a b
      (IsRunOf entry first (asked (played play empty first) entry.left)) course on
      (opening_moments entry a course said mounting first stood (asked (played play empty first) entry.left))
      (λ told_a t low high. inr (
      subst (λ (l : List ℕ).
      Throughout a b (IsRunning StandsForEvents first (events (asked (played play empty first) entry.left).answers)
      (events_due (asked (played play empty first) entry.left).answers) l)) (said_is told)
      (subst (λ (t : Task). Throughout a b (IsRunning StandsForEvents first (events t.answers) (events_due t.answers) (said_now a))) (task_is told)
      (done first (holds_first told)).moments) told_a t low high)) told

  -- where the task makes no event, the disk is synced at most
  pub whole_still : (17 < length (disk_now entry).now → Throughout entry a (λ disk said. IsAtMostSynced (disk_now entry) disk))
      → (status : Status) → IsDoneAs status
      → events (asked (played play empty first) entry.left).answers ≡ [] → 17 < length (disk_now entry).now
      → Throughout entry b (λ disk said. IsAtMostSynced (disk_now entry) disk)
  whole_still opening status done none long told = carry_on entry a b (λ disk said. IsAtMostSynced (disk_now entry) disk) course on (opening long)
      (λ told_a t low high. subst (IsAtMostSynced (disk_now entry))
      (sym ((done first (holds_first told)).still (subst (λ (t : Task). events t.answers ≡ []) (sym (task_is told)) none) told_a t low high))
      (at_last entry a (λ disk said. IsAtMostSynced (disk_now entry) disk) course (opening long) told)) told

-- what stands in the file at the end of a run
pub stopped : (entry b : Told) (first : List Event) (task : Task) → GoesOn entry b
    → Throughout entry b (IsRunOf entry first task)
    → StandsForEvents (disk_now entry).now first → MayLeave (disk_now b) (disk_now b).now → IsTrue entry.tells → IsKept task first entry b
stopped entry b first task course moments stood left told = ⊎_elim
    (λ before. among StandsForEvents first task.answers [] task.answers (disk_now b).now (length (said_now b) - length (said_now entry)) refl
    (omega (arith, ap length before.1))
    (subst (λ (l : List Event). StandsForEvents (disk_now b).now l) (sym (append-nil first)) (subst (λ d. StandsForEvents d.now first) (sym before.0) stood)))
    (λ running. running (disk_now b).now left)
    (at_last entry b (IsRunOf entry first task) course
    moments told)

-- where nothing rose, the run comes to what its task comes to
pub complete : (task : Task) (first : List Event) (entry b : Told) (status : Status) → Ends task first entry b status → NothingRose entry b
    → (status ≡ ReadFault → Rose entry.take_faults b.take_faults) → (status ≡ WriteFault → Rose entry.say_faults b.say_faults)
    → (status ≡ DiskFault → Rose entry.disk_faults b.disk_faults)
    → (status ≡ task.end) ⊎ (status ≡ Memory)
complete task first entry b Accepted e none read write disk = inl (sym e.1)
complete task first entry b Refused e none read write disk = inl (sym e.1)
complete task first entry b (Input fault at) e none read write disk = inl (sym e.1)
complete task first entry b WriteFault e none read write disk = absurd (none.say_faults (write refl))
complete task first entry b (Damaged at) e none read write disk = absurd e
complete task first entry b BadWords e none read write disk = absurd e
complete task first entry b ReadFault e none read write disk = absurd (none.take_faults (read refl))
complete task first entry b DiskFault e none read write disk = absurd (none.disk_faults (disk refl))
complete task first entry b Memory e none read write disk = inr refl

-- a store that was not opened
module _ (entry a : Told) (fault : SessionFault) (never : fault ≡ session.SayFault → ⊥)
    (damage : AtDamage fault (IsDamagedFrom entry)) where
  pub unopened_ends : (task : Task) (first : List Event) → IsTrue entry.tells → StandsForEvents (disk_now entry).now first → IsUnopened first entry a
      → Ends task first entry a (session_status fault)
  unopened_ends task first told stood ended = go fault never damage
    where
      go : (f : SessionFault) → (f ≡ session.SayFault → ⊥)
          → AtDamage f (IsDamagedFrom entry)
          → Ends task first entry a (session_status f)
      go session.DiskFault n d = inl ended
      go session.SayFault n d = absurd (n refl)
      go (session.Damaged at) n d = (d told).1 first stood
      go session.Memory n d = none_answered task first entry a ended

  pub unopened_damaged : (17 < length (disk_now entry).now → Throughout entry a (λ disk said. IsAtMostSynced (disk_now entry) disk))
      → KeepsSaid entry a → KeepsInput entry a → (at : ℕ) → session_status fault ≡ Damaged at → IsFoundDamaged entry a at
  unopened_damaged long said input at is = go fault damage is
    where
      go : (f : SessionFault) → AtDamage f (IsDamagedFrom entry)
          → session_status f ≡ Damaged at → IsFoundDamaged entry a at
      go session.DiskFault d e = absurd cc
      go session.SayFault d e = absurd cc
      go (session.Damaged b) d e =
          let same : b ≡ at = cc in
          record {
            offset = λ told. subst (λ (n : ℕ). IsDamaged (disk_now entry).now n) same (d told).0;
            no_events = λ told. (d told).1;
            file =
                λ told. file_reads entry a (long (is_long (disk_now entry).now (d told).1)) told;
            said = said;
            input = input;
          }
      go session.Memory d e = absurd cc

  pub unopened_damages : ((at : ℕ) × (session_status fault ≡ Damaged at)) ⊎ (session_status fault ≡ DiskFault) ⊎ (session_status fault ≡ Memory)
  unopened_damages = go fault never
    where
      go : (f : SessionFault) → (f ≡ session.SayFault → ⊥)
          → ((at : ℕ) × (session_status f ≡ Damaged at)) ⊎ (session_status f ≡ DiskFault) ⊎ (session_status f ≡ Memory)
      go session.DiskFault n = inr (inl refl)
      go session.SayFault n = absurd (n refl)
      go (session.Damaged at) n = inl (at, refl)
      go session.Memory n = inr (inr refl)

pub never_read : (fault : SessionFault) → session_status fault ≡ ReadFault → ⊥
never_read session.DiskFault is = absurd cc
never_read session.SayFault is = absurd cc
never_read (session.Damaged at) is = absurd cc
never_read session.Memory is = absurd cc

pub status_disk : (fault : SessionFault) → session_status fault ≡ DiskFault → fault ≡ session.DiskFault
status_disk session.DiskFault is = refl
status_disk session.SayFault is = absurd cc
status_disk (session.Damaged at) is = absurd cc
status_disk session.Memory is = absurd cc

pub status_say : (fault : SessionFault) → session_status fault ≡ WriteFault → fault ≡ session.SayFault
status_say session.DiskFault is = absurd cc
status_say session.SayFault is = refl
status_say (session.Damaged at) is = absurd cc
status_say session.Memory is = absurd cc
