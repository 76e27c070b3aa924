-- A run over turns: what one answer more does, and how the run ends.
use Rattle.std.proofs.Common.{◌≡◌, inl, inr, ⊎_elim, ℕ, List, [], ◌∷◌, ◌++◌, Bool, true}
use Rattle.std.proofs.Common.{false, ◌||◌, None, Err, append_assoc, refl, sym, ◌∙◌, ap, subst}
use Rattle.std.specs.Prelude.{IsTrue, IsSome, IfOk, IfErr, Result, Ok}
use Rattle.std.specs.Result.{IsErrAnd}
use Rattle.std.proofs.lemmas.List.{append-nil}
use Rattle.host_port.specs.Host.{MayLeave, Told, GoesOn, Throughout, KeepsDisk, KeepsSaid, AddsPart, Rose, disk_now, said_now}
use Rattle.host_port.proofs.Course.{adds_none, at_last, course_on, course_still, kept_now, rose_second, said_kept_now, still_disk, still_said, told_next}
use Rattle.command_runs.specs.Runs.{Answer, listed, after, replies, events, refuses}
use Rattle.command_runs.specs.Crashes.{IsStepping}
use Rattle.command_runs.proofs.RunLaws.{events-more, or_assoc, or_false}
use Rattle.command_runs.proofs.Going.{Going, Steps, quietly, begins, one_more, stepped_part, stepped_moments, stepped_still, answers_more}
use Rattle.op_form.specs.declared.event.Event.{Event}
use Rattle.plain_repository.specs.State.{State}
use Rattle.plain_repository.specs.Events.{play}
use Rattle.plain_repository.specs.Store.{StandsForEvents}
use Rattle.store_session.specs.declared.answered.SessionFault.{SessionFault}
use Rattle.store_session.specs.declared.answered.SessionFault.TheVariants as session
use Rattle.store_session.specs.Session.{IsStoreOf, IfMade}
use Rattle.store_session.proofs.Entering.{rest_leaves, holds_stands, none_added, say_step}
use Rattle.store_session.specs.declared.status.Status.{Status}
use Rattle.store_session.specs.declared.status.Status.TheVariants.{Accepted, Refused, BadWords, ReadFault, WriteFault, DiskFault, Damaged, Memory, Input}
use Rattle.store_session.specs.Endings.{IsServed, IsUnsaid, IsUnanswered, IsHalted, Ends, IsDone, session_status}
use Rattle.store_session.specs.Tasks.{Task, telling_one}
use Rattle.store_turns.specs.Standing.{Between, Standing, IsOver, IsStop}

-- the store has the answer's event after those that it had
abbrev pub AddsEvent : Told → Told → State → State → Answer Event → Type 0
AddsEvent b d state now answer =
    IsTrue b.tells → (made : List Event) → IsStoreOf (disk_now b) state made → IsStoreOf (disk_now d) now (made ++ listed answer.event)

-- ---- the run begins
pub begins_standing : (entry : Told) (first : State) (task : Task) (end : Bool → Status) (broken : Bool) → broken ≡ false
    → (IsTrue entry.tells → (made : List Event) × IsStoreOf (disk_now entry) first made) → task.end ≡ end (refuses task.answers)
    → Standing entry entry first task end task.answers false first broken
begins_standing entry first task end broken unbroken holds end_is = record {
  unbroken = unbroken;
  course = course_still entry;
  holds = holds;
  between = λ told made rest. record {
    going = begins StandsForEvents entry made task.answers (λ events. IsStoreOf (disk_now entry) first events)
        (λ holds_made. rest_leaves (disk_now entry) first made holds_made) rest;
    end_is = end_is;
  };
}

module _ (entry a : Told) (first : State) (task : Task) (end : Bool → Status) (left : List (Answer Event)) (refused : Bool) (state : State) (broken : Bool)
    (stands : Standing entry a first task end left refused state broken) where
  -- the same, with what is left told otherwise
  pub told_as : (other : List (Answer Event)) → (IsTrue entry.tells → left ≡ other) → Standing entry a first task end other refused state broken
  told_as other is = record {
    unbroken = stands.unbroken;
    course = stands.course;
    holds = stands.holds;
    between = λ told made holds. subst (λ (l : List (Answer Event)). Between entry a made task end l refused state) (is told) (stands.between told made holds);
  }

  pub refused_as : (other : Bool) → refused ≡ other → Standing entry a first task end left other state broken
  refused_as other is = subst (λ (r : Bool). Standing entry a first task end left r state broken) is stands

  -- ---- calls that write and print nothing
  module _ (b : Told) (on : GoesOn a b) (disk : KeepsDisk a b) (said : KeepsSaid a b) where
    looked_between : IsTrue entry.tells → (made : List Event) → IsStoreOf (disk_now entry) first made
        → Between entry b made task end left refused state
    looked_between told made holds =
        let between = stands.between told made holds in
        record {
          going = quietly StandsForEvents entry made task.answers a b left (λ events. IsStoreOf (disk_now a) state events) between.going stands.course on disk
              said (λ events rests. rest_leaves (disk_now a) state events rests) told (λ events. IsStoreOf (disk_now b) state events)
              (λ events rests. subst (λ d. IsStoreOf d state events) (sym (kept_now a b on disk (told_next entry a stands.course told))) rests);
          end_is = between.end_is;
        }

    pub looked_on : Standing entry b first task end left refused state broken
    looked_on = record {
      unbroken = stands.unbroken;
      course = course_on entry a b stands.course on;
      holds = λ told. let had = stands.holds told
          in (had.0, subst (λ x. IsStoreOf x state had.0) (sym (kept_now a b on disk (told_next entry a stands.course told))) had.1);
      between = looked_between;
    }

    looked_done : (made : List Event) → IsStoreOf (disk_now entry) first made → (status : Status)
        → (IsTrue entry.tells → Ends task made entry b status) → IsDone task made entry b status
    looked_done made holds status ends = record {
      ends = ends;
      part = λ told. (looked_between told made holds).going.part told;
      moments = λ told. (looked_between told made holds).going.moments told;
      still = λ none told. (looked_between told made holds).going.still none told;
    }

    -- nothing more is printed and kept
    pub halted : (made : List Event) → IsStoreOf (disk_now entry) first made → IsTrue entry.tells → IsHalted task made entry b
    halted made holds told =
        let going = (looked_between told made holds).going in
        record {
          done = going.done;
          left = left;
          whole = going.whole_is;
          said = going.said;
          stands = holds_stands (disk_now b) state (made ++ events going.done) going.rest;
        }

    pub memory_done : (made : List Event) → IsStoreOf (disk_now entry) first made → IsDone task made entry b Memory
    memory_done made holds = looked_done made holds Memory (halted made holds)

    pub read_done : IsTrue task.reads → (made : List Event) → IsStoreOf (disk_now entry) first made → IsDone task made entry b ReadFault
    read_done reads made holds = looked_done made holds ReadFault (λ told. (halted made holds told, reads))

    -- no answer is left
    module _ (none : IsTrue entry.tells → left ≡ []) (made : List Event) (holds : IsStoreOf (disk_now entry) first made) where
      all_done : (told : IsTrue entry.tells) → task.answers ≡ (looked_between told made holds).going.done
      all_done told =
          let going = (looked_between told made holds).going in
          going.whole_is ∙ ap (λ (l : List (Answer Event)). going.done ++ l) (none told) ∙ append-nil going.done

      pub served : IsTrue entry.tells → IsServed task made entry b
      served told =
          let going = (looked_between told made holds).going in
          record {
            said = going.said ∙ ap (λ (l : List (Answer Event)). said_now entry ++ replies l) (sym (all_done told));
            stands = subst (λ (l : List (Answer Event)). StandsForEvents (disk_now b).now (made ++ events l)) (sym (all_done told))
                (holds_stands (disk_now b) state (made ++ events going.done) going.rest);
          }

      pub ends_so : IsTrue entry.tells → task.end ≡ end refused
      ends_so told =
          (looked_between told made holds).end_is ∙ ap (λ (l : List (Answer Event)). end (refused || refuses l)) (none told) ∙ ap (λ
          (r : Bool). end r) (or_false refused)

      pub accepted_done : (IsTrue entry.tells → end refused ≡ Accepted) → (IsTrue entry.tells → b.left ≡ []) → IsDone task made entry b Accepted
      accepted_done is empty = looked_done made holds Accepted (λ told. (served told, ends_so told ∙ is told, λ reads. empty told))

      pub refused_done : (IsTrue entry.tells → end refused ≡ Refused) → (IsTrue entry.tells → b.left ≡ []) → IsDone task made entry b Refused
      refused_done is empty = looked_done made holds Refused (λ told. (served told, ends_so told ∙ is told, λ reads. empty told))

      pub input_done : (fault at : ℕ) → (IsTrue entry.tells → end refused ≡ Input fault at) → IsDone task made entry b (Input fault at)
      input_done fault at is = looked_done made holds (Input fault at) (λ told. (served told, ends_so told ∙ is told))

  -- ---- an answer
  module _ (d : Told) (answer : Answer Event) (next : List (Answer Event)) (left_is : left ≡ answer ∷ next) (on : GoesOn a d)
      (part : Throughout a d (λ disk said. AddsPart (said_now a) answer.reply said))
      (moments : (made : List Event) → IsStoreOf (disk_now a) state made → Throughout a d (IsStepping StandsForEvents made answer.event (said_now a)))
      (still : answer.event ≡ None → KeepsDisk a d) where
    steps : Steps StandsForEvents a d answer (λ events. IsStoreOf (disk_now a) state events)
    steps = record { course = on; part = part; moments = moments; still = still }

    module _ (made : List Event) (holds : IsStoreOf (disk_now entry) first made) where
      at_hand : IsTrue entry.tells → Going StandsForEvents entry a made task.answers left (λ events. IsStoreOf (disk_now a) state events)
      at_hand told = (stands.between told made holds).going

      whole_more : (told : IsTrue entry.tells) → task.answers ≡ ((at_hand told).done ++ answer ∷ []) ++ next
      whole_more told = answers_more StandsForEvents entry made task.answers a d left (λ events. IsStoreOf (disk_now a) state events) (at_hand told)
          stands.course answer next left_is steps

      answered_done : (status : Status) → (IsTrue entry.tells → Ends task made entry d status) → IsDone task made entry d status
      answered_done status ends = record {
        ends = ends;
        part = λ told. stepped_part StandsForEvents entry made task.answers a d left (λ events. IsStoreOf (disk_now a) state events) (at_hand told)
            stands.course answer next left_is steps told;
        moments = λ told. stepped_moments StandsForEvents entry made task.answers a d left (λ events. IsStoreOf (disk_now a) state events)
            (at_hand told) stands.course answer next left_is steps told;
        still = λ none told. stepped_still StandsForEvents entry made task.answers a d left (λ events. IsStoreOf (disk_now a) state events)
            (at_hand told) stands.course answer next left_is steps none told;
      }

      kept_too : (done : List (Answer Event)) → StandsForEvents (disk_now d).now ((made ++ events done) ++ listed answer.event)
          → StandsForEvents (disk_now d).now (made ++ events (done ++ answer ∷ []))
      kept_too done stood = subst (λ (l : List Event). StandsForEvents (disk_now d).now l)
          (append_assoc made (events done) (listed answer.event) ∙ ap (λ (l : List Event). made ++ l) (sym (events-more done answer))) stood

      -- it was being written, and is kept or not
      unanswered : IsTrue entry.tells → KeepsSaid a d × IsSome answer.event → MayLeave (disk_now d) (disk_now d).now → IsUnanswered task made entry d
      unanswered told quiet left_now =
          let going = at_hand told in
          let told_a = told_next entry a stands.course told in
          let stood = at_last a d (IsStepping StandsForEvents (made ++ events going.done) answer.event (said_now a)) on
          (moments (made ++ events going.done) going.rest) told_a (disk_now d).now left_now in
          record {
            done = going.done;
            answer = answer;
            left = next;
            whole = whole_more told;
            event = quiet.1;
            said = said_kept_now a d on quiet.0 told_a ∙ going.said;
            stands = ⊎_elim (λ (before, same). inl before) (λ both. inr (kept_too going.done both)) stood;
          }

      -- its reply was not printed whole, and it is kept
      unsaid : (now : State) → AddsEvent a d state now answer → IsTrue entry.tells → IsUnsaid task made entry d
      unsaid now added told =
          let going = at_hand told in
          let told_a = told_next entry a stands.course told in
          record {
            done = going.done;
            answer = answer;
            left = next;
            whole = whole_more told;
            said = subst (λ (l : List ℕ). AddsPart l answer.reply (said_now d)) going.said
                (at_last a d (λ disk said. AddsPart (said_now a) answer.reply said) on part told_a);
            stands = kept_too going.done
                (holds_stands (disk_now d) now ((made ++ events going.done) ++ listed answer.event) (added told_a (made ++ events going.done) going.rest));
          }

      pub write_done : (now : State) → AddsEvent a d state now answer → IsDone task made entry d WriteFault
      write_done now added = answered_done WriteFault (unsaid now added)

    -- the session failed
    pub fault_done : (fault : SessionFault) (now : State) → IfMade (Err fault) (AddsEvent a d state now answer)
        → ((at : ℕ) → fault ≡ session.Damaged at → ⊥) → (fault ≡ session.Memory → KeepsDisk a d × KeepsSaid a d)
        → (fault ≡ session.DiskFault → KeepsSaid a d × IsSome answer.event) → (IsTrue d.tells → MayLeave (disk_now d) (disk_now d).now)
        → (made : List Event) → IsStoreOf (disk_now entry) first made → IsDone task made entry d (session_status fault)
    fault_done session.DiskFault now added never quiet unsaid_yet left_now made holds =
        answered_done made holds (session_status session.DiskFault) (λ told. inr (unanswered made holds told (unsaid_yet refl)
        (left_now (told_next entry d (course_on entry a d stands.course on) told))))
    fault_done session.SayFault now added never quiet unsaid_yet left_now made holds = write_done made holds now added
    fault_done (session.Damaged at) now added never quiet unsaid_yet left_now made holds = absurd (never at refl)
    fault_done session.Memory now added never quiet unsaid_yet left_now made holds =
        let keeps = quiet refl in memory_done d on keeps.0 keeps.1 made holds

    -- the reply was printed
    pub answered_on : (now : State) (broken_d refused_d : Bool) → broken_d ≡ false → (refused || answer.refused) ≡ refused_d
        → now ≡ after play state answer.event → (IsTrue a.tells → said_now d ≡ said_now a ++ answer.reply) → AddsEvent a d state now answer
        → Standing entry d first task end next refused_d now broken_d
    answered_on now broken_d refused_d unbroken refused_is now_is said added = record {
      unbroken = unbroken;
      course = course_on entry a d stands.course on;
      holds = λ told. let had = stands.holds told in (had.0 ++ listed answer.event, added (told_next entry a stands.course told) had.0 had.1);
      between = λ told made holds. record {
        going = one_more StandsForEvents entry made task.answers a d left (λ events. IsStoreOf (disk_now a) state events) (at_hand made holds told)
            stands.course answer next left_is steps (λ events. IsStoreOf (disk_now d) now events) (said (told_next entry a stands.course told))
            (added (told_next entry a stands.course told));
        end_is = (stands.between told made holds).end_is ∙ ap (λ (l : List (Answer Event)). end (refused || refuses l)) left_is
            ∙ ap (λ (r : Bool). end r) (sym (or_assoc refused answer.refused (refuses next)))
            ∙ ap (λ (r : Bool). end (r || refuses next)) refused_is;
      };
    }

  -- ---- bytes that are printed, and no event
  module _ (d : Told) (line bytes : List ℕ) (was : Bool) (next : List (Answer Event)) (left_is : left ≡ telling_one line was ∷ next) (bytes_are : bytes ≡ line)
      (on : GoesOn a d) (disk : KeepsDisk a d) (part : Throughout a d (λ disk said. AddsPart (said_now a) bytes said)) where
    line_part : Throughout a d (λ disk said. AddsPart (said_now a) line said)
    line_part = subst (λ (l : List ℕ). Throughout a d (λ disk said. AddsPart (said_now a) l said)) bytes_are part

    line_moments : (made : List Event) → IsStoreOf (disk_now a) state made → Throughout a d (IsStepping StandsForEvents made None (said_now a))
    line_moments made holds = say_step a d state made None (said_now a) (none_added (disk_now a) state made holds) disk

    line_added : AddsEvent a d state state (telling_one line was)
    line_added told made holds = none_added (disk_now d) state made (subst (λ x. IsStoreOf x state made) (sym (kept_now a d on disk told)) holds)

    pub line_write_done : (made : List Event) → IsStoreOf (disk_now entry) first made → IsDone task made entry d WriteFault
    line_write_done made holds =
        write_done d (telling_one line was) next left_is on line_part line_moments (λ none. disk) made holds state line_added

    pub line_on : (IsTrue a.tells → said_now d ≡ said_now a ++ bytes) → Standing entry d first task end next (refused || was) state broken
    line_on said =
        answered_on d (telling_one line was) next left_is on line_part line_moments (λ none. disk) state broken (refused || was) stands.unbroken refl refl
        (λ told. said told ∙ ap (λ (l : List ℕ). said_now a ++ l) bytes_are) line_added

-- an item that gets no reply
pub skipped_on : (entry a : Told) (first : State) (task : Task) (end : Bool → Status) (next : List (Answer Event)) (refused : Bool) (state : State)
    (broken : Bool) → Standing entry a first task end (telling_one [] false ∷ next) refused state broken
    → Standing entry a first task end next refused state broken
skipped_on entry a first task end next refused state broken stands =
    refused_as entry a first task end next (refused || false) state broken
    (line_on entry a first task end (telling_one [] false ∷ next) refused state broken stands a [] [] false next refl refl (course_still a) (still_disk a)
    (adds_none a a [] (still_said a)) (λ told. sym (append-nil (said_now a)))) refused (or_false refused)

-- memory runs out between two calls of the host
pub starved : (entry a : Told) (first : State) (task : Task) (end : Bool → Status) (left : List (Answer Event)) (refused : Bool) (state : State)
    (broken : Bool) → IsOver entry a a first task end left refused state broken Memory
starved entry a first task end left refused state broken stands made holds =
    memory_done entry a first task end left refused state broken stands a (course_still a) (still_disk a) (still_said a) made holds

-- ---- what stopped a run
pub stop_of : (fault : SessionFault) (before now : Told) → ((at : ℕ) → fault ≡ session.Damaged at → ⊥)
    → (fault ≡ session.DiskFault → Rose before.disk_faults now.disk_faults) → (fault ≡ session.SayFault → Rose before.say_faults now.say_faults)
    → IsStop (session_status fault) before now
stop_of session.DiskFault before now never disk say = disk refl
stop_of session.SayFault before now never disk say = say refl
stop_of (session.Damaged at) before now never disk say = never at refl
stop_of session.Memory before now never disk say = tt

-- what stopped a later part of a run stopped the run
pub stop_on : (status : Status) (a b c : Told) → GoesOn a b → IsStop status b c → IsStop status a c
stop_on Accepted a b c on stop = stop
stop_on Refused a b c on stop = stop
stop_on BadWords a b c on stop = stop
stop_on ReadFault a b c on stop = stop
stop_on WriteFault a b c on stop = rose_second a.say_faults b.say_faults c.say_faults on.say_faults stop
stop_on DiskFault a b c on stop = rose_second a.disk_faults b.disk_faults c.disk_faults on.disk_faults stop
stop_on (Damaged at) a b c on stop = stop
stop_on Memory a b c on stop = stop
stop_on (Input fault at) a b c on stop = stop

module _ (status : Status) (a b : Told) (stop : IsStop status a b) where
  as_is : (other : Status) → status ≡ other → IsStop other a b
  as_is other is = subst (λ (s : Status). IsStop s a b) is stop

  pub stop_words : status ≡ BadWords → ⊥
  stop_words is = as_is BadWords is

  pub stop_read : status ≡ ReadFault → ⊥
  stop_read is = as_is ReadFault is

  pub stop_write : status ≡ WriteFault → Rose a.say_faults b.say_faults
  stop_write is = as_is WriteFault is

  pub stop_disk : status ≡ DiskFault → Rose a.disk_faults b.disk_faults
  stop_disk is = as_is DiskFault is

  pub stop_damaged : (at : ℕ) → status ≡ Damaged at → ⊥
  stop_damaged at is = as_is (Damaged at) is

-- ---- what a call gave, told otherwise
pub ok_map : {A E : Type 0} (r : Result A E) (P Q : A → Type 0) → ((x : A) → P x → Q x) → IfOk r P → IfOk r Q
ok_map (Ok x) P Q f p = f x p
ok_map (Err e) P Q f p = tt

pub err_map : {A E : Type 0} (r : Result A E) (P Q : E → Type 0) → ((x : E) → P x → Q x) → IfErr r P → IfErr r Q
err_map (Ok x) P Q f p = tt
err_map (Err e) P Q f p = f e p

-- an error that was handed on
pub err_as : {A E : Type 0} (r : Result A E) (e : E) (P : E → Type 0) → IsErrAnd r (λ x. x ≡ e) → P e → IfErr r P
err_as (Ok x) e P is p = tt
err_as (Err x) e P is p = subst P (sym is) p

pub or_true : (b : Bool) → (b || true) ≡ true
or_true true = refl
or_true false = refl
