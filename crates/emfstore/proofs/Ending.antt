-- What a run has done stays so while nothing changes after it.
use Rattle.std.proofs.Common.{◌≡◌, inl, inr, ℕ, ◌-◌, List, ◌++◌, ◌∷◌, [], length, sym, ◌∙◌, subst}
use Rattle.std.specs.Prelude.{IsTrue, ◌⊎◌}
use Rattle.host_port.specs.Host.{Told, Disk, GoesOn, Throughout, AddsPart, disk_now, said_now}
use Rattle.host_port.proofs.Course.{told_next, carry_on, at_last, course_on, keeps_said_on, keeps_input_on, kept_now, said_kept_now, rose_first}
use Rattle.system_port.specs.Stays.{Stays}
use Rattle.system_port.proofs.Staying.{stays_on}
use Rattle.command_runs.specs.Runs.{replies, events, events_due}
use Rattle.command_runs.specs.Crashes.{StandsForAtLeast, IsOpenedRunning}
use Rattle.commit_journal.specs.Journal.{IsAtMostSynced}
use Rattle.op_form.specs.declared.event.Event.{Event}
use Rattle.plain_repository.specs.Store.{StandsForEvents}
use Rattle.plain_repository.specs.State.{empty}
use Rattle.plain_repository.specs.Events.{play}
use Rattle.command_runs.specs.Runs.{played}
use Rattle.store_session.specs.Tasks.{Task}
use Rattle.store_session.specs.declared.status.Status.{Status}
use Rattle.store_session.specs.declared.status.Status.TheVariants.{Accepted, Refused, BadWords, ReadFault, WriteFault, DiskFault, Damaged, Memory, Input}
use Rattle.store_session.specs.Endings.{IsServed, IsUnsaid, IsUnopened, IsUnanswered, IsHalted, IsKept, Ends, NothingRose, IsFoundDamaged}
use Rattle.emf_top.specs.Tasks.{task_of}
use Rattle.emfstore.specs.Program.{IsRun}

module _ (a b c : Told) (ab : GoesOn a b) (bc : Stays b c) where
  throughout : (P : Disk → List ℕ → Type 0) → Throughout a b P → Throughout a c P
  throughout P first = carry_on a b c P ab bc.course first
      (λ told t low high.
      let told_a : IsTrue a.tells = subst IsTrue ab.tells told in
      subst (λ d. P d (c.said t)) (sym (bc.disk told t low high))
      (subst (λ s. P (disk_now b) s) (sym (bc.said told t low high)) (at_last a b P ab first told_a)))

  disk_same : IsTrue a.tells → disk_now c ≡ disk_now b
  disk_same told = kept_now b c bc.course bc.disk (told_next a b ab told)

  said_same : IsTrue a.tells → said_now c ≡ said_now b
  said_same told = said_kept_now b c bc.course bc.said (told_next a b ab told)

  stands : IsTrue a.tells → (all : List Event) → StandsForEvents (disk_now b).now all → StandsForEvents (disk_now c).now all
  stands told all now = subst (λ (d : Disk). StandsForEvents d.now all) (sym (disk_same told)) now

  served : IsTrue a.tells → (task : Task) (first : List Event) → IsServed task first a b → IsServed task first a c
  served told task first s = record { said = said_same told ∙ s.said; stands = stands told _ s.stands }

  halted : IsTrue a.tells → (task : Task) (first : List Event) → IsHalted task first a b → IsHalted task first a c
  halted told task first s = record { done = s.done; left = s.left; whole = s.whole; said = said_same told ∙ s.said; stands = stands told _ s.stands }

  unsaid : IsTrue a.tells → (task : Task) (first : List Event) → IsUnsaid task first a b → IsUnsaid task first a c
  unsaid told task first s = record {
    done = s.done;
    answer = s.answer;
    left = s.left;
    whole = s.whole;
    said = subst (λ (l : List ℕ). AddsPart (said_now a ++ replies s.done) s.answer.reply l) (sym (said_same told)) s.said;
    stands = stands told _ s.stands;
  }

  unopened : IsTrue a.tells → (first : List Event) → IsUnopened first a b → IsUnopened first a c
  unopened told first s = record { said = said_same told ∙ s.said; input = keeps_input_on a b c s.input bc.input; stands = stands told _ s.stands }

  unanswered : IsTrue a.tells → (task : Task) (first : List Event) → IsUnanswered task first a b → IsUnanswered task first a c
  unanswered told task first s = record {
    done = s.done;
    answer = s.answer;
    left = s.left;
    whole = s.whole;
    event = s.event;
    said = said_same told ∙ s.said;
    stands = subst
        (λ (d : Disk). StandsForEvents d.now (first ++ events s.done) ⊎ StandsForEvents d.now (first ++ events (s.done ++ s.answer ∷ [])))
        (sym (disk_same told)) s.stands;
  }

  ends : IsTrue a.tells → (task : Task) (first : List Event) (status : Status) → Ends task first a b status → Ends task first a c status
  ends told task first Accepted s = (served told task first s.0, s.1, λ reads. bc.input.left ∙ s.2 reads)
  ends told task first Refused s = (served told task first s.0, s.1, λ reads. bc.input.left ∙ s.2 reads)
  ends told task first (Input fault at) s = (served told task first s.0, s.1)
  ends told task first WriteFault s = unsaid told task first s
  ends told task first (Damaged at) s = s
  ends told task first BadWords s = s
  ends told task first ReadFault s = (halted told task first s.0, s.1)
  ends told task first DiskFault (inl s) = inl (unopened told first s)
  ends told task first DiskFault (inr s) = inr (unanswered told task first s)
  ends told task first Memory s = halted told task first s

  kept : IsTrue a.tells → (task : Task) (first : List Event) → IsKept task first a b → IsKept task first a c
  kept told task first k =
      subst (λ (d : Disk). StandsForAtLeast StandsForEvents first (events task.answers)
      (events_due task.answers (length (said_now c) - length (said_now a))) d.now) (sym (disk_same told))
      (subst (λ (l : List ℕ). StandsForAtLeast StandsForEvents first (events task.answers)
      (events_due task.answers (length l - length (said_now a))) (disk_now b).now) (sym (said_same told)) k)

  nothing_rose : NothingRose a c → NothingRose a b
  nothing_rose none = record {
    take_faults = λ rose. none.take_faults (rose_first a.take_faults b.take_faults c.take_faults rose bc.course.take_faults);
    say_faults = λ rose. none.say_faults (rose_first a.say_faults b.say_faults c.say_faults rose bc.course.say_faults);
    disk_faults = λ rose. none.disk_faults (rose_first a.disk_faults b.disk_faults c.disk_faults rose bc.course.disk_faults);
  }

  damaged : (at : ℕ) → IsFoundDamaged a b at → IsFoundDamaged a c at
  damaged at d = record {
    offset = d.offset;
    no_events = d.no_events;
    file = throughout (λ disk said. disk.now ≡ (disk_now a).now) d.file;
    said = keeps_said_on a b c ab bc.course d.said bc.said;
    input = keeps_input_on a b c d.input bc.input;
  }

  pub run_stays : (texts : List (List ℕ)) (status : Status) → IsRun texts a b status → IsRun texts a c status
  run_stays texts status r = record {
    ends = λ told request first now asked. ends told (task_of request (played play empty first) a.left) first status (r.ends told request first now asked);
    part = λ request first now asked.
        throughout (λ _ said. AddsPart (said_now a) (replies (task_of request (played play empty first) a.left).answers) said) (r.part request first now asked);
    moments = λ request first now asked.
        throughout (IsOpenedRunning (disk_now a) StandsForEvents first (events (task_of request (played play empty first) a.left).answers)
        (events_due (task_of request (played play empty first) a.left).answers) (said_now a)) (r.moments request first now asked);
    stopped = λ told request first now asked. kept told (task_of request (played play empty first) a.left) first (r.stopped told request first now asked);
    complete = λ told request first now asked none. r.complete told request first now asked (nothing_rose none);
    still = λ request first now asked no_event old. throughout (λ disk _. IsAtMostSynced (disk_now a) disk) (r.still request first now asked no_event old);
    unread = λ request first now asked reads. keeps_input_on a b c (r.unread request first now asked reads) bc.input;
    words = r.words;
    untouched = λ bad. stays_on a b c (r.untouched bad) bc;
    read = λ is. rose_first a.take_faults b.take_faults c.take_faults (r.read is) bc.course.take_faults;
    write = λ is. rose_first a.say_faults b.say_faults c.say_faults (r.write is) bc.course.say_faults;
    disk = λ is. rose_first a.disk_faults b.disk_faults c.disk_faults (r.disk is) bc.course.disk_faults;
    damaged = λ at is. damaged at (r.damaged at is);
    kept = λ none. throughout (λ disk said. disk.now ≡ (disk_now a).now) (r.kept none);
    silent = λ told none.
        (keeps_said_on a b c ab bc.course (r.silent told none).0 bc.said, keeps_input_on a b c (r.silent told none).1 bc.input);
    damages = r.damages;
    course = course_on a b c ab bc.course;
  }
