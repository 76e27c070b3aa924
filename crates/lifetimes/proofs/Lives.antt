-- One run, and then many.
use Rattle.std.proofs.Common.{◌≡◌, ◌≢◌, ◌⊎◌, inl, inr, ⊎_elim, ℕ, zero, suc, ◌-◌, ◌≤◌, List, [], ◌∷◌, ◌++◌, length, take, Option, None, Some, refl, sym, ◌∙◌}
use Rattle.std.proofs.Common.{ap, subst, append_assoc, arith}
use Rattle.std.specs.Prelude.{IsTrue, map}
use Rattle.std.specs.List.{AllByRecursion}
use Rattle.std.proofs.lemmas.List.{append-nil}
use Rattle.host_port.specs.Host.{Told, Disk, MayLeave, GoesOn, CrashLeaves, disk_now, said_now}
use Rattle.host_port.proofs.Course.{told_next}
use Rattle.commit_journal.proofs.Torn.{left_stable}
use Rattle.command_runs.specs.Runs.{Answer, events, events_due}
use Rattle.op_form.specs.declared.event.Event.{Event}
use Rattle.op_form.specs.Events.{event_encoding}
use Rattle.plain_repository.specs.Laws.{IsPrefix}
use Rattle.plain_repository.specs.Store.{StandsForEvents}
use Rattle.store_replay.specs.Endings.{KeepsStore}
use Rattle.emf_top.specs.Tasks as emf_tasks
use Rattle.tools_top.specs.Tasks as tool_tasks
use Rattle.lifetimes.specs.Runs.{Asked, answers_of, KeepsAtMoments, LeavesReads, Ran, Run, made_by, begun_by, begun}
use Rattle.lifetimes.specs.Runs.Ran.{Served, Unserved, Worked, Replayed, Unworked}
use Rattle.lifetimes.specs.Lives.{at_rest, Lives, IsKept, MayCome, latest_first, FilesAtRestAreSafe, LivesKeepEvents}
use Rattle.lifetimes.specs.Lives.MayCome.{Start, Without, With}
use Rattle.lifetimes.specs.Lives.Lives.{Rests, Runs, Crashes}

-- ---- prefixes
prefix_same : {X : Type 0} (xs : List X) → IsPrefix xs xs
prefix_same xs = ([], sym (append-nil xs))

prefix_more : {X : Type 0} (xs ys zs : List X) → IsPrefix xs ys → IsPrefix ys zs → IsPrefix xs zs
prefix_more xs ys zs a b = (a.0 ++ b.0, b.1 ∙ ap (λ l. l ++ b.0) a.1 ∙ append_assoc xs a.0 b.0)

-- fewer of the first ones are a prefix of more of them
take_prefix : {X : Type 0} (xs : List X) (m n : ℕ) → m ≤ n → IsPrefix (take m xs) (take n xs)
take_prefix xs zero n low = (take n xs, refl)
take_prefix xs (suc m) zero low = absurd (omega (arith, low))
take_prefix [] (suc m) (suc n) low = ([], refl)
take_prefix (x ∷ xs) (suc m) (suc n) low = let rest = take_prefix xs m n (omega (arith, low)) in (rest.0, ap (λ l. x ∷ l) rest.1)

prefix_behind : {X : Type 0} (xs ys zs : List X) → IsPrefix ys zs → IsPrefix (xs ++ ys) (xs ++ zs)
prefix_behind xs ys zs p = (p.0, ap (λ l. xs ++ l) p.1 ∙ sym (append_assoc xs ys p.0))

-- ---- one run
-- the bytes stand for whole events that begin with these, and that may have come
record Begins (sure : List Event) (Comes : List Event → Type 0) (x : List ℕ) : Type 0 where
  events : List Event
  stands : StandsForEvents x events
  begins : IsPrefix sure events
  comes : Comes events

course_of : (old new : Told) (asked : Option Asked) → Ran old new asked → GoesOn old new
course_of old new _ (Served words request asks r) = r.course
course_of old new _ (Unserved words bad r) = r.course
course_of old new _ (Worked words tool asks r) = r.course
course_of old new _ (Replayed words asks r) = r.course
course_of old new _ (Unworked words bad r) = r.course

reads_of : (old new : Told) (asked : Option Asked) → Ran old new asked → LeavesReads new
reads_of old new _ (Served words request asks r) = r.reads
reads_of old new _ (Unserved words bad r) = r.reads
reads_of old new _ (Worked words tool asks r) = r.reads
reads_of old new _ (Replayed words asks r) = r.reads
reads_of old new _ (Unworked words bad r) = r.reads

module _ (old new : Told) (tells : IsTrue old.tells) (stop : ℕ) (low : old.clock ≤ stop) (high : stop ≤ new.clock) (first : List Event)
    (stood : StandsForEvents (disk_now old).now first) (Comes : List Event → Type 0) (stays : Comes first) where
  -- the disk is that of the entry, and nothing is printed
  abbrev IsUnbegun : Type 0
  IsUnbegun = (new.disk stop ≡ disk_now old) × (new.said stop ≡ said_now old)

  -- or whatever a crash leaves has the events that were found and those whose reply is begun
  abbrev IsBegun : Option Asked → Type 0
  IsBegun asked = IsUnbegun ⊎ CrashLeaves (Begins (first ++ begun_by asked first old new stop) Comes) (new.disk stop)

  -- no call was made
  unbegun : new ≡ old → IsUnbegun
  unbegun same =
      let last : stop ≡ old.clock = omega (arith, ap (λ (t : Told). t.clock) same, low, high) in
      (ap (λ (t : Told). t.disk stop) same ∙ ap old.disk last, ap (λ (t : Told). t.said stop) same ∙ ap old.said last)

  -- a task was under way
  under_way : (asked : Asked) → ((count : ℕ) → Comes (first ++ take count (made_by (Some asked) first old))) → KeepsAtMoments asked old new
      → IsBegun (Some asked)
  under_way asked further keeps =
      let a : List (Answer Event) = answers_of asked first old in
      let due : ℕ = events_due a (length (new.said stop) - length (said_now old)) in
      ⊎_elim (λ unbegun. inl unbegun)
      (λ running. inr (λ x left.
      let k = running x left in
      record {
        events = first ++ take k.count (events a);
        stands = k.stands_for;
        begins = prefix_behind first (take due (events a)) (take k.count (events a)) (take_prefix (events a) due k.count k.least_is);
        comes = further k.count;
      }))
      (keeps first stood tells stop low high)

  -- the store was printed as a script
  printing : KeepsStore old new → IsBegun None
  printing keeps =
      ⊎_elim (λ unbegun. inl unbegun)
      (λ same. inr (λ x left. record {
        events = first;
        stands = record { forms = same x left (map event_encoding first) stood.forms; playable = stood.playable };
        begins = subst (λ (l : List Event). IsPrefix l first) (sym (append-nil first)) (prefix_same first);
        comes = stays;
      }))
      (keeps tells stop low high)

  at_stop : (asked : Option Asked) → ((count : ℕ) → Comes (first ++ take count (made_by asked first old))) → Ran old new asked → IsBegun asked
  at_stop _ further (Served words request asks r) = under_way (emf_tasks.task_of request) further (r.asked request asks)
  at_stop _ further (Unserved words bad r) = inl (unbegun (r.bad bad))
  at_stop _ further (Worked words tool asks r) = under_way (tool_tasks.task_of tool) further (r.asked tool asks)
  at_stop _ further (Replayed words asks r) = printing (r.replay asks)
  at_stop _ further (Unworked words bad r) = inl (unbegun (r.bad bad))

-- what a run leaves of a disk of which whatever a crash leaves begins with these events: the same of these, or of more
record Leaves (sure : List Event) (Next : List Event → Type 0) (run : Run) : Type 0 where
  next : List Event
  more : IsPrefix sure next
  first : List Event
  stood : StandsForEvents (disk_now run.old).now first
  crash : CrashLeaves (Begins next Next) (run.new.disk run.stop)
  now : MayLeave (run.new.disk run.stop) (run.new.disk run.stop).now
  kept : run.new.said run.stop ≢ said_now run.old → next ≡ first ++ begun run first

module _ (start : List Event) (done : List Run) (sure : List Event) (run : Run)
    (crash : CrashLeaves (Begins sure (MayCome start done)) (disk_now run.old)) where
  -- what might be found, with the run, which left nothing
  without : (x : List ℕ) → Begins sure (MayCome start done) x → Begins sure (MayCome start (run ∷ done)) x
  without x b = record { events = b.events; stands = b.stands; begins = b.begins; comes = Without run done b.events b.comes }

  -- by what the run was when it was stopped
  left_by : (found : Begins sure (MayCome start done) (disk_now run.old).now) → MayLeave (run.new.disk run.stop) (run.new.disk run.stop).now
      → IsBegun run.old run.new run.tells run.stop run.low run.high found.events found.stands (MayCome start (run ∷ done))
      (Without run done found.events found.comes) run.asked
      → Leaves sure (MayCome start (run ∷ done)) run
  left_by found left (inl unbegun) = record {
    next = sure;
    more = prefix_same sure;
    first = found.events;
    stood = found.stands;
    crash = subst (λ (d : Disk). CrashLeaves (Begins sure (MayCome start (run ∷ done))) d) (sym unbegun.0) (λ x may. without x (crash x may));
    now = left;
    kept = λ printed. absurd (printed unbegun.1);
  }
  left_by found left (inr begins) = record {
    next = found.events ++ begun run found.events;
    more = prefix_more sure found.events (found.events ++ begun run found.events) found.begins (begun run found.events, refl);
    first = found.events;
    stood = found.stands;
    crash = begins;
    now = left;
    kept = λ printed. refl;
  }

  one_run : MayLeave (disk_now run.old) (disk_now run.old).now → Leaves sure (MayCome start (run ∷ done)) run
  one_run now =
      let found : Begins sure (MayCome start done) (disk_now run.old).now = crash (disk_now run.old).now now in
      left_by found
      (reads_of run.old run.new run.asked run.ran run.stop (told_next run.old run.new (course_of run.old run.new run.asked run.ran) run.tells) run.high)
      (at_stop run.old run.new run.tells run.stop run.low run.high found.events found.stands (MayCome start (run ∷ done))
      (Without run done found.events found.comes) run.asked (With run done found.events found.stands found.comes) run.ran)

-- ---- many runs
rest_leaves : (x : List ℕ) → MayLeave (at_rest x) x
rest_leaves x = record { no_shorter = omega arith; no_longer = omega arith; kept = λ i low all. refl }

-- what the rest of a life keeps, after some runs
record KeepsOn (start : List Event) (done : List Run) (sure : List Event) (runs : List Run) (end : Disk) : Type 0 where
  events : List Event
  stands : StandsForEvents end.now events
  begins : IsPrefix sure events
  comes : MayCome start (latest_first runs done) events
  each : AllByRecursion (λ run. IsKept run events) runs

lives : (start : List Event) (done : List Run) (sure : List Event) (disk : Disk) (runs : List Run) (end : Disk)
    → CrashLeaves (Begins sure (MayCome start done)) disk → MayLeave disk disk.now → Lives disk runs end → KeepsOn start done sure runs end
lives start done sure disk _ _ crash now (Rests _) =
    let b = crash disk.now now in record { events = b.events; stands = b.stands; begins = b.begins; comes = b.comes; each = tt }
lives start done sure _ _ end crash now (Runs run runs _ further) =
    let a = one_run start done sure run crash now in
    let k = lives start (run ∷ done) a.next (run.new.disk run.stop) runs end a.crash a.now further in
    record {
      events = k.events;
      stands = k.stands;
      begins = prefix_more sure a.next k.events a.more k.begins;
      comes = k.comes;
      each = (record { first = a.first; stood = a.stood; kept = λ printed. subst (λ (l : List Event). IsPrefix l k.events) (a.kept printed) k.begins }, k.each);
    }
lives start done sure disk runs end crash now (Crashes _ x left _ _ further) =
    lives start done sure (at_rest x) runs end
    (λ y left_then. subst (Begins sure (MayCome start done)) (sym (left_stable (at_rest x) y (record { tight = refl; same = refl }) left_then)) (crash x left))
    (rest_leaves x) further

pub lives_keep_events : LivesKeepEvents
lives_keep_events disk end start runs safe life =
    let k = lives start [] start disk runs end
    (λ x left. record { events = start; stands = safe.crash x left; begins = prefix_same start; comes = Start }) safe.now life in
    record { events = k.events; stands = k.stands; begins = k.begins; comes = k.comes; each = k.each }

pub files_at_rest_are_safe : FilesAtRestAreSafe
files_at_rest_are_safe file events stood = record {
  now = rest_leaves file;
  crash = λ x left. subst (λ (l : List ℕ). StandsForEvents l events) (sym (left_stable (at_rest file) x (record { tight = refl; same = refl }) left)) stood;
}
