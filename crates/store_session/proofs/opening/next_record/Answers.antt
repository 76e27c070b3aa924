-- What a second try reads is what the first one would have.
use Rattle.std.proofs.Common.{◌≡◌, ◌+◌, ◌++◌, [], ◌∷◌, ℕ, List, length, true, subst}
use Rattle.std.specs.Prelude.{IfOk, IfSome, IfNone, IsTrue, OnErr}
use Rattle.host_port.specs.Host.{disk_now}
use Rattle.host_port.proofs.Course.{course_on, keeps_disk_on, keeps_input_on, keeps_said_on, rose_second, told_next}
use Rattle.commit_journal.specs.Journal.{IsJournalAtRest, IsShort, IsStuck, IsWalked, StandsForNone, WalkState}
use Rattle.store_session.proofs.Again.{fault_on, none_on, nothing_still, some_on, stuck_still, walked_still}
use Rattle.store_session.proofs.opening.next_record.Goals as goal

pub next_bytes-requires-in-Err-Memory : goal.next_bytes-requires-in-Err-Memory
next_bytes-requires-in-Err-Memory g c = record {
  walked = λ told.
      let a = g.H.Host.told c.args.host.now in
      let b = g.H.Host.told c.next_bytes.new.host in
      let before = subst IsTrue c.next_bytes.ensures.course.tells told in
      let had = c.requires.walked before in (
        had.0,
        walked_still a b c.next_bytes.ensures.course c.next_bytes.ensures.disk c.args.walk.now c.next_bytes.new.self c.in-Err-Memory.ensures.err before
            had.0 had.1,
      );
}

pub returns-in-Err-Memory : goal.returns-in-Err-Memory
returns-in-Err-Memory g c =
    let a = g.H.Host.told c.args.host.now in
    let b = g.H.Host.told c.next_bytes.new.host in
    let d = g.H.Host.told c.next_bytes-in-Err-Memory.new.host in
    let old = c.args.walk.now in
    let mid = c.next_bytes.new.self in
    let new = c.next_bytes-in-Err-Memory.new.self in
    let read = c.next_bytes-in-Err-Memory.result in
    let one = c.next_bytes.ensures in
    let two = c.next_bytes-in-Err-Memory.ensures in
    let same : mid ≡ old = c.in-Err-Memory.ensures.err in
    record {
      some = subst
          (λ (w : WalkState). IfOk read (λ next. IfSome next (λ form.
          (new ≡ record { offset = w.next; next = w.next + 5 + length form.items; ended = w.ended }) × IsShort form.items)))
          same two.some;
      none = subst (λ (w : WalkState). IfOk read (λ next. IfNone next (new ≡ record w { ended = true }))) same two.none;
      err = subst (λ (w : WalkState). OnErr read (new ≡ w)) same two.err;
      low = two.low;
      walked = some_on read
          (λ form. IsTrue b.tells → (forms : List (List ℕ)) → IsWalked (disk_now b) forms mid.next → IsWalked (disk_now d) (forms ++ form.items ∷ []) new.next)
          (λ form. IsTrue a.tells → (forms : List (List ℕ)) → IsWalked (disk_now a) forms old.next → IsWalked (disk_now d) (forms ++ form.items ∷ []) new.next)
          (λ form reads told forms had. reads (told_next a b one.course told) forms (walked_still a b one.course one.disk old mid same told forms had))
          two.walked;
      ended = none_on read
          (IsTrue b.tells → (forms : List (List ℕ)) → IsWalked (disk_now b) forms mid.next → IsJournalAtRest (disk_now d) forms new.next)
          (IsTrue a.tells → (forms : List (List ℕ)) → IsWalked (disk_now a) forms old.next → IsJournalAtRest (disk_now d) forms new.next)
          (λ rests told forms had. rests (told_next a b one.course told) forms (walked_still a b one.course one.disk old mid same told forms had))
          two.ended;
      damaged = fault_on read (λ at. (at ≡ mid.next) × (IsTrue b.tells → IsStuck (disk_now b).now at))
          (λ at. (at ≡ old.next) × (IsTrue a.tells → IsStuck (disk_now a).now at)) (stuck_still a b one.course one.disk old mid same) two.damaged;
      nothing = fault_on read (λ at. IsTrue b.tells → StandsForNone (disk_now b).now) (λ at. IsTrue a.tells → StandsForNone (disk_now a).now)
          (λ at. nothing_still a b one.course one.disk) two.nothing;
      cause = λ is. rose_second a.disk_faults b.disk_faults d.disk_faults one.course.disk_faults (two.cause is);
      course = course_on a b d one.course two.course;
      disk = keeps_disk_on a b d one.course two.course one.disk two.disk;
      said = keeps_said_on a b d one.course two.course one.said two.said;
      input = keeps_input_on a b d one.input two.input;
      same = c.let_models_go.ensures.same;
    }
