use Rattle.std.proofs.Common.{ℕ, [], ◌∷◌, ◌++◌, sym, ap, subst}
use Rattle.std.specs.Prelude.{IsTrue}
use Rattle.host_port.specs.Host.{Told, GoesOn, disk_now}
use Rattle.commit_journal.specs.Journal.{WalkState, IsWalked}
use Rattle.file_tests.proofs.records.count.Goals as goal

told_before : (a b : Told) → GoesOn a b → IsTrue b.tells → IsTrue a.tells
told_before a b course told = subst IsTrue course.tells told

pub next_bytes-requires-2 : goal.next_bytes-requires-2
next_bytes-requires-2 g c = record {
  walked = λ told.
      let walked = rw c.in-Some.is at c.in_ok-next_bytes.ensures.walked in
      let told_1 = told_before (g.H.Host.told c.mount.new.host) (g.H.Host.told c.next_bytes.new.host) c.next_bytes.ensures.course told in
      let told_0 = told_before (g.H.Host.told c.args.host.now) (g.H.Host.told c.mount.new.host) c.mount.ensures.course told_1 in
      let begun = subst (λ (n : ℕ). IsWalked (disk_now (g.H.Host.told c.mount.new.host)) [] n)
      (sym (ap (λ (w : WalkState). w.next) c.in_ok-walk.ensures.ok)) (c.in_ok-walk.ensures.walked told_0) in
      ([] ++ c.in-Some.field-0.items ∷ [], walked told_1 [] begun);
}
