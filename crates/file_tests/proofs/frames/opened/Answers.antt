use Rattle.std.proofs.Common.{ℕ, [], sym, ap, subst}
use Rattle.std.specs.Prelude.{IsTrue}
use Rattle.host_port.specs.Host.{Told, GoesOn, disk_now}
use Rattle.commit_journal.specs.Journal.{JournalState, WalkState, IsWalked, IsJournalAtRest}
use Rattle.file_tests.proofs.frames.opened.Goals as goal

told_before : (a b : Told) → GoesOn a b → IsTrue b.tells → IsTrue a.tells
told_before a b course told = subst IsTrue course.tells told

pub returns-in_default-clause-at_rest : goal.returns-in_default-clause-at_rest
returns-in_default-clause-at_rest g c = λ told.
    let ended = rw c.in_default.is at c.in_ok-next_bytes.ensures.ended in
    let told_1 = told_before (g.H.Host.told c.mount.new.host) (g.H.Host.told c.next_bytes.new.host) c.next_bytes.ensures.course told in
    let told_0 = told_before (g.H.Host.told c.args.host.now) (g.H.Host.told c.mount.new.host) c.mount.ensures.course told_1 in
    let begun = subst (λ (n : ℕ). IsWalked (disk_now (g.H.Host.told c.mount.new.host)) [] n)
    (sym (ap (λ (w : WalkState). w.next) c.in_ok-walk.ensures.ok)) (c.in_ok-walk.ensures.walked told_0) in
    ([], subst (λ (j : JournalState). IsJournalAtRest (disk_now (g.H.Host.told c.next_bytes.new.host)) [] j.end) (sym c.finish.ensures) (ended told_1 [] begun))
