use Rattle.std.proofs.Common.{◌≡◌, ℕ, take, drop, sym, ◌∙◌, ap, subst, arith}
use Rattle.host_port.specs.Host.{Disk, disk_now}
use Rattle.commit_journal.specs.Journal.{IsOpen, four_bytes}
use Rattle.host_port.proofs.Course.{told_next, kept_now}
use Rattle.commit_journal.proofs.Walking.{gate_is, length_is, too_short, no_room}
use Rattle.commit_journal.proofs.walk.read_gate.Goals as goal

pub returns-then-mark-clause-broken : goal.returns-then-mark-clause-broken
returns-then-mark-clause-broken g c = λ is told.
    let a = g.H.Host.told c.args.host.now in
    let b = g.H.Host.told c.len.new.self in
    let gate = c.args.gate in
    let file = (disk_now a).now in
    let long = c.in_ok-length.ensures.length told in
    let told_b = told_next a b c.len.ensures.course told in
    let same = kept_now a b c.len.ensures.course c.len.ensures.disk told in
    let mark : c.read_at.new.into ≡ take 1 (drop c.args.gate (disk_now (g.H.Host.told c.args.host.now)).now) =
    c.in_ok-read_at.ensures.bytes told_b ∙ ap (λ (s : Disk). take 1 (drop gate s.now)) same in
    too_short file gate (omega (arith, long, c.if-length-gate.false)) (gate_is file gate 1 c.read_at.new.into mark (omega arith) ∙ c.if-mark.true)
    (omega (arith, long, c.if-length-gate-lt5.true))

pub returns-then-not-has_room-clause-broken : goal.returns-then-not-has_room-clause-broken
returns-then-not-has_room-clause-broken g c = λ is told.
    let a = g.H.Host.told c.args.host.now in
    let b = g.H.Host.told c.len.new.self in
    let gate = c.args.gate in
    let file = (disk_now a).now in
    let long = c.in_ok-length.ensures.length told in
    let told_b = told_next a b c.len.ensures.course told in
    let same = kept_now a b c.len.ensures.course c.len.ensures.disk told in
    let head : c.read_at-2.new.into ≡ take 5 (drop c.args.gate (disk_now (g.H.Host.told c.args.host.now)).now) =
    c.in_ok-read_at-2.ensures.bytes told_b ∙ ap (λ (s : Disk). take 5 (drop gate s.now)) same in
    let spelled = sym (length_is file gate c.read_at-2.new.into head (omega (arith, long, c.if-length-gate-lt5.false, c.if-length-gate.false)))
    ∙ sym c.number_in.ensures.spelled ∙ ap four_bytes (sym c.from-size.ensures) in
    no_room file gate c.from-size.result (gate_is file gate 5 c.read_at-2.new.into head (omega arith) ∙ c.if-head.false) spelled
    (omega (arith, c.from-size.ensures, c.number_in.ensures.low))
    (λ small below. omega (arith, long, c.if-not-has_room.ensures.none small below))

pub returns-clause-open : goal.returns-clause-open
returns-clause-open g c = λ size is told.
    let a = g.H.Host.told c.args.host.now in
    let b = g.H.Host.told c.len.new.self in
    let gate = c.args.gate in
    let file = (disk_now a).now in
    let long = c.in_ok-length.ensures.length told in
    let told_b = told_next a b c.len.ensures.course told in
    let same = kept_now a b c.len.ensures.course c.len.ensures.disk told in
    let head : c.read_at-2.new.into ≡ take 5 (drop c.args.gate (disk_now (g.H.Host.told c.args.host.now)).now) =
    c.in_ok-read_at-2.ensures.bytes told_b ∙ ap (λ (s : Disk). take 5 (drop gate s.now)) same in
    let spelled = sym (length_is file gate c.read_at-2.new.into head (omega (arith, long, c.if-length-gate-lt5.false, c.if-length-gate.false)))
    ∙ sym c.number_in.ensures.spelled ∙ ap four_bytes (sym c.from-size.ensures) in
    let same_size : c.from-size.result ≡ size = cc in
    subst (λ (n : ℕ). IsOpen file gate n) same_size (record {
      opened = gate_is file gate 5 c.read_at-2.new.into head (omega arith) ∙ c.if-head.false;
      length_is = spelled;
      whole = omega (arith, long, c.if-not-has_room.ensures.room);
    })
