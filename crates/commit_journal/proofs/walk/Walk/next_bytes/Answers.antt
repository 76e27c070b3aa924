-- The next record is read, or the walk is at the end or at a record that is broken.
use Rattle.std.proofs.Common.{◌≡◌, ℕ, ◌+◌, List, [], ◌∷◌, ◌++◌, length, take, drop, sym, ◌∙◌, ap, subst, arith}
use Rattle.std.specs.Prelude.{IsTrue}
use Rattle.host_port.specs.Host.{Disk, disk_now}
use Rattle.commit_journal.specs.Journal.{IsWalked, IsMounted, IsStuck, ReadsTo, StandsForNone}
use Rattle.commit_journal.specs.TornWrites.{IsStable}
use Rattle.host_port.proofs.Course.{told_next, kept_now}
use Rattle.commit_journal.proofs.Unique.{stuck_for_none}
use Rattle.commit_journal.proofs.Walking.{one_record}
use Rattle.std.proofs.lemmas.List.{take_at, length-take, length-drop}
use Rattle.commit_journal.proofs.walk.Walk.next_bytes.Goals as goal

-- a walk that is stuck at its next gate
stands_for_none : (disk : Disk) (gate next : ℕ) → gate ≡ next → (forms : List (List ℕ)) × IsWalked disk forms next → IsStuck disk.now gate
    → StandsForNone disk.now
stands_for_none disk gate next is walked stuck =
    stuck_for_none disk.now walked.0 gate walked.1.mounted (subst (λ (n : ℕ). ReadsTo disk.now walked.0 n) (sym is) walked.1.reads) stuck

pub returns-in-Broken-clause-nothing : goal.returns-in-Broken-clause-nothing
returns-in-Broken-clause-nothing g c = λ told.
    stands_for_none (disk_now (g.H.Host.told c.args.host.now)) c.self.inside.next c.args.self.now.next (ap (λ s. s.next) c.self.view_is)
    (c.requires.walked told) (c.in_ok-read_gate.ensures.broken c.in-Broken.is told)

pub read_at-requires : goal.read_at-requires
read_at-requires g c = λ told_b.
    let a = g.H.Host.told c.args.host.now in
    let b = g.H.Host.told c.read_gate.new.host in
    let told : IsTrue (g.H.Host.told c.args.host.now).tells = subst IsTrue c.read_gate.ensures.course.tells told_b in
    let same = kept_now a b c.read_gate.ensures.course c.read_gate.ensures.disk told in
    let at_gate = c.in_ok-read_gate.ensures.open c.in-Open.size c.in-Open.is told in
    omega (
      arith,
      at_gate.whole,
      ap (λ (s : Disk). length s.now) same,
      c.deref_mut.ensures.len,
      ap length c.deref_mut.ensures.value,
      c.in_ok-form-in-Open.ensures.len,
    )

pub returns-in_ok-read_at-in-Open-clause-walked : goal.returns-in_ok-read_at-in-Open-clause-walked
returns-in_ok-read_at-in-Open-clause-walked g c = λ told forms walked.
    let a = g.H.Host.told c.args.host.now in
    let b = g.H.Host.told c.read_gate.new.host in
    let d = g.H.Host.told c.read_at.new.self in
    let gate = c.self.inside.next in
    let file = (disk_now (g.H.Host.told c.args.host.now)).now in
    let told_b = told_next a b c.read_gate.ensures.course told in
    let same = kept_now a b c.read_gate.ensures.course c.read_gate.ensures.disk told in
    let same_d = kept_now b d c.read_at.ensures.course c.read_at.ensures.disk told_b ∙ same in
    let at_gate = c.in_ok-read_gate.ensures.open c.in-Open.size c.in-Open.is told in
    let short = c.in_ok-read_gate.ensures.short c.in-Open.size c.in-Open.is in
    let size : length c.deref_mut.result.now ≡ c.in-Open.size =
    omega (arith, ap length c.deref_mut.ensures.value, c.deref_mut.ensures.len, c.in_ok-form-in-Open.ensures.len) in
    let form = c.in_ok-read_at-in-Open.ensures.bytes told_b ∙ ap (λ (s : Disk). take (length c.deref_mut.result.now) (drop (gate + 5) s.now)) same in
    let reads = one_record file gate forms c.read_at.new.into c.in-Open.size
    (subst (λ (n : ℕ). ReadsTo file forms n) (sym (ap (λ s. s.next) c.self.view_is)) walked.reads) at_gate short.0
    (form ∙ ap (λ (n : ℕ). take n (drop (gate + 5) file)) size) in
    let whole : take c.in_ok-form-in-Open.form.len
    (c.read_at.new.into ++ drop (length c.read_at.new.into) c.in_ok-form-in-Open.form.items) ≡ c.read_at.new.into =
    take_at c.read_at.new.into (drop (length c.read_at.new.into) c.in_ok-form-in-Open.form.items) c.in_ok-form-in-Open.form.len
    (omega (
      arith,
      ap length form,
      length-take (length c.deref_mut.result.now) (drop (gate + 5) file),
      length-drop (gate + 5) file,
      size,
      c.in_ok-form-in-Open.ensures.len,
      at_gate.whole,
    )) in
    record {
      stable = subst IsStable (sym same_d) walked.stable;
      mounted = subst (λ (s : Disk). IsMounted s.now) (sym same_d) walked.mounted;
      reads = subst (λ (s : Disk).
          ReadsTo s.now (forms ++ take c.in_ok-form-in-Open.form.len
          (c.read_at.new.into ++ drop (length c.read_at.new.into) c.in_ok-form-in-Open.form.items) ∷ []) (gate + 5 + c.in-Open.size)) (sym same_d)
          (subst (λ (l : List ℕ). ReadsTo file (forms ++ l ∷ []) (gate + 5 + c.in-Open.size)) (sym whole) reads);
    }
