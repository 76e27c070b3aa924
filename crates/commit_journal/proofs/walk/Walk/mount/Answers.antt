-- A file is mounted, new or old: for each way out, what the disk holds at each moment, and where the walk over its records stands.
use Rattle.std.proofs.Common.{ℕ, ◌≡◌, ◌<◌, ◌≤◌, length, arith, ap, ◌∙◌}
use Rattle.std.specs.Prelude.{IsTrue}
use Rattle.host_port.specs.Host.{Told, Disk, GoesOn, disk_now, synced}
use Rattle.host_port.proofs.Course.{told_next}
use Rattle.commit_journal.proofs.Mounting.{up_to_len, synced_to_len, up_to_read, now_to_read, synced_to_read, read_mounted, read_walked, differs}
use Rattle.commit_journal.proofs.Mounting.{up_to_write, written_mounted, written_walked, written_same}
use Rattle.commit_journal.proofs.Unique.{headless_for_none}
use Rattle.commit_journal.proofs.walk.Walk.mount.Given.{Over}
use Rattle.commit_journal.proofs.walk.Walk.mount.Goals.{In_ok-length}
use Rattle.commit_journal.proofs.walk.Walk.mount.Goals as goal

-- the length that a host reports is that of the file at the start
length_read : (a s : Told) (n : ℕ) → GoesOn a s → (IsTrue a.tells → disk_now s ≡ synced (disk_now a)) → (IsTrue s.tells → n ≡ length (disk_now s).now)
    → IsTrue a.tells → n ≡ length (disk_now a).now
length_read a s n course stable is told = is (told_next a s course told) ∙ ap (λ (d : Disk). length d.now) (stable told)

-- the file that the host reports on is that of the start: so long, and told of alike
length_here : (g : Over) (c : In_ok-length g) → IsTrue (g.H.Host.told c.args.host.now).tells
    → c.in_ok-length.length ≡ length (disk_now (g.H.Host.told c.args.host.now)).now
length_here g c told =
    length_read (g.H.Host.told c.args.host.now) (g.H.Host.told c.sync.new.self) c.in_ok-length.length c.sync.ensures.course
    c.in_ok-sync.ensures.stable c.in_ok-length.ensures.length told

small_here : (g : Over) (c : In_ok-length g) → c.in_ok-length.length ≤ 17 → IsTrue (g.H.Host.told c.args.host.now).tells
    → length (disk_now (g.H.Host.told c.args.host.now)).now ≤ 17
small_here g c few told = let is = length_here g c told in omega (arith, is, few)

large_here : (g : Over) (c : In_ok-length g) → 17 < c.in_ok-length.length → IsTrue (g.H.Host.told c.args.host.now).tells
    → 17 < length (disk_now (g.H.Host.told c.args.host.now)).now
large_here g c many told = let is = length_here g c told in omega (arith, is, many)

told_here : (g : Over) (c : In_ok-length g) → IsTrue (g.H.Host.told c.args.host.now).tells → IsTrue (g.H.Host.told c.len.new.self).tells
told_here g c told =
    told_next (g.H.Host.told c.sync.new.self) (g.H.Host.told c.len.new.self) c.len.ensures.course
    (told_next (g.H.Host.told c.args.host.now) (g.H.Host.told c.sync.new.self) c.sync.ensures.course told)

pub returns-in_err-length-clause-any_moment : goal.returns-in_err-length-clause-any_moment
returns-in_err-length-clause-any_moment g c =
    up_to_len (g.H.Host.told c.args.host.now) (g.H.Host.told c.sync.new.self)
    (g.H.Host.told c.len.new.self) c.sync.ensures.course c.sync.ensures.before_or_after c.in_ok-sync.ensures.stable c.len.ensures.course
    c.len.ensures.disk

pub returns-in_err-write_durably-clause-any_moment : goal.returns-in_err-write_durably-clause-any_moment
returns-in_err-write_durably-clause-any_moment g c =
    up_to_write (g.H.Host.told c.args.host.now) (g.H.Host.told c.sync.new.self)
    (g.H.Host.told c.len.new.self) c.sync.ensures.course c.sync.ensures.before_or_after c.in_ok-sync.ensures.stable c.len.ensures.course
    c.len.ensures.disk (g.H.Host.told c.write_durably.new.host) c.write_durably.ensures.course
    (small_here g (goal.at.returns-in_err-write_durably-clause-any_moment g c).In_ok-length c.if-length-le-NEW_SIZE.true) c.write_durably.ensures.during

pub returns-then-length-le-NEW_SIZE-clause-any_moment : goal.returns-then-length-le-NEW_SIZE-clause-any_moment
returns-then-length-le-NEW_SIZE-clause-any_moment g c =
    up_to_write (g.H.Host.told c.args.host.now) (g.H.Host.told c.sync.new.self)
    (g.H.Host.told c.len.new.self) c.sync.ensures.course c.sync.ensures.before_or_after c.in_ok-sync.ensures.stable c.len.ensures.course
    c.len.ensures.disk (g.H.Host.told c.write_durably.new.host) c.write_durably.ensures.course
    (small_here g (goal.at.returns-then-length-le-NEW_SIZE-clause-any_moment g c).In_ok-length c.if-length-le-NEW_SIZE.true) c.write_durably.ensures.during

pub returns-in_err-read_at-clause-any_moment : goal.returns-in_err-read_at-clause-any_moment
returns-in_err-read_at-clause-any_moment g c =
    up_to_read (g.H.Host.told c.args.host.now) (g.H.Host.told c.sync.new.self)
    (g.H.Host.told c.len.new.self) c.sync.ensures.course c.sync.ensures.before_or_after c.in_ok-sync.ensures.stable c.len.ensures.course
    c.len.ensures.disk (g.H.Host.told c.read_at.new.self) c.read_at.ensures.course c.read_at.ensures.disk

pub returns-in-Some-clause-any_moment : goal.returns-in-Some-clause-any_moment
returns-in-Some-clause-any_moment g c =
    up_to_read (g.H.Host.told c.args.host.now) (g.H.Host.told c.sync.new.self)
    (g.H.Host.told c.len.new.self) c.sync.ensures.course c.sync.ensures.before_or_after c.in_ok-sync.ensures.stable c.len.ensures.course
    c.len.ensures.disk (g.H.Host.told c.read_at.new.self) c.read_at.ensures.course c.read_at.ensures.disk

pub returns-in-None-clause-any_moment : goal.returns-in-None-clause-any_moment
returns-in-None-clause-any_moment g c =
    up_to_read (g.H.Host.told c.args.host.now) (g.H.Host.told c.sync.new.self)
    (g.H.Host.told c.len.new.self) c.sync.ensures.course c.sync.ensures.before_or_after c.in_ok-sync.ensures.stable c.len.ensures.course
    c.len.ensures.disk (g.H.Host.told c.read_at.new.self) c.read_at.ensures.course c.read_at.ensures.disk

pub returns-then-length-le-NEW_SIZE-clause-walked : goal.returns-then-length-le-NEW_SIZE-clause-walked
returns-then-length-le-NEW_SIZE-clause-walked g c =
    written_walked (g.H.Host.told c.args.host.now) (g.H.Host.told c.sync.new.self)
    (g.H.Host.told c.len.new.self) c.sync.ensures.course c.sync.ensures.before_or_after c.in_ok-sync.ensures.stable c.len.ensures.course
    c.len.ensures.disk (g.H.Host.told c.write_durably.new.host) c.write_durably.ensures.course
    (small_here g (goal.at.returns-then-length-le-NEW_SIZE-clause-walked g c).In_ok-length c.if-length-le-NEW_SIZE.true)
    c.write_durably.ensures.during c.in_ok-write_durably.ensures.done

pub returns-then-length-le-NEW_SIZE-clause-same : goal.returns-then-length-le-NEW_SIZE-clause-same
returns-then-length-le-NEW_SIZE-clause-same g c =
    written_same (g.H.Host.told c.args.host.now) (g.H.Host.told c.sync.new.self)
    (g.H.Host.told c.len.new.self) c.sync.ensures.course c.sync.ensures.before_or_after c.in_ok-sync.ensures.stable c.len.ensures.course
    c.len.ensures.disk (g.H.Host.told c.write_durably.new.host) c.write_durably.ensures.course
    (small_here g (goal.at.returns-then-length-le-NEW_SIZE-clause-same g c).In_ok-length c.if-length-le-NEW_SIZE.true)
    c.write_durably.ensures.during c.in_ok-write_durably.ensures.done

pub returns-then-length-le-NEW_SIZE-clause-file : goal.returns-then-length-le-NEW_SIZE-clause-file
returns-then-length-le-NEW_SIZE-clause-file g c =
    written_mounted (g.H.Host.told c.args.host.now) (g.H.Host.told c.sync.new.self)
    (g.H.Host.told c.len.new.self) c.sync.ensures.course c.sync.ensures.before_or_after c.in_ok-sync.ensures.stable c.len.ensures.course
    c.len.ensures.disk (g.H.Host.told c.write_durably.new.host) c.write_durably.ensures.course
    (small_here g (goal.at.returns-then-length-le-NEW_SIZE-clause-file g c).In_ok-length c.if-length-le-NEW_SIZE.true)
    c.write_durably.ensures.during c.in_ok-write_durably.ensures.done

pub returns-in-None-clause-file : goal.returns-in-None-clause-file
returns-in-None-clause-file g c =
    read_mounted (g.H.Host.told c.args.host.now) (g.H.Host.told c.sync.new.self)
    (g.H.Host.told c.len.new.self) c.sync.ensures.course c.sync.ensures.before_or_after c.in_ok-sync.ensures.stable c.len.ensures.course
    c.len.ensures.disk (g.H.Host.told c.read_at.new.self) c.read_at.ensures.course c.read_at.ensures.disk
    (large_here g (goal.at.returns-in-None-clause-file g c).In_ok-length c.if-length-le-NEW_SIZE.false)

pub returns-in-None-clause-walked : goal.returns-in-None-clause-walked
returns-in-None-clause-walked g c =
    λ told. read_walked (g.H.Host.told c.args.host.now) (g.H.Host.told c.sync.new.self)
    (g.H.Host.told c.len.new.self) c.sync.ensures.course c.sync.ensures.before_or_after c.in_ok-sync.ensures.stable c.len.ensures.course
    c.len.ensures.disk (g.H.Host.told c.read_at.new.self) c.read_at.ensures.course c.read_at.ensures.disk
    (large_here g (goal.at.returns-in-None-clause-walked g c).In_ok-length c.if-length-le-NEW_SIZE.false) c.read_at.new.into told
    (c.in_ok-read_at.ensures.bytes
    (told_here g (goal.at.returns-in-None-clause-walked g c).In_ok-length told)) c.in-None.ensures.same

pub returns-in-Some-clause-damaged : goal.returns-in-Some-clause-damaged
returns-in-Some-clause-damaged g c =
    λ told. differs (g.H.Host.told c.args.host.now) (g.H.Host.told c.sync.new.self)
    (g.H.Host.told c.len.new.self) c.sync.ensures.course c.sync.ensures.before_or_after c.in_ok-sync.ensures.stable c.len.ensures.course
    c.len.ensures.disk (g.H.Host.told c.read_at.new.self) c.read_at.ensures.course c.read_at.ensures.disk c.read_at.new.into c.in-Some.at
    (c.in_ok-read_at.ensures.bytes
    (told_here g (goal.at.returns-in-Some-clause-damaged g c).In_ok-length told)) c.in-Some.ensures.differs told

pub returns-in-Some-clause-nothing : goal.returns-in-Some-clause-nothing
returns-in-Some-clause-nothing g c =
    λ told. headless_for_none (disk_now (g.H.Host.told c.args.host.now)).now c.in-Some.at
    (large_here g (goal.at.returns-in-Some-clause-nothing g c).In_ok-length c.if-length-le-NEW_SIZE.false told)
    (returns-in-Some-clause-damaged g c told)

pub returns-in-Some-clause-kept : goal.returns-in-Some-clause-kept
returns-in-Some-clause-kept g c =
    now_to_read (g.H.Host.told c.args.host.now) (g.H.Host.told c.sync.new.self)
    (g.H.Host.told c.len.new.self) c.sync.ensures.course c.sync.ensures.before_or_after c.in_ok-sync.ensures.stable c.len.ensures.course
    c.len.ensures.disk (g.H.Host.told c.read_at.new.self) c.read_at.ensures.course c.read_at.ensures.disk

pub returns-in_err-sync-clause-long : goal.returns-in_err-sync-clause-long
returns-in_err-sync-clause-long g c = λ long. c.sync.ensures.before_or_after

pub returns-in_err-length-clause-long : goal.returns-in_err-length-clause-long
returns-in_err-length-clause-long g c =
    λ long. synced_to_len (g.H.Host.told c.args.host.now) (g.H.Host.told c.sync.new.self)
    (g.H.Host.told c.len.new.self) c.sync.ensures.course c.sync.ensures.before_or_after c.in_ok-sync.ensures.stable c.len.ensures.course
    c.len.ensures.disk

pub returns-in_err-write_durably-clause-long : goal.returns-in_err-write_durably-clause-long
returns-in_err-write_durably-clause-long g c =
    λ long told t low high.
    let few = small_here g (goal.at.returns-in_err-write_durably-clause-long g c).In_ok-length c.if-length-le-NEW_SIZE.true told in
    absurd (omega (arith, long, few))

pub returns-then-length-le-NEW_SIZE-clause-long : goal.returns-then-length-le-NEW_SIZE-clause-long
returns-then-length-le-NEW_SIZE-clause-long g c =
    λ long told t low high.
    let few = small_here g (goal.at.returns-then-length-le-NEW_SIZE-clause-long g c).In_ok-length c.if-length-le-NEW_SIZE.true told in
    absurd (omega (arith, long, few))

pub returns-in_err-read_at-clause-long : goal.returns-in_err-read_at-clause-long
returns-in_err-read_at-clause-long g c =
    λ long. synced_to_read (g.H.Host.told c.args.host.now) (g.H.Host.told c.sync.new.self)
    (g.H.Host.told c.len.new.self) c.sync.ensures.course c.sync.ensures.before_or_after c.in_ok-sync.ensures.stable c.len.ensures.course
    c.len.ensures.disk (g.H.Host.told c.read_at.new.self) c.read_at.ensures.course c.read_at.ensures.disk

pub returns-in-Some-clause-long : goal.returns-in-Some-clause-long
returns-in-Some-clause-long g c =
    λ long. synced_to_read (g.H.Host.told c.args.host.now) (g.H.Host.told c.sync.new.self)
    (g.H.Host.told c.len.new.self) c.sync.ensures.course c.sync.ensures.before_or_after c.in_ok-sync.ensures.stable c.len.ensures.course
    c.len.ensures.disk (g.H.Host.told c.read_at.new.self) c.read_at.ensures.course c.read_at.ensures.disk

pub returns-in-None-clause-long : goal.returns-in-None-clause-long
returns-in-None-clause-long g c =
    λ long. synced_to_read (g.H.Host.told c.args.host.now) (g.H.Host.told c.sync.new.self)
    (g.H.Host.told c.len.new.self) c.sync.ensures.course c.sync.ensures.before_or_after c.in_ok-sync.ensures.stable c.len.ensures.course
    c.len.ensures.disk (g.H.Host.told c.read_at.new.self) c.read_at.ensures.course c.read_at.ensures.disk
