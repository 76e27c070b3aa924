-- All events of the store played: the session is the store's plain repository, or it names the first that can't be played.
use Rattle.std.proofs.Common.{ℕ, []}
use Rattle.std.specs.Prelude.{IsTrue}
use Rattle.host_port.specs.Host.{disk_now}
use Rattle.host_port.proofs.Course.{told_next}
use Rattle.plain_repository.specs.Store.{IsDamaged, StandsForNoEvents}
use Rattle.store_session.proofs.Reading.{damage_on, damage_since, mounted, mounts_on, mounts_said, mounts_since}
use Rattle.store_session.specs.Opening.{IsOpenedSince}
use Rattle.store_session.proofs.session.Session.mount.Given.{Over}
use Rattle.store_session.proofs.session.Session.mount.Goals.{After-next_event}
use Rattle.store_session.proofs.session.Session.mount.Goals as goal

-- at the next event the store stands as it was opened
since_here : (g : Over) (c : After-next_event g) → IsOpenedSince (g.H.Host.told c.args.host.now) (g.H.Host.told c.next_event.new.host)
since_here g c =
    mounts_since (g.H.Host.told c.args.host.now) (g.H.Host.told c.records.host) (g.H.Host.told c.next_event.new.host) c.records.opening
    c.records.invariant c.next_event.ensures.course c.next_event.ensures.disk c.next_event.ensures.said c.next_event.ensures.input

pub records-init : goal.records-init
records-init g c = record {
  at = c.in-Ok.ensures.at;
  course = c.begin.ensures.course;
  said = c.begin.ensures.said;
  input = c.begin.ensures.input;
  played_up_to = λ told. ([], c.in-Ok.ensures.played_up_to told);
  since = c.in-Ok.ensures.since;
}

pub records-preserved : goal.records-preserved
records-preserved g c =
    mounts_on (g.H.Host.told c.args.host.now) (g.H.Host.told c.records.host)
    (g.H.Host.told c.next_event.new.host) c.records.opening c.records.invariant c.next_event.ensures.course c.next_event.ensures.disk
    c.next_event.ensures.said c.next_event.ensures.input
    c.next_event.new.self _ c.in-Ok-Some.ensures.at (rw c.in-Ok-Some.field-0-is at c.in-Ok-Some.ensures.played)

pub records-preserved-in-Ok-Some : goal.records-preserved-in-Ok-Some
records-preserved-in-Ok-Some g c =
    mounts_on (g.H.Host.told c.args.host.now) (g.H.Host.told c.records.host)
    (g.H.Host.told c.next_event.new.host) c.records.opening c.records.invariant c.next_event.ensures.course c.next_event.ensures.disk
    c.next_event.ensures.said c.next_event.ensures.input
    c.next_event.new.self _ c.in-Ok-Some.ensures.at (rw c.in-Ok-Some.field-0-is at c.in-Ok-Some.ensures.played)

pub returns-in-Err-next_event-clause-damaged : goal.returns-in-Err-next_event-clause-damaged
returns-in-Err-next_event-clause-damaged g c = damage_on c.in-Err-next_event.fault
    (λ (at : ℕ). IsTrue (g.H.Host.told c.records.host).tells
    → IsDamaged (disk_now (g.H.Host.told c.records.host)).now at × StandsForNoEvents (disk_now (g.H.Host.told c.records.host)).now)
    (λ (at : ℕ). IsTrue (g.H.Host.told c.args.host.now).tells
    → IsDamaged (disk_now (g.H.Host.told c.args.host.now)).now at × StandsForNoEvents (disk_now (g.H.Host.told c.args.host.now)).now)
    (λ at damage told. damage_since (g.H.Host.told c.args.host.now) (g.H.Host.told c.records.host) c.records.invariant.since told at
    (damage (told_next (g.H.Host.told c.args.host.now) (g.H.Host.told c.records.host) c.records.invariant.course told)))
    c.in-Err-next_event.ensures.damaged

pub returns-in-Err-next_event-clause-moments : goal.returns-in-Err-next_event-clause-moments
returns-in-Err-next_event-clause-moments g c =
    (since_here g (goal.at.returns-in-Err-next_event-clause-moments g c).After-next_event).moments

pub returns-in-Err-next_event-clause-long : goal.returns-in-Err-next_event-clause-long
returns-in-Err-next_event-clause-long g c =
    (since_here g (goal.at.returns-in-Err-next_event-clause-long g c).After-next_event).long

pub returns-in-Err-next_event-clause-said : goal.returns-in-Err-next_event-clause-said
returns-in-Err-next_event-clause-said g c =
    mounts_said (g.H.Host.told c.args.host.now) (g.H.Host.told c.records.host)
    (g.H.Host.told c.next_event.new.host) c.records.opening c.records.invariant c.next_event.ensures.course c.next_event.ensures.disk
    c.next_event.ensures.said c.next_event.ensures.input

pub returns-in-Ok-None-clause-moments : goal.returns-in-Ok-None-clause-moments
returns-in-Ok-None-clause-moments g c =
    (since_here g (goal.at.returns-in-Ok-None-clause-moments g c).After-next_event).moments

pub returns-in-Ok-None-clause-long : goal.returns-in-Ok-None-clause-long
returns-in-Ok-None-clause-long g c =
    (since_here g (goal.at.returns-in-Ok-None-clause-long g c).After-next_event).long

pub returns-in-Ok-None-clause-said : goal.returns-in-Ok-None-clause-said
returns-in-Ok-None-clause-said g c =
    mounts_said (g.H.Host.told c.args.host.now) (g.H.Host.told c.records.host)
    (g.H.Host.told c.next_event.new.host) c.records.opening c.records.invariant c.next_event.ensures.course c.next_event.ensures.disk
    c.next_event.ensures.said c.next_event.ensures.input

pub returns-in-Ok-None-clause-opened : goal.returns-in-Ok-None-clause-opened
returns-in-Ok-None-clause-opened g c =
    rw c.finish.ensures (mounted (g.H.Host.told c.args.host.now) (g.H.Host.told c.records.host)
    (g.H.Host.told c.next_event.new.host) c.records.opening c.records.invariant c.next_event.ensures.course c.next_event.ensures.disk
    c.next_event.ensures.said c.next_event.ensures.input
    c.next_event.new.self.state (rw c.in-Ok-None.field-0-is at c.in-Ok-None.ensures.store))
