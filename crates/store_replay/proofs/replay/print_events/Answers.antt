-- Event after event printed as lines: for each way out, what was printed and what the store holds.
use Rattle.std.proofs.Common.{refl, sym, ◌∙◌}
use Rattle.store_replay.proofs.Endings.{unopened}
use Rattle.store_replay.proofs.Events.{went_well, went_wrong}
use Rattle.store_replay.proofs.Walking.{begins, closed, ends_there, faulted, goes_on, is_played, opens, refused, unsaid}
use Rattle.store_replay.proofs.replay.print_events.Goals as goal

pub events-init : goal.events-init
events-init g c = begins (g.H.Host.told c.args.host.now) (g.H.Host.told c.begin.new.host) _ c.in-Ok.ensures.at c.begin.ensures.course c.begin.ensures.said
    c.begin.ensures.input c.in-Ok.ensures.since (λ told. c.in-Ok.ensures.played_up_to told)

-- the store was not opened
pub returns-in-Err : goal.returns-in-Err
returns-in-Err g c = rw c.status_of.ensures (unopened (g.H.Host.told c.args.host.now) (g.H.Host.told c.begin.new.host) c.begin.ensures.course
    c.begin.ensures.said c.begin.ensures.input
    (opens (g.H.Host.told c.args.host.now) (g.H.Host.told c.begin.new.host) c.begin.ensures.said c.begin.ensures.moments) c.begin.ensures.long c.in-Err.fault
    (λ is. c.in-Err.ensures.cause (rw is refl)) c.in-Err.ensures.never c.in-Err.ensures.damaged c.in-Err.ensures.header)

-- the reading stops
pub returns-in-Err-next_event : goal.returns-in-Err-next_event
returns-in-Err-next_event g c = rw c.status_of-in-Err-next_event.ensures (faulted (g.H.Host.told c.args.host.now) (g.H.Host.told c.events.host)
    (g.H.Host.told c.next_event.new.host) c.events.opening c.events.invariant c.next_event.ensures.course c.next_event.ensures.disk
    c.next_event.ensures.said c.next_event.ensures.input c.in-Err-next_event.fault (λ is. c.in-Err-next_event.ensures.cause (rw is refl))
    c.in-Err-next_event.ensures.never c.in-Err-next_event.ensures.damaged c.in-Err-next_event.ensures.offset)

pub returns-in-Ok-None : goal.returns-in-Ok-None
returns-in-Ok-None g c = closed (g.H.Host.told c.args.host.now) (g.H.Host.told c.events.host) (g.H.Host.told c.next_event.new.host) c.events.opening
    c.events.invariant c.next_event.ensures.course c.next_event.ensures.disk c.next_event.ensures.said c.next_event.ensures.input
    c.next_event.new.self.state (rw c.in-Ok-None.field-0-is at c.in-Ok-None.ensures.store)

-- an event was read and played
pub event_said-requires : goal.event_said-requires
event_said-requires g c = is_played (g.H.Host.told c.events.host) (g.H.Host.told c.next_event.new.host) c.events.opening c.next_event.new.self _
    c.repo.result.now (rw c.in-Ok-Some.field-0-is at c.in-Ok-Some.ensures.played) c.repo.ensures

pub returns-in_default : goal.returns-in_default
returns-in_default g c = ends_there (g.H.Host.told c.args.host.now) (g.H.Host.told c.events.host) (g.H.Host.told c.next_event.new.host) c.events.opening
    c.events.invariant c.next_event.ensures.course c.next_event.ensures.disk c.next_event.ensures.said c.next_event.ensures.input

pub returns-then-is_err : goal.returns-then-is_err
returns-then-is_err g c =
    let a = g.H.Host.told c.events.host in
    let b = g.H.Host.told c.next_event.new.host in
    let plays = rw c.in-Ok-Some.field-0-is at c.in-Ok-Some.ensures.played in
    let event = is_played a b c.events.opening c.next_event.new.self _ c.repo.result.now plays c.repo.ensures in
    let printed = c.in-Ok-event_said.ensures event in
    unsaid (g.H.Host.told c.args.host.now) a b c.events.opening c.events.invariant c.next_event.ensures.course c.next_event.ensures.disk
    c.next_event.ensures.said c.next_event.ensures.input c.next_event.new.self _ plays (g.H.Host.told c.say.new.self) c.deref.result.now
    (c.deref.ensures.value ∙ printed.0) c.say.ensures.course c.say.ensures.disk c.say.ensures.input c.say.ensures.part
    (went_wrong _ c.say.result (sym c.is_err.ensures.value ∙ c.if-is_err.true) c.say.ensures.cause)

pub returns-then-not-said : goal.returns-then-not-said
returns-then-not-said g c =
    let a = g.H.Host.told c.events.host in
    let b = g.H.Host.told c.next_event.new.host in
    let plays = rw c.in-Ok-Some.field-0-is at c.in-Ok-Some.ensures.played in
    let event = is_played a b c.events.opening c.next_event.new.self _ c.repo.result.now plays c.repo.ensures in
    let printed = c.in-Ok-event_said.ensures event in
    refused (g.H.Host.told c.args.host.now) a b c.events.opening c.events.invariant c.next_event.ensures.course c.next_event.ensures.disk
    c.next_event.ensures.said c.next_event.ensures.input c.next_event.new.self _ plays (g.H.Host.told c.say.new.self) c.deref.result.now
    (c.deref.ensures.value ∙ printed.0) c.say.ensures.course c.say.ensures.disk c.say.ensures.input c.say.ensures.part
    (went_well _ c.say.result (sym c.is_err.ensures.value ∙ c.if-is_err.false) c.say.ensures.whole) (sym printed.1 ∙ c.if-not-said.true)

pub events-preserved : goal.events-preserved
events-preserved g c =
    let a = g.H.Host.told c.events.host in
    let b = g.H.Host.told c.next_event.new.host in
    let plays = rw c.in-Ok-Some.field-0-is at c.in-Ok-Some.ensures.played in
    let event = is_played a b c.events.opening c.next_event.new.self _ c.repo.result.now plays c.repo.ensures in
    let printed = c.in-Ok-event_said.ensures event in
    goes_on (g.H.Host.told c.args.host.now) a b c.events.opening c.events.invariant c.next_event.ensures.course c.next_event.ensures.disk
    c.next_event.ensures.said c.next_event.ensures.input c.next_event.new.self _ plays (g.H.Host.told c.say.new.self) c.deref.result.now
    (c.deref.ensures.value ∙ printed.0) c.say.ensures.course c.say.ensures.disk c.say.ensures.input c.say.ensures.part
    (went_well _ c.say.result (sym c.is_err.ensures.value ∙ c.if-is_err.false) c.say.ensures.whole) c.in-Ok-Some.ensures.at
    (sym printed.1 ∙ c.if-not-said.false)
