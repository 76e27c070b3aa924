-- One item answered, by the gate's refusal or by the session: for each end of it, what was printed and what the store holds.
use Rattle.std.proofs.Common.{◌≡◌, ◌++◌, List, None, subst, true}
use Rattle.std.specs.Prelude.{IsTrue, IfOk, OnOk, IsErrOf, IsSome}
use Rattle.host_port.specs.Host.{AddsPart, KeepsDisk, Throughout, disk_now, said_now}
use Rattle.host_port.proofs.Course.{adds_none, still_disk, still_said}
use Rattle.command_runs.specs.Crashes.{IsStepping}
use Rattle.command_runs.specs.Runs.{Answer, after, listed}
use Rattle.op_form.specs.declared.event.Event.{Event}
use Rattle.plain_repository.specs.Events.{play}
use Rattle.plain_repository.specs.Store.{StandsForEvents}
use Rattle.store_session.specs.declared.answered.SessionFault.TheVariants.{DiskFault}
use Rattle.store_session.specs.Session.{IfMade, IsStoreOf, answer_to, answered_as}
use Rattle.store_session.proofs.Entering.{quiet_step}
use Rattle.store_session.specs.Tasks.{gated, telling_one}
use Rattle.store_runs.proofs.Script.{let_in, refused_by, refusal_added, refusal_moments, refusal_part, refusal_refused, refusal_said, refusal_state}
use Rattle.store_runs.proofs.serving.answer_item.Given.{Over}
use Rattle.store_runs.proofs.serving.answer_item.Goals.{After-block, In-Ok-Some}
use Rattle.store_runs.proofs.serving.answer_item.Goals as goal

-- a line that the gate lets in is answered by the session, and one that it refuses by the refusal
let_in_here : (g : Over) (c : After-block g)
    → answer_to c.args.session.now.state c.line-line.result.now c.block.result.now
    ≡ gated (g.G.Gate.refusal c.args.gate.now) c.args.session.now.state c.args.item.now
let_in_here g c =
    let_in (g.G.Gate.refusal c.args.gate.now) c.args.session.now.state c.repo.result.now c.args.item.now c.line-line.result.now c.requires.read
    c.repo.ensures c.line-line.ensures c.block.result.now c.block.ensures (rw c.in-Ok-None.field-0-is at c.in-Ok-None.ensures)

refused_here : (g : Over) (c : In-Ok-Some g)
    → gated (g.G.Gate.refusal c.args.gate.now) c.args.session.now.state c.args.item.now ≡ telling_one c.in-Ok-Some.reply.items true
refused_here g c =
    refused_by (g.G.Gate.refusal c.args.gate.now) c.args.session.now.state c.repo.result.now c.args.item.now c.line-line.result.now c.requires.read
    c.repo.ensures c.line-line.ensures c.in-Ok-Some.reply.items (rw c.in-Ok-Some.field-0-is at c.in-Ok-Some.ensures)

-- ---- the line is let in
pub returns-in-Ok-None-clause-refused : goal.returns-in-Ok-None-clause-refused
returns-in-Ok-None-clause-refused g c =
    subst (λ (a : Answer Event). IfOk c.step.result (λ given. given ≡ answered_as a.refused))
    (let_in_here g (goal.at.returns-in-Ok-None-clause-refused g c).After-block) c.step.ensures.refused

pub returns-in-Ok-None-clause-replied : goal.returns-in-Ok-None-clause-replied
returns-in-Ok-None-clause-replied g c =
    let old = g.H.Host.told c.args.host.now in
    let new = g.H.Host.told c.step.new.host in
    subst (λ (a : Answer Event). OnOk c.step.result (IsTrue old.tells → said_now new ≡ said_now old ++ a.reply))
    (let_in_here g (goal.at.returns-in-Ok-None-clause-replied g c).After-block) c.step.ensures.replied

pub returns-in-Ok-None-clause-state : goal.returns-in-Ok-None-clause-state
returns-in-Ok-None-clause-state g c =
    subst (λ (a : Answer Event). IfMade c.step.result (c.step.new.self.state ≡ after play c.args.session.now.state a.event))
    (let_in_here g (goal.at.returns-in-Ok-None-clause-state g c).After-block) c.step.ensures.state

pub returns-in-Ok-None-clause-added : goal.returns-in-Ok-None-clause-added
returns-in-Ok-None-clause-added g c =
    let old = g.H.Host.told c.args.host.now in
    let new = g.H.Host.told c.step.new.host in
    subst (λ (a : Answer Event). IfMade c.step.result (IsTrue old.tells → (made : List Event) → IsStoreOf (disk_now old) c.args.session.now.state made
    → IsStoreOf (disk_now new) c.step.new.self.state (made ++ listed a.event)))
    (let_in_here g (goal.at.returns-in-Ok-None-clause-added g c).After-block) c.step.ensures.added

pub returns-in-Ok-None-clause-event : goal.returns-in-Ok-None-clause-event
returns-in-Ok-None-clause-event g c =
    subst (λ (a : Answer Event). IsErrOf c.step.result DiskFault → IsSome a.event)
    (let_in_here g (goal.at.returns-in-Ok-None-clause-event g c).After-block) c.step.ensures.event

pub returns-in-Ok-None-clause-still : goal.returns-in-Ok-None-clause-still
returns-in-Ok-None-clause-still g c =
    let old = g.H.Host.told c.args.host.now in
    let new = g.H.Host.told c.step.new.host in
    subst (λ (a : Answer Event). a.event ≡ None → KeepsDisk old new) (let_in_here g (goal.at.returns-in-Ok-None-clause-still g c).After-block)
    c.step.ensures.still

pub returns-in-Ok-None-clause-part : goal.returns-in-Ok-None-clause-part
returns-in-Ok-None-clause-part g c =
    let old = g.H.Host.told c.args.host.now in
    let new = g.H.Host.told c.step.new.host in
    subst (λ (a : Answer Event). Throughout old new (λ disk said. AddsPart (said_now old) a.reply said))
    (let_in_here g (goal.at.returns-in-Ok-None-clause-part g c).After-block) c.step.ensures.part

pub returns-in-Ok-None-clause-moments : goal.returns-in-Ok-None-clause-moments
returns-in-Ok-None-clause-moments g c =
    let old = g.H.Host.told c.args.host.now in
    let new = g.H.Host.told c.step.new.host in
    subst (λ (a : Answer Event). (made : List Event) → IsStoreOf (disk_now old) c.args.session.now.state made → Throughout old new
    (IsStepping StandsForEvents made a.event (said_now old))) (let_in_here g (goal.at.returns-in-Ok-None-clause-moments g c).After-block)
    c.step.ensures.moments

-- ---- memory runs out
pub returns-in-Err-clause-part : goal.returns-in-Err-clause-part
returns-in-Err-clause-part g c =
    adds_none (g.H.Host.told c.args.host.now) (g.H.Host.told c.args.host.now)
    (gated (g.G.Gate.refusal c.args.gate.now) c.args.session.now.state c.args.item.now).reply (still_said (g.H.Host.told c.args.host.now))

pub returns-in-Err-clause-moments : goal.returns-in-Err-clause-moments
returns-in-Err-clause-moments g c =
    λ made holds. quiet_step (g.H.Host.told c.args.host.now) (g.H.Host.told c.args.host.now) c.args.session.now.state made
    (gated (g.G.Gate.refusal c.args.gate.now) c.args.session.now.state c.args.item.now).event holds (still_disk (g.H.Host.told c.args.host.now))
    (still_said (g.H.Host.told c.args.host.now))

pub returns-in-Err-clause-still : goal.returns-in-Err-clause-still
returns-in-Err-clause-still g c = λ none. still_disk (g.H.Host.told c.args.host.now)

pub returns-in-Err-clause-memory : goal.returns-in-Err-clause-memory
returns-in-Err-clause-memory g c = λ is. (still_disk (g.H.Host.told c.args.host.now), still_said (g.H.Host.told c.args.host.now))

-- ---- the line is refused
pub returns-in-Ok-clause-refused : goal.returns-in-Ok-clause-refused
returns-in-Ok-clause-refused g c =
    let old = g.H.Host.told c.args.host.now in
    let new = g.H.Host.told c.say.new.self in
    let answer = gated (g.G.Gate.refusal c.args.gate.now) c.args.session.now.state c.args.item.now in
    refusal_refused old new c.args.session.now.state answer c.in-Ok-Some.reply.items c.deref.result.now
    (refused_here g (goal.at.returns-in-Ok-clause-refused g c).In-Ok-Some) c.deref.ensures.value c.say.ensures.course c.say.ensures.disk
    c.say.ensures.part

pub returns-in-Ok-clause-replied : goal.returns-in-Ok-clause-replied
returns-in-Ok-clause-replied g c =
    let old = g.H.Host.told c.args.host.now in
    let new = g.H.Host.told c.say.new.self in
    let answer = gated (g.G.Gate.refusal c.args.gate.now) c.args.session.now.state c.args.item.now in
    refusal_said old new c.args.session.now.state answer c.in-Ok-Some.reply.items c.deref.result.now
    (refused_here g (goal.at.returns-in-Ok-clause-replied g c).In-Ok-Some) c.deref.ensures.value c.say.ensures.course c.say.ensures.disk
    c.say.ensures.part c.in-Ok.ensures.whole

pub returns-in-Ok-clause-state : goal.returns-in-Ok-clause-state
returns-in-Ok-clause-state g c =
    let old = g.H.Host.told c.args.host.now in
    let new = g.H.Host.told c.say.new.self in
    let answer = gated (g.G.Gate.refusal c.args.gate.now) c.args.session.now.state c.args.item.now in
    refusal_state old new c.args.session.now.state answer c.in-Ok-Some.reply.items c.deref.result.now
    (refused_here g (goal.at.returns-in-Ok-clause-state g c).In-Ok-Some) c.deref.ensures.value c.say.ensures.course c.say.ensures.disk
    c.say.ensures.part

pub returns-in-Ok-clause-added : goal.returns-in-Ok-clause-added
returns-in-Ok-clause-added g c =
    let old = g.H.Host.told c.args.host.now in
    let new = g.H.Host.told c.say.new.self in
    let answer = gated (g.G.Gate.refusal c.args.gate.now) c.args.session.now.state c.args.item.now in
    refusal_added old new c.args.session.now.state answer c.in-Ok-Some.reply.items c.deref.result.now
    (refused_here g (goal.at.returns-in-Ok-clause-added g c).In-Ok-Some) c.deref.ensures.value c.say.ensures.course c.say.ensures.disk
    c.say.ensures.part

pub returns-in-Ok-clause-part : goal.returns-in-Ok-clause-part
returns-in-Ok-clause-part g c =
    let old = g.H.Host.told c.args.host.now in
    let new = g.H.Host.told c.say.new.self in
    let answer = gated (g.G.Gate.refusal c.args.gate.now) c.args.session.now.state c.args.item.now in
    refusal_part old new c.args.session.now.state answer c.in-Ok-Some.reply.items c.deref.result.now
    (refused_here g (goal.at.returns-in-Ok-clause-part g c).In-Ok-Some) c.deref.ensures.value c.say.ensures.course c.say.ensures.disk
    c.say.ensures.part

pub returns-in-Ok-clause-moments : goal.returns-in-Ok-clause-moments
returns-in-Ok-clause-moments g c =
    let old = g.H.Host.told c.args.host.now in
    let new = g.H.Host.told c.say.new.self in
    let answer = gated (g.G.Gate.refusal c.args.gate.now) c.args.session.now.state c.args.item.now in
    refusal_moments old new c.args.session.now.state answer c.in-Ok-Some.reply.items c.deref.result.now
    (refused_here g (goal.at.returns-in-Ok-clause-moments g c).In-Ok-Some) c.deref.ensures.value c.say.ensures.course c.say.ensures.disk
    c.say.ensures.part

pub returns-clause-state : goal.returns-clause-state
returns-clause-state g c =
    let old = g.H.Host.told c.args.host.now in
    let new = g.H.Host.told c.say.new.self in
    let answer = gated (g.G.Gate.refusal c.args.gate.now) c.args.session.now.state c.args.item.now in
    refusal_state old new c.args.session.now.state answer c.in-Ok-Some.reply.items c.deref.result.now
    (refused_here g (goal.at.returns-clause-state g c).In-Ok-Some) c.deref.ensures.value c.say.ensures.course c.say.ensures.disk c.say.ensures.part

pub returns-clause-added : goal.returns-clause-added
returns-clause-added g c =
    let old = g.H.Host.told c.args.host.now in
    let new = g.H.Host.told c.say.new.self in
    let answer = gated (g.G.Gate.refusal c.args.gate.now) c.args.session.now.state c.args.item.now in
    refusal_added old new c.args.session.now.state answer c.in-Ok-Some.reply.items c.deref.result.now
    (refused_here g (goal.at.returns-clause-added g c).In-Ok-Some) c.deref.ensures.value c.say.ensures.course c.say.ensures.disk c.say.ensures.part

pub returns-clause-part : goal.returns-clause-part
returns-clause-part g c =
    let old = g.H.Host.told c.args.host.now in
    let new = g.H.Host.told c.say.new.self in
    let answer = gated (g.G.Gate.refusal c.args.gate.now) c.args.session.now.state c.args.item.now in
    refusal_part old new c.args.session.now.state answer c.in-Ok-Some.reply.items c.deref.result.now
    (refused_here g (goal.at.returns-clause-part g c).In-Ok-Some) c.deref.ensures.value c.say.ensures.course c.say.ensures.disk c.say.ensures.part

pub returns-clause-moments : goal.returns-clause-moments
returns-clause-moments g c =
    let old = g.H.Host.told c.args.host.now in
    let new = g.H.Host.told c.say.new.self in
    let answer = gated (g.G.Gate.refusal c.args.gate.now) c.args.session.now.state c.args.item.now in
    refusal_moments old new c.args.session.now.state answer c.in-Ok-Some.reply.items c.deref.result.now
    (refused_here g (goal.at.returns-clause-moments g c).In-Ok-Some) c.deref.ensures.value c.say.ensures.course c.say.ensures.disk c.say.ensures.part
