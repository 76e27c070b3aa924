-- One item answered with its reply: what the session stands for after it, for each fault.
use Rattle.std.proofs.Common.{Bool, List, sym, ◌∙◌, ap, subst}
use Rattle.host_port.specs.Host.{disk_now}
use Rattle.op_form.specs.declared.event.Event.{Event}
use Rattle.store_session.specs.Session.{IsStoreOf}
use Rattle.store_session.specs.State.{SessionState}
use Rattle.store_session.proofs.Faults.{same_view}
use Rattle.store_session.proofs.session.Session.step.Goals as goal

abbrev broken_of : SessionState → Bool
broken_of s = s.broken

pub answer-requires-clause-whole : goal.answer-requires-clause-whole
answer-requires-clause-whole g c = ap broken_of c.self.view_is ∙ c.requires.whole

pub answer-requires-clause-end : goal.answer-requires-clause-end
answer-requires-clause-end g c = c.self.invariant.0 (ap broken_of c.self.view_is ∙ c.requires.whole)

pub answer-requires-clause-open : goal.answer-requires-clause-open
answer-requires-clause-open g c =
    λ told. subst (λ (s : SessionState). (made : List Event) × IsStoreOf (disk_now (g.H.Host.told c.args.host.now)) s.state made) (sym c.self.view_is)
    (c.requires.open told)

pub answer-requires-clause-all : goal.answer-requires-clause-all
answer-requires-clause-all g c = c.self.invariant.1

pub answer-requires-clause-forms : goal.answer-requires-clause-forms
answer-requires-clause-forms g c = c.self.invariant.2

pub invariant_of-self : goal.invariant_of-self
invariant_of-self g c = (c.answer.ensures.end, c.answer.ensures.all, c.answer.ensures.forms)

pub returns-clause-refused : goal.returns-clause-refused
returns-clause-refused g c = rw (sym c.self.view_is) c.answer.ensures.refused

pub returns-clause-replied : goal.returns-clause-replied
returns-clause-replied g c = rw (sym c.self.view_is) c.answer.ensures.replied

pub returns-clause-state : goal.returns-clause-state
returns-clause-state g c = rw (sym c.self.view_is) c.answer.ensures.state

pub returns-clause-added : goal.returns-clause-added
returns-clause-added g c = rw (sym c.self.view_is) c.answer.ensures.added

pub returns-clause-whole : goal.returns-clause-whole
returns-clause-whole g c = c.answer.ensures.whole

pub returns-clause-event : goal.returns-clause-event
returns-clause-event g c = rw (sym c.self.view_is) c.answer.ensures.event

pub returns-clause-unsaid : goal.returns-clause-unsaid
returns-clause-unsaid g c = c.answer.ensures.unsaid

pub returns-clause-broken : goal.returns-clause-broken
returns-clause-broken g c = c.answer.ensures.broken

pub returns-clause-part : goal.returns-clause-part
returns-clause-part g c = rw (sym c.self.view_is) c.answer.ensures.part

pub returns-clause-moments : goal.returns-clause-moments
returns-clause-moments g c = rw (sym c.self.view_is) c.answer.ensures.moments

pub returns-clause-course : goal.returns-clause-course
returns-clause-course g c = c.answer.ensures.course

pub returns-clause-input : goal.returns-clause-input
returns-clause-input g c = c.answer.ensures.input

pub returns-clause-disk_cause : goal.returns-clause-disk_cause
returns-clause-disk_cause g c = c.answer.ensures.disk_cause

pub returns-clause-say_cause : goal.returns-clause-say_cause
returns-clause-say_cause g c = c.answer.ensures.say_cause

pub returns-clause-memory : goal.returns-clause-memory
returns-clause-memory g c = c.answer.ensures.memory

pub returns-clause-never : goal.returns-clause-never
returns-clause-never g c = c.answer.ensures.never

pub returns-clause-same : goal.returns-clause-same
returns-clause-same g c = λ is. same_view _ _ _ _ (c.answer.ensures.same_repo is) (c.answer.ensures.same_journal is) ∙ c.self.view_is

pub returns-clause-faulted : goal.returns-clause-faulted
returns-clause-faulted g c = rw (sym c.self.view_is) c.answer.ensures.faulted

pub returns-clause-still : goal.returns-clause-still
returns-clause-still g c = rw (sym c.self.view_is) c.answer.ensures.still
