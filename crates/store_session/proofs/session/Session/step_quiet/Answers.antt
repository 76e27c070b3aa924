-- One item carried out without a reply: what the session stands for after it, for each fault.
use Rattle.std.proofs.Common.{Bool, List, sym, ◌∙◌, ap, subst}
use Rattle.host_port.specs.Host.{disk_now}
use Rattle.op_form.specs.declared.event.Event.{Event}
use Rattle.store_session.specs.Session.{IsStoreOf}
use Rattle.store_session.specs.State.{SessionState}
use Rattle.store_session.proofs.Faults.{same_view}
use Rattle.store_session.proofs.session.Session.step_quiet.Goals as goal

abbrev broken_of : SessionState → Bool
broken_of s = s.broken

pub answer_quietly-requires-clause-whole : goal.answer_quietly-requires-clause-whole
answer_quietly-requires-clause-whole g c = ap broken_of c.self.view_is ∙ c.requires.whole

pub answer_quietly-requires-clause-end : goal.answer_quietly-requires-clause-end
answer_quietly-requires-clause-end g c = c.self.invariant.0 (ap broken_of c.self.view_is ∙ c.requires.whole)

pub answer_quietly-requires-clause-open : goal.answer_quietly-requires-clause-open
answer_quietly-requires-clause-open g c =
    λ told. subst (λ (s : SessionState). (made : List Event) × IsStoreOf (disk_now (g.H.Host.told c.args.host.now)) s.state made) (sym c.self.view_is)
    (c.requires.open told)

pub answer_quietly-requires-clause-all : goal.answer_quietly-requires-clause-all
answer_quietly-requires-clause-all g c = c.self.invariant.1

pub answer_quietly-requires-clause-forms : goal.answer_quietly-requires-clause-forms
answer_quietly-requires-clause-forms g c = c.self.invariant.2

pub invariant_of-self : goal.invariant_of-self
invariant_of-self g c = (c.answer_quietly.ensures.end, c.answer_quietly.ensures.all, c.answer_quietly.ensures.forms)

pub returns-clause-refused : goal.returns-clause-refused
returns-clause-refused g c = rw (sym c.self.view_is) c.answer_quietly.ensures.refused

pub returns-clause-state : goal.returns-clause-state
returns-clause-state g c = rw (sym c.self.view_is) c.answer_quietly.ensures.state

pub returns-clause-added : goal.returns-clause-added
returns-clause-added g c = rw (sym c.self.view_is) c.answer_quietly.ensures.added

pub returns-clause-event : goal.returns-clause-event
returns-clause-event g c = rw (sym c.self.view_is) c.answer_quietly.ensures.event

pub returns-clause-entering : goal.returns-clause-entering
returns-clause-entering g c = rw (sym c.self.view_is) c.answer_quietly.ensures.entering

pub returns-clause-whole : goal.returns-clause-whole
returns-clause-whole g c = c.answer_quietly.ensures.whole

pub returns-clause-faults : goal.returns-clause-faults
returns-clause-faults g c = c.answer_quietly.ensures.faults

pub returns-clause-broken : goal.returns-clause-broken
returns-clause-broken g c = c.answer_quietly.ensures.broken

pub returns-clause-cause : goal.returns-clause-cause
returns-clause-cause g c = c.answer_quietly.ensures.cause

pub returns-clause-memory : goal.returns-clause-memory
returns-clause-memory g c = c.answer_quietly.ensures.memory

pub returns-clause-course : goal.returns-clause-course
returns-clause-course g c = c.answer_quietly.ensures.course

pub returns-clause-said : goal.returns-clause-said
returns-clause-said g c = c.answer_quietly.ensures.said

pub returns-clause-input : goal.returns-clause-input
returns-clause-input g c = c.answer_quietly.ensures.input

pub returns-clause-same : goal.returns-clause-same
returns-clause-same g c = λ is. same_view _ _ _ _ (c.answer_quietly.ensures.same_repo is) (c.answer_quietly.ensures.same_journal is) ∙ c.self.view_is

pub returns-clause-faulted : goal.returns-clause-faulted
returns-clause-faulted g c = rw (sym c.self.view_is) c.answer_quietly.ensures.faulted

pub returns-clause-still : goal.returns-clause-still
returns-clause-still g c = rw (sym c.self.view_is) c.answer_quietly.ensures.still
