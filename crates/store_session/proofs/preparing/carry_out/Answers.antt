-- A command carried out without a reply, for each place where a call may fail.
use Rattle.std.proofs.Common.{ℕ, ◌++◌, sym, ◌∙◌, ap, subst}
use Rattle.host_port.specs.Host.{disk_now}
use Rattle.host_port.proofs.Course.{still_disk}
use Rattle.command_runs.specs.Runs.{listed}
use Rattle.plain_repository.specs.State.{State}
use Rattle.plain_repository.specs.Repository.{decide_line}
use Rattle.store_session.specs.Session.{IsStoreOf}
use Rattle.store_session.proofs.Entering.{still_entering, event_ready, ready_none}
use Rattle.store_session.proofs.Holding.{forms_alike}
use Rattle.store_session.proofs.preparing.carry_out.Goals as goal

abbrev end_of : State → ℕ
end_of s = s.end

pub enter-requires-clause-ready : goal.enter-requires-clause-ready
enter-requires-clause-ready g c =
    (c.args.repo.now, (decide_line c.args.repo.now c.args.line.now c.args.block.now).event, c.in-Ok.ensures.prepared_answer.ready, c.requires.end)

pub enter-requires-clause-holds : goal.enter-requires-clause-holds
enter-requires-clause-holds g c = λ told. let had = c.requires.open told in (c.args.repo.now, had.0, had.1, c.requires.end)

pub returns-in_default-clause-entering : goal.returns-in_default-clause-entering
returns-in_default-clause-entering g c =
    λ made holds. still_entering (g.H.Host.told c.args.host.now) c.args.repo.now made
    (decide_line c.args.repo.now c.args.line.now c.args.block.now).event holds

pub returns-in-Ok-enter-clause-reply : goal.returns-in-Ok-enter-clause-reply
returns-in-Ok-enter-clause-reply g c = c.in-Ok.ensures.prepared_answer.reply

pub returns-in-Ok-enter-clause-refused : goal.returns-in-Ok-enter-clause-refused
returns-in-Ok-enter-clause-refused g c = c.in-Ok.ensures.prepared_answer.answered

pub returns-in-Ok-enter-clause-state : goal.returns-in-Ok-enter-clause-state
returns-in-Ok-enter-clause-state g c = c.in-Ok.ensures.state

pub returns-in-Ok-enter-clause-added : goal.returns-in-Ok-enter-clause-added
returns-in-Ok-enter-clause-added g c = λ told made holds.
    subst (λ (s : State). IsStoreOf (disk_now (g.H.Host.told c.enter.new.host)) s
    (made ++ listed (decide_line c.args.repo.now c.args.line.now c.args.block.now).event)) (sym c.in-Ok.ensures.state)
    (c.in-Ok-enter.ensures.added told c.args.repo.now
    (decide_line c.args.repo.now c.args.line.now c.args.block.now).event c.requires.end c.in-Ok.ensures.prepared_answer.ready made holds)

pub returns-in-Ok-enter-clause-end : goal.returns-in-Ok-enter-clause-end
returns-in-Ok-enter-clause-end g c =
    ap end_of c.in-Ok.ensures.state
    ∙ c.in-Ok-enter.ensures.end c.args.repo.now
    (decide_line c.args.repo.now c.args.line.now c.args.block.now).event c.requires.end c.in-Ok.ensures.prepared_answer.ready

pub returns-in-Ok-enter-clause-entering : goal.returns-in-Ok-enter-clause-entering
returns-in-Ok-enter-clause-entering g c =
    λ made holds. c.enter.ensures.entering c.args.repo.now
    (decide_line c.args.repo.now c.args.line.now c.args.block.now).event c.requires.end c.in-Ok.ensures.prepared_answer.ready made holds

pub returns-in-Err-clause-entering : goal.returns-in-Err-clause-entering
returns-in-Err-clause-entering g c =
    λ made holds. c.enter.ensures.entering c.args.repo.now
    (decide_line c.args.repo.now c.args.line.now c.args.block.now).event c.requires.end c.in-Ok.ensures.prepared_answer.ready made holds

pub returns-in-Err-clause-event : goal.returns-in-Err-clause-event
returns-in-Err-clause-event g c =
    λ is. event_ready c.prepare.new.pool c.args.repo.now
    (decide_line c.args.repo.now c.args.line.now c.args.block.now).event c.in-Ok.prepared_answer.ready c.in-Ok.ensures.prepared_answer.ready
    c.in-Err.ensures.event

pub returns-in_default-clause-still : goal.returns-in_default-clause-still
returns-in_default-clause-still g c = λ none. still_disk (g.H.Host.told c.args.host.now)

pub returns-in-Ok-enter-clause-still : goal.returns-in-Ok-enter-clause-still
returns-in-Ok-enter-clause-still g c =
    λ none. c.enter.ensures.still
    (ready_none c.prepare.new.pool c.args.repo.now
    (decide_line c.args.repo.now c.args.line.now c.args.block.now).event c.in-Ok.prepared_answer.ready none c.in-Ok.ensures.prepared_answer.ready)

pub returns-in-Err-clause-still : goal.returns-in-Err-clause-still
returns-in-Err-clause-still g c =
    λ none. c.enter.ensures.still
    (ready_none c.prepare.new.pool c.args.repo.now
    (decide_line c.args.repo.now c.args.line.now c.args.block.now).event c.in-Ok.prepared_answer.ready none c.in-Ok.ensures.prepared_answer.ready)

pub returns-in-Err-clause-faulted : goal.returns-in-Err-clause-faulted
returns-in-Err-clause-faulted g c = λ is. c.in-Ok.ensures.state

pub returns-in-Ok-enter-clause-forms : goal.returns-in-Ok-enter-clause-forms
returns-in-Ok-enter-clause-forms g c =
    forms_alike c.prepare.new.repo c.prepare.new.pool c.enter.new.pool c.prepare.new.cache c.enter.ensures.stands c.prepare.ensures.forms

pub returns-in-Err-clause-forms : goal.returns-in-Err-clause-forms
returns-in-Err-clause-forms g c =
    forms_alike c.prepare.new.repo c.prepare.new.pool c.enter.new.pool c.prepare.new.cache c.enter.ensures.stands c.prepare.ensures.forms
