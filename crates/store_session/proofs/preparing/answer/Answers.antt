-- A command answered: its event is in the file before its reply is printed, for each place where a call may fail.
use Rattle.std.proofs.Common.{ℕ, ◌∙◌, ap, Err}
use Rattle.commit_journal.specs.Journal.{JournalState}
use Rattle.host_port.proofs.Course.{adds_none, keeps_disk_on}
use Rattle.store_session.specs.declared.answered.SessionFault.TheVariants.{DiskFault, SayFault, Memory}
use Rattle.store_session.specs.Session.{answer_to}
use Rattle.store_session.proofs.Answering.{entered_moments, said_added, said_moments, said_part, said_whole}
use Rattle.store_session.proofs.Faults.{same_fault, retyped, not_made, not_said, not_damaged, unbroken_end}
use Rattle.store_session.proofs.preparing.answer.Goals as goal

abbrev end_of : JournalState → ℕ
end_of j = j.end

pub returns-in-Err-clause-state : goal.returns-in-Err-clause-state
returns-in-Err-clause-state g c = not_made c.in-Err.fault _ c.in-Err.ensures.faults

pub returns-in-Err-clause-added : goal.returns-in-Err-clause-added
returns-in-Err-clause-added g c = not_made c.in-Err.fault _ c.in-Err.ensures.faults

pub returns-in-Err-clause-whole : goal.returns-in-Err-clause-whole
returns-in-Err-clause-whole g c = not_made c.in-Err.fault _ c.in-Err.ensures.faults

pub returns-in-Err-clause-end : goal.returns-in-Err-clause-end
returns-in-Err-clause-end g c = λ unbroken. unbroken_end c.in-Err.fault c.in-Err.ensures.faults _ _ _ _ _ c.requires.end unbroken
    (λ is. c.in-Err.ensures.broken (ap Err is)) (λ is. c.in-Err.ensures.same_repo (ap Err is)) (λ is. ap end_of (c.in-Err.ensures.same_journal (ap Err is)))

pub returns-in-Err-clause-event : goal.returns-in-Err-clause-event
returns-in-Err-clause-event g c = λ is. c.in-Err.ensures.event (retyped c.in-Err.fault DiskFault is)

pub returns-in-Err-clause-unsaid : goal.returns-in-Err-clause-unsaid
returns-in-Err-clause-unsaid g c = λ is. c.carry_out.ensures.said

pub returns-in-Err-clause-broken : goal.returns-in-Err-clause-broken
returns-in-Err-clause-broken g c = λ is. c.in-Err.ensures.broken (retyped c.in-Err.fault DiskFault is)

pub returns-in-Err-clause-part : goal.returns-in-Err-clause-part
returns-in-Err-clause-part g c =
    adds_none (g.H.Host.told c.args.host.now) (g.H.Host.told c.carry_out.new.host)
    (answer_to c.args.repo.now c.args.line.now c.args.block.now).reply c.carry_out.ensures.said

pub returns-in-Err-clause-moments : goal.returns-in-Err-clause-moments
returns-in-Err-clause-moments g c =
    entered_moments (g.H.Host.told c.args.host.now) (g.H.Host.told c.carry_out.new.host) c.args.repo.now
    (answer_to c.args.repo.now c.args.line.now c.args.block.now) c.carry_out.ensures.course c.carry_out.ensures.said c.carry_out.ensures.entering

pub returns-in-Err-clause-disk_cause : goal.returns-in-Err-clause-disk_cause
returns-in-Err-clause-disk_cause g c = λ is. c.in-Err.ensures.cause (retyped c.in-Err.fault DiskFault is)

pub returns-in-Err-clause-say_cause : goal.returns-in-Err-clause-say_cause
returns-in-Err-clause-say_cause g c = λ is. absurd (not_said c.in-Err.fault c.in-Err.ensures.faults (same_fault c.in-Err.fault SayFault is))

pub returns-in-Err-clause-memory : goal.returns-in-Err-clause-memory
returns-in-Err-clause-memory g c = λ is. (c.in-Err.ensures.memory (retyped c.in-Err.fault Memory is), c.carry_out.ensures.said)

pub returns-in-Err-clause-same_repo : goal.returns-in-Err-clause-same_repo
returns-in-Err-clause-same_repo g c = λ is. c.in-Err.ensures.same_repo (retyped c.in-Err.fault Memory is)

pub returns-in-Err-clause-same_journal : goal.returns-in-Err-clause-same_journal
returns-in-Err-clause-same_journal g c = λ is. c.in-Err.ensures.same_journal (retyped c.in-Err.fault Memory is)

pub returns-in-Err-clause-never : goal.returns-in-Err-clause-never
returns-in-Err-clause-never g c = λ at is. not_damaged c.in-Err.fault c.in-Err.ensures.faults at is

pub returns-in-Ok-say-clause-refused : goal.returns-in-Ok-say-clause-refused
returns-in-Ok-say-clause-refused g c = c.in-Ok.ensures.refused

pub returns-in-Ok-say-clause-replied : goal.returns-in-Ok-say-clause-replied
returns-in-Ok-say-clause-replied g c =
    said_whole (g.H.Host.told c.args.host.now) (g.H.Host.told c.carry_out.new.host) c.args.repo.now
    (answer_to c.args.repo.now c.args.line.now c.args.block.now) c.carry_out.ensures.course c.carry_out.ensures.said c.carry_out.ensures.entering
    (g.H.Host.told c.say.new.self) c.carry_out.new.repo c.deref.result.now
    (c.deref.ensures.value ∙ c.in-Ok.ensures.reply) c.say.ensures.course c.say.ensures.disk c.say.ensures.part c.in-Ok.ensures.added
    c.in-Ok-say.ensures.whole

pub returns-in-Ok-say-clause-state : goal.returns-in-Ok-say-clause-state
returns-in-Ok-say-clause-state g c = c.in-Ok.ensures.state

pub returns-in-Ok-say-clause-added : goal.returns-in-Ok-say-clause-added
returns-in-Ok-say-clause-added g c =
    said_added (g.H.Host.told c.args.host.now) (g.H.Host.told c.carry_out.new.host) c.args.repo.now
    (answer_to c.args.repo.now c.args.line.now c.args.block.now) c.carry_out.ensures.course c.carry_out.ensures.said c.carry_out.ensures.entering
    (g.H.Host.told c.say.new.self) c.carry_out.new.repo c.deref.result.now
    (c.deref.ensures.value ∙ c.in-Ok.ensures.reply) c.say.ensures.course c.say.ensures.disk c.say.ensures.part c.in-Ok.ensures.added

pub returns-in-Ok-say-clause-whole : goal.returns-in-Ok-say-clause-whole
returns-in-Ok-say-clause-whole g c = c.in-Ok.ensures.whole

pub returns-in-Ok-say-clause-end : goal.returns-in-Ok-say-clause-end
returns-in-Ok-say-clause-end g c = λ unbroken. c.in-Ok.ensures.end

pub returns-in-Ok-say-clause-part : goal.returns-in-Ok-say-clause-part
returns-in-Ok-say-clause-part g c =
    said_part (g.H.Host.told c.args.host.now) (g.H.Host.told c.carry_out.new.host) c.args.repo.now
    (answer_to c.args.repo.now c.args.line.now c.args.block.now) c.carry_out.ensures.course c.carry_out.ensures.said c.carry_out.ensures.entering
    (g.H.Host.told c.say.new.self) c.carry_out.new.repo c.deref.result.now
    (c.deref.ensures.value ∙ c.in-Ok.ensures.reply) c.say.ensures.course c.say.ensures.disk c.say.ensures.part c.in-Ok.ensures.added

pub returns-in-Ok-say-clause-moments : goal.returns-in-Ok-say-clause-moments
returns-in-Ok-say-clause-moments g c =
    said_moments (g.H.Host.told c.args.host.now) (g.H.Host.told c.carry_out.new.host) c.args.repo.now
    (answer_to c.args.repo.now c.args.line.now c.args.block.now) c.carry_out.ensures.course c.carry_out.ensures.said c.carry_out.ensures.entering
    (g.H.Host.told c.say.new.self) c.carry_out.new.repo c.deref.result.now
    (c.deref.ensures.value ∙ c.in-Ok.ensures.reply) c.say.ensures.course c.say.ensures.disk c.say.ensures.part c.in-Ok.ensures.added

pub returns-clause-state : goal.returns-clause-state
returns-clause-state g c = c.in-Ok.ensures.state

pub returns-clause-added : goal.returns-clause-added
returns-clause-added g c =
    said_added (g.H.Host.told c.args.host.now) (g.H.Host.told c.carry_out.new.host) c.args.repo.now
    (answer_to c.args.repo.now c.args.line.now c.args.block.now) c.carry_out.ensures.course c.carry_out.ensures.said c.carry_out.ensures.entering
    (g.H.Host.told c.say.new.self) c.carry_out.new.repo c.deref.result.now
    (c.deref.ensures.value ∙ c.in-Ok.ensures.reply) c.say.ensures.course c.say.ensures.disk c.say.ensures.part c.in-Ok.ensures.added

pub returns-clause-whole : goal.returns-clause-whole
returns-clause-whole g c = c.in-Ok.ensures.whole

pub returns-clause-end : goal.returns-clause-end
returns-clause-end g c = λ unbroken. c.in-Ok.ensures.end

pub returns-clause-part : goal.returns-clause-part
returns-clause-part g c =
    said_part (g.H.Host.told c.args.host.now) (g.H.Host.told c.carry_out.new.host) c.args.repo.now
    (answer_to c.args.repo.now c.args.line.now c.args.block.now) c.carry_out.ensures.course c.carry_out.ensures.said c.carry_out.ensures.entering
    (g.H.Host.told c.say.new.self) c.carry_out.new.repo c.deref.result.now
    (c.deref.ensures.value ∙ c.in-Ok.ensures.reply) c.say.ensures.course c.say.ensures.disk c.say.ensures.part c.in-Ok.ensures.added

pub returns-clause-moments : goal.returns-clause-moments
returns-clause-moments g c =
    said_moments (g.H.Host.told c.args.host.now) (g.H.Host.told c.carry_out.new.host) c.args.repo.now
    (answer_to c.args.repo.now c.args.line.now c.args.block.now) c.carry_out.ensures.course c.carry_out.ensures.said c.carry_out.ensures.entering
    (g.H.Host.told c.say.new.self) c.carry_out.new.repo c.deref.result.now
    (c.deref.ensures.value ∙ c.in-Ok.ensures.reply) c.say.ensures.course c.say.ensures.disk c.say.ensures.part c.in-Ok.ensures.added

pub returns-in-Err-clause-faulted : goal.returns-in-Err-clause-faulted
returns-in-Err-clause-faulted g c = λ is. c.in-Err.ensures.faulted (retyped c.in-Err.fault DiskFault is)

pub returns-in-Err-clause-still : goal.returns-in-Err-clause-still
returns-in-Err-clause-still g c = c.carry_out.ensures.still

pub returns-in-Ok-say-clause-still : goal.returns-in-Ok-say-clause-still
returns-in-Ok-say-clause-still g c =
    λ none. keeps_disk_on (g.H.Host.told c.args.host.now) (g.H.Host.told c.carry_out.new.host)
    (g.H.Host.told c.say.new.self) c.carry_out.ensures.course c.say.ensures.course (c.carry_out.ensures.still none) c.say.ensures.disk

pub returns-clause-still : goal.returns-clause-still
returns-clause-still g c =
    λ none. keeps_disk_on (g.H.Host.told c.args.host.now) (g.H.Host.told c.carry_out.new.host)
    (g.H.Host.told c.say.new.self) c.carry_out.ensures.course c.say.ensures.course (c.carry_out.ensures.still none) c.say.ensures.disk
