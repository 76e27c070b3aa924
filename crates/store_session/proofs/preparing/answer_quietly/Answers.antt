use Rattle.std.proofs.Common.{ℕ, ap, Err}
use Rattle.commit_journal.specs.Journal.{JournalState}
use Rattle.store_session.specs.declared.answered.SessionFault.TheVariants.{DiskFault, Memory}
use Rattle.store_session.proofs.Faults.{retyped, unbroken_end}
use Rattle.store_session.proofs.preparing.answer_quietly.Goals as goal

abbrev end_of : JournalState → ℕ
end_of j = j.end

pub returns-in-Err-clause-end : goal.returns-in-Err-clause-end
returns-in-Err-clause-end g c = λ unbroken. unbroken_end c.in-Err.fault c.in-Err.ensures.faults _ _ _ _ _ c.requires.end unbroken
    (λ is. c.in-Err.ensures.broken (ap Err is)) (λ is. c.in-Err.ensures.same_repo (ap Err is)) (λ is. ap end_of (c.in-Err.ensures.same_journal (ap Err is)))

pub returns-in-Err-clause-event : goal.returns-in-Err-clause-event
returns-in-Err-clause-event g c = λ is. c.in-Err.ensures.event (retyped c.in-Err.fault DiskFault is)

pub returns-in-Err-clause-broken : goal.returns-in-Err-clause-broken
returns-in-Err-clause-broken g c = λ is. c.in-Err.ensures.broken (retyped c.in-Err.fault DiskFault is)

pub returns-in-Err-clause-cause : goal.returns-in-Err-clause-cause
returns-in-Err-clause-cause g c = λ is. c.in-Err.ensures.cause (retyped c.in-Err.fault DiskFault is)

pub returns-in-Err-clause-memory : goal.returns-in-Err-clause-memory
returns-in-Err-clause-memory g c = λ is. c.in-Err.ensures.memory (retyped c.in-Err.fault Memory is)

pub returns-in-Err-clause-same_repo : goal.returns-in-Err-clause-same_repo
returns-in-Err-clause-same_repo g c = λ is. c.in-Err.ensures.same_repo (retyped c.in-Err.fault Memory is)

pub returns-in-Err-clause-same_journal : goal.returns-in-Err-clause-same_journal
returns-in-Err-clause-same_journal g c = λ is. c.in-Err.ensures.same_journal (retyped c.in-Err.fault Memory is)

pub returns-in-Err-clause-entering : goal.returns-in-Err-clause-entering
returns-in-Err-clause-entering g c = c.carry_out.ensures.entering

pub returns-in-Ok-clause-end : goal.returns-in-Ok-clause-end
returns-in-Ok-clause-end g c = λ unbroken. c.in-Ok.ensures.end

pub returns-in-Ok-clause-refused : goal.returns-in-Ok-clause-refused
returns-in-Ok-clause-refused g c = c.in-Ok.ensures.refused

pub returns-in-Ok-clause-state : goal.returns-in-Ok-clause-state
returns-in-Ok-clause-state g c = c.in-Ok.ensures.state

pub returns-in-Ok-clause-added : goal.returns-in-Ok-clause-added
returns-in-Ok-clause-added g c = c.in-Ok.ensures.added

pub returns-in-Ok-clause-whole : goal.returns-in-Ok-clause-whole
returns-in-Ok-clause-whole g c = c.in-Ok.ensures.whole

pub returns-in-Ok-clause-entering : goal.returns-in-Ok-clause-entering
returns-in-Ok-clause-entering g c = c.carry_out.ensures.entering

pub returns-in-Err-clause-faulted : goal.returns-in-Err-clause-faulted
returns-in-Err-clause-faulted g c = λ is. c.in-Err.ensures.faulted (retyped c.in-Err.fault DiskFault is)

pub returns-in-Err-clause-still : goal.returns-in-Err-clause-still
returns-in-Err-clause-still g c = c.carry_out.ensures.still

pub returns-in-Ok-clause-still : goal.returns-in-Ok-clause-still
returns-in-Ok-clause-still g c = c.carry_out.ensures.still
