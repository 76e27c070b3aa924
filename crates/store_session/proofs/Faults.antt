-- A command that was not carried out.
use Rattle.std.proofs.Common.{◌≡◌, ◌⊎◌, inl, inr, ℕ, Bool, true, false, sym, ◌∙◌, ap, Err}
use Rattle.std.specs.Prelude.{IsErrOf}
use Rattle.commit_journal.specs.Journal.{JournalState}
use Rattle.plain_repository.specs.State.{State}
use Rattle.store_session.specs.declared.answered.SessionFault.{SessionFault}
use Rattle.store_session.specs.declared.answered.SessionFault.TheVariants.{DiskFault, SayFault, Damaged, Memory}
use Rattle.store_session.specs.Session.{IfMade}
use Rattle.store_session.specs.State.{SessionState}

-- an error is of one fault, and means the same as any other call's error
pub same_fault : {T E : Type 0} (x y : E) → IsErrOf {T = T} {E = E} (Err x) y → x ≡ y
same_fault x y is = cc

pub retyped : {T U E : Type 0} (x y : E) → IsErrOf {T = T} {E = E} (Err x) y → IsErrOf {T = U} {E = E} (Err x) y
retyped x y is = ap Err (same_fault x y is)

pub not_said : (fault : SessionFault) → (fault ≡ DiskFault) ⊎ (fault ≡ Memory) → fault ≡ SayFault → ⊥
not_said fault (inl disk) is = let other : DiskFault ≡ SayFault = sym disk ∙ is in absurd cc
not_said fault (inr memory) is = let other : Memory ≡ SayFault = sym memory ∙ is in absurd cc

pub not_damaged : (fault : SessionFault) → (fault ≡ DiskFault) ⊎ (fault ≡ Memory) → (at : ℕ) → fault ≡ Damaged at → ⊥
not_damaged fault (inl disk) at is = let other : DiskFault ≡ Damaged at = sym disk ∙ is in absurd cc
not_damaged fault (inr memory) at is = let other : Memory ≡ Damaged at = sym memory ∙ is in absurd cc

pub not_made : (fault : SessionFault) (P : Type 0) → (fault ≡ DiskFault) ⊎ (fault ≡ Memory) → IfMade (Err fault) P
not_made DiskFault P is = tt
not_made Memory P is = tt
not_made SayFault P is = absurd (not_said SayFault is (λ i. SayFault))
not_made (Damaged at) P is = absurd (not_damaged (Damaged at) is at (λ i. Damaged at))

-- a session that is still whole is as it was
pub unbroken_end : (fault : SessionFault) → (fault ≡ DiskFault) ⊎ (fault ≡ Memory) → (repo repo_new : State) (end end_new : ℕ) (broken_new : Bool)
    → repo.end ≡ end → broken_new ≡ false
    → (fault ≡ DiskFault → broken_new ≡ true) → (fault ≡ Memory → repo_new ≡ repo) → (fault ≡ Memory → end_new ≡ end) → repo_new.end ≡ end_new
unbroken_end fault (inl disk) repo repo_new end end_new broken_new at whole broken same_repo same_end = let other : false ≡ true =
    sym whole ∙ broken disk in absurd cc
unbroken_end fault (inr memory) repo repo_new end end_new broken_new at whole broken same_repo same_end =
    ap (λ (s : State). s.end) (same_repo memory) ∙ at ∙ sym (same_end memory)

-- a session of the same parts
pub same_view : (repo repo_new : State) (journal journal_new : JournalState) → repo_new ≡ repo → journal_new ≡ journal
    → let new : SessionState = record { state = repo_new; end = journal_new.end; broken = journal_new.broken }
    in let old : SessionState = record { state = repo; end = journal.end; broken = journal.broken } in new ≡ old
same_view repo repo_new journal journal_new one two = λ i. record { state = one i; end = (two i).end; broken = (two i).broken }
