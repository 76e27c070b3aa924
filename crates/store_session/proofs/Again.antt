-- A record that is read at the second try, after the first one ran out of memory.
use Rattle.std.proofs.Common.{◌≡◌, ℕ, List, Option, Some, None, Result, Ok, Err, sym, subst}
use Rattle.std.specs.Prelude.{IfOk, IfErr, IfSome, IfNone, IsTrue}
use Rattle.host_port.specs.Host.{Disk, GoesOn, KeepsDisk, Told, disk_now}
use Rattle.host_port.proofs.Course.{kept_now, told_next}
use Rattle.commit_journal.specs.Journal.{IsStuck, IsWalked, StandsForNone, WalkState}
use Rattle.commit_journal.specs.Walk.{IfDamaged}
use Rattle.commit_journal.specs.declared.fault.JournalFault.{JournalFault}
use Rattle.commit_journal.specs.declared.fault.JournalFault.TheVariants as journals

-- what is said of what was read, or of a fault
pub some_on : {T E : Type 0} (r : Result (Option T) E) (P Q : T → Type 0) → ((t : T) → P t → Q t) → IfOk r (λ next. IfSome next P)
    → IfOk r (λ next. IfSome next Q)
some_on (Ok (Some t)) P Q gives p = gives t p
some_on (Ok None) P Q gives p = tt
some_on (Err e) P Q gives p = tt

pub none_on : {T E : Type 0} (r : Result (Option T) E) (P Q : Type 0) → (P → Q) → IfOk r (λ next. IfNone next P) → IfOk r (λ next. IfNone next Q)
none_on (Ok (Some t)) P Q gives p = tt
none_on (Ok None) P Q gives p = gives p
none_on (Err e) P Q gives p = tt

pub fault_on : {T : Type 0} (r : Result T JournalFault) (P Q : ℕ → Type 0) → ((at : ℕ) → P at → Q at) → IfErr r (λ fault. IfDamaged fault P)
    → IfErr r (λ fault. IfDamaged fault Q)
fault_on (Ok t) P Q gives p = tt
fault_on (Err (journals.Damaged at)) P Q gives p = gives at p
fault_on (Err journals.DiskFault) P Q gives p = tt
fault_on (Err journals.Memory) P Q gives p = tt

-- the first try read nothing, and left the disk and the walk
module _ (a b : Told) (course : GoesOn a b) (disk : KeepsDisk a b) where
  still : IsTrue a.tells → disk_now b ≡ disk_now a
  still told = kept_now a b course disk told

  pub nothing_still : (IsTrue b.tells → StandsForNone (disk_now b).now) → IsTrue a.tells → StandsForNone (disk_now a).now
  nothing_still none told = subst (λ (d : Disk). StandsForNone d.now) (still told) (none (told_next a b course told))

  module _ (old mid : WalkState) (is : mid ≡ old) where
    pub walked_still : IsTrue a.tells → (forms : List (List ℕ)) → IsWalked (disk_now a) forms old.next → IsWalked (disk_now b) forms mid.next
    walked_still told forms had =
        subst (λ (d : Disk). IsWalked d forms mid.next) (sym (still told)) (subst (λ (w : WalkState). IsWalked (disk_now a) forms w.next) (sym is) had)

    pub stuck_still : (at : ℕ) → (at ≡ mid.next) × (IsTrue b.tells → IsStuck (disk_now b).now at)
        → (at ≡ old.next) × (IsTrue a.tells → IsStuck (disk_now a).now at)
    stuck_still at stuck = (
      subst (λ (w : WalkState). at ≡ w.next) is stuck.0,
      λ told. subst (λ (d : Disk). IsStuck d.now at) (still told) (stuck.1 (told_next a b course told)),
    )
