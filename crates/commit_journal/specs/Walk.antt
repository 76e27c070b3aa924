-- What the answers of a walk say.
use Rattle.std.specs.Prelude.{ℕ}
use Rattle.commit_journal.specs.declared.fault.JournalFault.{JournalFault}
use Rattle.commit_journal.specs.declared.fault.JournalFault.TheVariants.{Damaged, DiskFault, Memory}

-- a fault that is damage is at an offset that has P
abbrev pub IfDamaged : JournalFault → (ℕ → Type 0) → Type 0
IfDamaged (Damaged at) P = P at
IfDamaged DiskFault P = Unit {0}
IfDamaged Memory P = Unit {0}
