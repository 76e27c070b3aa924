-- The moments of a write and of the sync after it.
use Rattle.std.proofs.Common.{◌≡◌, ◌⊎◌, inl, inr, ⊎_elim, ℕ, ◌+◌, ◌≤◌, List, length, ◌∙◌, ap}
use Rattle.std.specs.Prelude.{IsTrue}
use Rattle.host_port.specs.Host.{Told, GoesOn, Throughout, WrittenPart, disk_now, written, synced}
use Rattle.host_port.proofs.Course.{carry_on}
use Rattle.host_port.proofs.Replaying.{whole_write}
use Rattle.commit_journal.specs.TornWrites.{IsWriting}
use Rattle.commit_journal.proofs.Torn.{part_within}

module _ (a b : Told) (at : ℕ) (bytes : List ℕ)
    (part : Throughout a b (λ disk said. WrittenPart (disk_now a) (record { from = at; to = at + length bytes }) disk)) where
  pub writes : Throughout a b (λ disk said. IsWriting (disk_now a) at bytes disk)
  writes told t low high = inl (part_within (disk_now a) (b.disk t) _ (part told t low high))

  pub writes_and_syncs : (c : Told) → GoesOn a b → GoesOn b c → (IsTrue a.tells → at ≤ length (disk_now a).now)
      → (IsTrue a.tells → disk_now b ≡ written (disk_now a) at bytes)
      → Throughout b c (λ disk said. (disk ≡ disk_now b) ⊎ (disk ≡ synced (disk_now b))) → Throughout a c (λ disk said. IsWriting (disk_now a) at bytes disk)
  writes_and_syncs c ab bc fits done sync told = carry_on a b c (λ disk said. IsWriting (disk_now a) at bytes disk) ab bc writes
      (λ told_b t low high. ⊎_elim
      (λ same. inl (part_within (disk_now a) (c.disk t) _ (whole_write (disk_now a) at bytes (c.disk t) (fits told) (same ∙ done told))))
      (λ is. inr (is ∙ ap synced (done told)))
      (sync told_b t low high)) told
