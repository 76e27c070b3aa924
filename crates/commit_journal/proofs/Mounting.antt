-- What a crash leaves while a journal is mounted.
use Rattle.std.proofs.Common.{◌≡◌, ◌⊎◌, inl, inr, ⊎_elim, ℕ, ◌<◌, ◌≤◌, List, [], ◌∷◌, ◌++◌, length, take, get_or, refl, sym, ◌∙◌, ap, subst, arith}
use Rattle.std.specs.Prelude.{IsTrue}
use Rattle.std.proofs.lemmas.List.{append-nil, drop_all}
use Rattle.host_port.specs.Host.{Told, Disk, MayLeave, GoesOn, Throughout, KeepsDisk, disk_now, overwritten, written, synced, CrashLeaves}
use Rattle.host_port.proofs.Course.{carry_on, told_next, course_on, kept_now}
use Rattle.commit_journal.specs.TornWrites.{IsStable, IsWriting}
use Rattle.commit_journal.specs.Journal.{header, new_file, ReadsTo, EndsAt, StandsFor, StandsForSame, IsNoHeader, IsWalked, MountedFrom, IsAtMostSynced}
use Rattle.commit_journal.proofs.Torn.{left_stable}
use Rattle.commit_journal.proofs.Append.{synced_stable, left_torn}
use Rattle.commit_journal.proofs.Walking.{no_header}

abbrev pub IsMounting : Disk → Disk → Type 0
IsMounting old disk = (disk ≡ old) ⊎ CrashLeaves (StandsForSame old.now) disk

synced_leaves : (old disk : Disk) → disk ≡ synced old → IsMounting old disk
synced_leaves old disk is = inr (λ x left.
    let same = left_stable (synced old) x (synced_stable old) (subst (λ d. MayLeave d x) is left) in
    λ forms stands. subst (λ (l : List ℕ). StandsFor l forms) (sym same) stands)

sync_leaves : (old disk : Disk) → (disk ≡ old) ⊎ (disk ≡ synced old) → IsMounting old disk
sync_leaves old disk (inl is) = inl is
sync_leaves old disk (inr is) = synced_leaves old disk is

short_same : (old new : List ℕ) → length old ≤ 17 → length new ≤ 17 → StandsForSame old new
short_same old new short_old short_new forms (inl is) = inl (short_new, is.1)
short_same old new short_old short_new forms (inr is) = absurd (omega (arith, is.0))

pub length-new_file : length new_file ≡ 17
unfolding new_file header
length-new_file = refl

-- the bytes of a new file as the code spells them
abbrev pub plain_file : List ℕ
plain_file = 69 ∷ 77 ∷ 70 ∷ 83 ∷ 84 ∷ 79 ∷ 82 ∷ 69 ∷ 0 ∷ 0 ∷ 0 ∷ 1 ∷ 0 ∷ 0 ∷ 0 ∷ 0 ∷ 0 ∷ []

plain_is : plain_file ≡ new_file
unfolding new_file header
plain_is = refl

header_leaves : (old disk : Disk) → length old.now ≤ 17 → IsWriting (synced old) 0 plain_file disk → IsMounting old disk
header_leaves old disk short writing = inr (λ x left.
    let torn = left_torn (synced old) 0 plain_file (synced_stable old) (omega arith) disk writing x left in
    short_same old.now x short (omega (arith, torn.no_longer)))

over_short : (old : List ℕ) → length old ≤ 17 → overwritten old 0 plain_file ≡ new_file
over_short old short = ap (λ (l : List ℕ). plain_file ++ l) (drop_all 17 old short) ∙ append-nil plain_file ∙ plain_is

front_is : take 16 new_file ≡ header ++ []
unfolding new_file header
front_is = refl

gate_is_shut : get_or new_file 16 0 ≡ 0
unfolding new_file header
gate_is_shut = refl

pub new_reads : ReadsTo new_file [] 16
new_reads = record { prefix = front_is; offset_is = refl; sizes = λ k d low. absurd (omega arith) }

pub new_ends : EndsAt new_file [] 16
new_ends = record {
  reads = new_reads;
  in_file = omega (arith, length-new_file);
  closed =
      λ is_open. absurd (omega (arith, gate_is_shut, is_open));
  low = omega arith;
}

-- the host at the start, after the sync and after the length
module _ (a s l : Told) (sync_course : GoesOn a s) (sync_moments : Throughout a s (λ disk said. (disk ≡ disk_now a) ⊎ (disk ≡ synced (disk_now a))))
    (stable : IsTrue a.tells → disk_now s ≡ synced (disk_now a)) (len_course : GoesOn s l) (len_disk : KeepsDisk s l) where
  pub told_at_len : IsTrue a.tells → IsTrue l.tells
  told_at_len told = told_next s l len_course (told_next a s sync_course told)

  pub disk_at_len : IsTrue a.tells → disk_now l ≡ synced (disk_now a)
  disk_at_len told = kept_now s l len_course len_disk (told_next a s sync_course told) ∙ stable told

  course_to_len : GoesOn a l
  course_to_len = course_on a s l sync_course len_course

  pub up_to_len : Throughout a l (λ disk said. IsMounting (disk_now a) disk)
  up_to_len told = carry_on a s l (λ disk said. IsMounting (disk_now a) disk) sync_course len_course
      (λ told t low high. sync_leaves (disk_now a) (s.disk t) (sync_moments told t low high))
      (λ told_s t low high. synced_leaves (disk_now a) (l.disk t) (len_disk told_s t low high ∙ stable told)) told

  pub now_to_len : Throughout a l (λ disk said. disk.now ≡ (disk_now a).now)
  now_to_len told = carry_on a s l (λ disk said. disk.now ≡ (disk_now a).now) sync_course len_course
      (λ told t low high. ⊎_elim (ap (λ (d : Disk). d.now)) (ap (λ (d : Disk). d.now)) (sync_moments told t low high))
      (λ told_s t low high. ap (λ (d : Disk). d.now) (len_disk told_s t low high ∙ stable told)) told

  pub synced_to_len : Throughout a l (λ disk said. IsAtMostSynced (disk_now a) disk)
  synced_to_len told = carry_on a s l (λ disk said. IsAtMostSynced (disk_now a) disk) sync_course len_course sync_moments
      (λ told_s t low high. inr (len_disk told_s t low high ∙ stable told)) told

  -- and after the reading of the header
  module _ (e : Told) (course : GoesOn l e) (disk : KeepsDisk l e) where
    pub up_to_read : Throughout a e (λ disk said. IsMounting (disk_now a) disk)
    up_to_read told = carry_on a l e (λ disk said. IsMounting (disk_now a) disk) course_to_len course up_to_len
        (λ told_l t low high. synced_leaves (disk_now a) (e.disk t) (disk told_l t low high ∙ disk_at_len told)) told

    pub now_to_read : Throughout a e (λ disk said. disk.now ≡ (disk_now a).now)
    now_to_read told = carry_on a l e (λ disk said. disk.now ≡ (disk_now a).now) course_to_len course now_to_len
        (λ told_l t low high. ap (λ (d : Disk). d.now) (disk told_l t low high ∙ disk_at_len told)) told

    pub synced_to_read : Throughout a e (λ disk said. IsAtMostSynced (disk_now a) disk)
    synced_to_read told = carry_on a l e (λ disk said. IsAtMostSynced (disk_now a) disk) course_to_len course synced_to_len
        (λ told_l t low high. inr (disk told_l t low high ∙ disk_at_len told)) told

    pub disk_at_read : IsTrue a.tells → disk_now e ≡ synced (disk_now a)
    disk_at_read told = kept_now l e course disk (told_at_len told) ∙ disk_at_len told

    module _ (length_is : IsTrue a.tells → 17 < length (disk_now a).now) where
      pub read_mounted : IsTrue a.tells → MountedFrom (disk_now a).now (disk_now e).now
      read_mounted told = inl (length_is told, ap (λ (d : Disk). d.now) (disk_at_read told))

      pub read_walked : (head : List ℕ) → IsTrue a.tells → head ≡ take 16 (disk_now l).now → head ≡ header → IsWalked (disk_now e) [] 16
      read_walked head told is same = subst (λ d. IsWalked d [] 16) (sym (disk_at_read told)) (record {
        stable = synced_stable (disk_now a);
        mounted = inl (length_is told);
        reads = record {
          prefix = sym (is ∙ ap (λ (d : Disk). take 16 d.now) (disk_at_len told)) ∙ same ∙ sym (append-nil header);
          offset_is = refl;
          sizes = λ k d low. absurd (omega arith);
        };
      })

      pub read_same : IsTrue a.tells → StandsForSame (disk_now a).now (disk_now e).now
      read_same told forms stands = subst (λ (d : Disk). StandsFor d.now forms) (sym (disk_at_read told)) stands

    pub differs : (head : List ℕ) (at : ℕ) → head ≡ take 16 (disk_now l).now → IsNoHeader head at → IsTrue a.tells → IsNoHeader (disk_now a).now at
    differs head at is none told = no_header (disk_now a).now head at (is ∙ ap (λ (d : Disk). take 16 d.now) (disk_at_len told)) none

  -- and after the writing of the header
  module _ (e : Told) (course : GoesOn l e) (short : IsTrue a.tells → length (disk_now a).now ≤ 17)
      (during : Throughout l e (λ disk said. IsWriting (disk_now l) 0 plain_file disk)) where
    pub up_to_write : Throughout a e (λ disk said. IsMounting (disk_now a) disk)
    up_to_write told = carry_on a l e (λ disk said. IsMounting (disk_now a) disk) course_to_len course up_to_len
        (λ told_l t low high. header_leaves (disk_now a) (e.disk t) (short told)
        (subst (λ (d : Disk). IsWriting d 0 plain_file (e.disk t)) (disk_at_len told) (during told_l t low high))) told

    module _ (done : IsTrue l.tells → disk_now e ≡ synced (written (disk_now l) 0 plain_file)) where
      disk_at_write : IsTrue a.tells → disk_now e ≡ synced (written (synced (disk_now a)) 0 plain_file)
      disk_at_write told = done (told_at_len told) ∙ ap (λ (d : Disk). synced (written d 0 plain_file)) (disk_at_len told)

      file_at_write : IsTrue a.tells → (disk_now e).now ≡ new_file
      file_at_write told = ap (λ (d : Disk). d.now) (disk_at_write told) ∙ over_short (disk_now a).now (short told)

      pub written_mounted : IsTrue a.tells → MountedFrom (disk_now a).now (disk_now e).now
      written_mounted told = inr (short told, file_at_write told)

      pub written_walked : IsTrue a.tells → IsWalked (disk_now e) [] 16
      written_walked told = record {
        stable = subst IsStable (sym (disk_at_write told)) (synced_stable (written (synced (disk_now a)) 0 plain_file));
        mounted = inr (file_at_write told);
        reads = subst (λ (l : List ℕ). ReadsTo l [] 16) (sym (file_at_write told)) new_reads;
      }

      pub written_same : IsTrue a.tells → StandsForSame (disk_now a).now (disk_now e).now
      written_same told = short_same (disk_now a).now (disk_now e).now (short told) (omega (arith, ap length (file_at_write told), length-new_file))
